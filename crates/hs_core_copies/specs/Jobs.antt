-- The jobs of entries: each is appended and then sealed, with Reads before or behind; and which entries a peer has not sealed.
use Rattle.std.specs.Option.{option_map_or}
use Rattle.std.specs.Prelude.{◌≡◌, ◌≢◌, ◌⊎◌, ℕ, ◌-◌, List, [], ◌∷◌, ◌++◌, Option, Some, None, flat_map, take}
use Rattle.hs_core_words.specs.declared.task.Task.{Task}
use Rattle.hs_core_words.specs.Looking.{group_of, status_of, tasks_of}
use Rattle.hs_core_words.specs.State.{Core}
use Rattle.hs_desk.specs.declared.job.Job.TheVariants as job
use Rattle.hs_entry.specs.declared.entry.Entry.{Entry}
use Rattle.hs_limits.specs.declared.limits.PeerStatus.TheVariants.{Good}
use Rattle.hs_replica.specs.Group.{Group, copy_of, entries_above, length_of}

-- ---- the jobs of entries

-- an entry of this number, to be appended and then sealed, or a Read of it for the operation of a line
pub record Queued : Type 0 where
  pub number : ℕ
  pub entry : Option Entry
  pub line : ℕ

abbrev pub seal_of : ℕ → Task
seal_of number = record { job = job.Seal number; line = 0 }

abbrev pub tasks_for : Queued → List Task
tasks_for queued = by_kind queued.entry
  where
    by_kind : Option Entry → List Task
    by_kind (Some entry) = record { job = job.Append queued.number entry; line = 0 } ∷ seal_of queued.number ∷ []
    by_kind None = record { job = job.Read queued.number; line = queued.line } ∷ []

abbrev pub entry_for : Queued → List (ℕ × Entry)
entry_for queued = option_map_or (λ entry. (queued.number, entry) ∷ []) queued.entry []

-- these are the jobs of these entries: each is appended and then sealed, with Reads before or behind
pub record AreJobs (entries : List (ℕ × Entry)) (tasks : List Task) : Type 0 where
  pub queue : List Queued
  pub all : entries ≡ flat_map entry_for queue
  pub jobs : tasks ≡ flat_map tasks_for queue

-- and these, where the first entry was appended: its Seal comes first
pub record AreBegun (entries : List (ℕ × Entry)) (tasks : List Task) : Type 0 where
  pub first : ℕ × Entry
  pub others : List (ℕ × Entry)
  pub behind : List Task
  pub all : entries ≡ first ∷ others
  pub jobs : tasks ≡ seal_of first.0 ∷ behind
  pub rest : AreJobs others behind

abbrev pub HasJobs : List (ℕ × Entry) → List Task → Type 0
HasJobs entries tasks = AreJobs entries tasks ⊎ AreBegun entries tasks

-- ---- a peer's

-- the entries of a peer's list that it has not sealed, each with its number: they wait to take effect
abbrev pub unsealed : ℕ → Group → List (ℕ × Entry)
unsealed peer group =
    take (length_of group peer - (copy_of group peer).sealed) (entries_above (copy_of group peer).sealed group)

-- the jobs of a good peer are those of what it has not sealed; another peer has no job
pub record HasItsJobs (shard : ℕ) (core : Core) (peer : ℕ) : Type 0 where
  pub good : status_of peer core ≡ Good → HasJobs (unsealed peer (group_of shard core)) (tasks_of peer core)
  pub other : status_of peer core ≢ Good → tasks_of peer core ≡ []
