-- How a store of one copy a shard stands between two events: a core beside the whole lists.
use Rattle.std.specs.List.{All, enumerate_from}
use Rattle.std.specs.Option.{option_map}
use Rattle.std.specs.Prelude.{◌≡◌, ℕ, ◌<◌, ◌≤◌, false, List, [], Option, Some, None, slice_get}
use Rattle.hs_core_words.specs.Looking.{first_job, group_of, home, sealed_of, shape_of, tasks_of}
use Rattle.hs_core_words.specs.State.{Core}
use Rattle.hs_desk.specs.declared.job.Job.{Job}
use Rattle.hs_desk.specs.declared.job.Job.TheVariants as job
use Rattle.hs_entry.specs.declared.entry.Entry.{Entry}
use Rattle.hs_entry.specs.Entries.{is_of_base}
use Rattle.hs_fold.specs.Shards.Setting.{Numbered}
use Rattle.hs_replica.specs.Group.{entries_above}
use Rattle.hs_events.specs.Alone.{AreAlone, IsCounted, IsSettled, face}
use Rattle.hs_events.specs.Whole.{Whole}

-- ---- what stands unsealed

-- the first entry that a peer has not sealed
abbrev pub next_entry : ℕ → Core → Option Entry
next_entry peer core = option_map (λ e. e.1) (slice_get (entries_above (sealed_of peer core) (group_of (home peer core) core)) 0)

-- the entry that a peer has appended and not sealed: its Seal comes first
abbrev pub appended_of : ℕ → Core → Option Entry
appended_of peer core = by_job (first_job peer core)
  where
    by_job : Option Job → Option Entry
    by_job None = None
    by_job (Some (job.Append number entry)) = None
    by_job (Some (job.Seal number)) = next_entry peer core
    by_job (Some (job.Read number)) = None
    by_job (Some job.Reset) = None
    by_job (Some (job.Copy from number)) = None
    by_job (Some job.Reclaim) = None

-- ---- all of it

-- the core goes on; each peer is good and leads its shard alone, what it has sealed took effect, and its list is whole; no disk counts as blank
pub record IsSane (c : Whole) : Type 0 where
  pub going : c.core.ended ≡ None
  pub alone : AreAlone (face c.core)
  pub settled : (peer : ℕ) → peer < (shape_of c.core).shards → IsSettled (group_of peer c.core) (tasks_of peer c.core)
  pub lists : (peer : ℕ) → peer < (shape_of c.core).shards → IsCounted (c.lists peer) (group_of peer c.core)
  pub past : (peer : ℕ) → (shape_of c.core).shards ≤ peer → c.lists peer ≡ []
  pub adds : (peer : ℕ) → c.adds peer ≡ []
  pub counted : (peer : ℕ) → peer < (shape_of c.core).shards → c.aside peer ≡ false

-- a list that is numbered from 1 on, without a Base
pub record IsFromOne (list : Numbered) : Type 0 where
  pub entries : List Entry
  pub counted : list ≡ enumerate_from 1 entries
  pub plain : All (λ entry. is_of_base entry ≡ false) entries
