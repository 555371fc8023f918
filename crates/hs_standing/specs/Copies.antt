-- What is asked of a core of any number of copies, as an event comes: seats, and what is known of copies; so along events.
use Rattle.std.specs.Prelude.{◌≡◌, ℕ, ◌*◌, ◌<◌, ◌≤◌, Bool, true, false, [], ◌∷◌, Some, None, length}
use Rattle.hs_core_words.specs.declared.event.Event.{Event}
use Rattle.hs_core_words.specs.declared.task.Task.{Task}
use Rattle.hs_core_words.specs.Looking.{first_task, group_of, home, shape_of, status_of}
use Rattle.hs_core_words.specs.Records.{HasRecordRoom}
use Rattle.hs_core_words.specs.State.{Core}
use Rattle.hs_core_words.specs.Step.{step}
use Rattle.hs_desk.specs.declared.job.Job.{Job}
use Rattle.hs_desk.specs.declared.job.Job.TheVariants as job
use Rattle.hs_events.specs.Due.{Events}
use Rattle.hs_members.specs.Members.{has_good, is_good_status}
use Rattle.hs_post.specs.declared.message.Message.TheVariants as message
use Rattle.hs_post.specs.Pool.{message_at}
use Rattle.hs_replica.specs.Group.{Group, IsHome, commit_front, copy_of, hears, last_number, length_of}

-- there is a list for each shard and a status for each peer
pub record IsSeated (core : Core) : Type 0 where
  pub lists : length core.groups ≡ (shape_of core).shards
  pub peers : length core.members.statuses ≡ (shape_of core).shards * (shape_of core).copies
  pub copies : 0 < (shape_of core).copies

-- a copy has sealed no more than its list has, and no more than there is
pub record IsWithinLists (group : Group) (peer : ℕ) : Type 0 where
  pub own : (copy_of group peer).sealed ≤ length_of group peer
  pub all : (copy_of group peer).sealed ≤ last_number group

-- of a shard: it has a copy for each of its peers, of which one is good; all good ones are known to have sealed no more than there is
pub record KnowsCopies (shard : ℕ) (core : Core) : Type 0 where
  pub same_shape : (group_of shard core).shape ≡ shape_of core
  pub same_shard : (group_of shard core).shard ≡ shard
  pub copies : length (group_of shard core).copies ≡ (shape_of core).copies
  pub led : has_good shard core.members ≡ true
  pub known : commit_front (group_of shard core) ≤ last_number (group_of shard core)
  pub sealed : (peer : ℕ) → IsHome (group_of shard core) peer → is_good_status (status_of peer core) ≡ true → IsWithinLists (group_of shard core) peer

-- whether a job empties a disk, or copies an entry to it
abbrev pub is_of_joining : Job → Bool
is_of_joining job.Reset = true
is_of_joining (job.Copy from number) = true
is_of_joining other = false

-- what is known of copies is within the lead's list, and so is what Seals and Haves are to tell; no good peer is emptied or copies
pub record KnowsItsCopies (core : Core) : Type 0 where
  pub each : (shard : ℕ) → shard < (shape_of core).shards → KnowsCopies shard core
  pub seals : (peer number : ℕ) (task : Task) → first_task peer core ≡ Some task → task.job ≡ job.Seal number → number ≤ last_number (group_of (home peer core) core)
  pub haves : (number shard from to view sealed : ℕ) → message_at number core.pool ≡ Some (message.Have shard from to view sealed) → hears from view (group_of shard core) ≡ true
      → sealed ≤ last_number (group_of shard core)
  pub joining : (peer : ℕ) (task : Task) → first_task peer core ≡ Some task → is_of_joining task.job ≡ true → is_good_status (status_of peer core) ≡ false

-- an event comes to such a core with few root records, where this is so of both
pub record ComesOn (May : Event → Core → Type 0) (event : Event) (core : Core) : Type 0 where
  pub seated : IsSeated core
  pub known : KnowsItsCopies core
  pub room : HasRecordRoom core
  pub may : May event core

-- so does each of some, as long as the core goes on
abbrev pub AllComeOn : (Event → Core → Type 0) → Core → Events → Type 0
AllComeOn May core [] = Unit {0}
AllComeOn May core (e ∷ es) = (core.ended ≡ None → ComesOn May e.0 core) × AllComeOn May (step e.0 e.1 core) es

-- along events a core has its seats, and knows its copies, as long as it goes on
abbrev pub AllKnowTheirCopies : Core → Events → Type 0
AllKnowTheirCopies core [] = Unit {0}
AllKnowTheirCopies core (e ∷ es) = (core.ended ≡ None → IsSeated core × KnowsItsCopies core) × AllKnowTheirCopies (step e.0 e.1 core) es
