-- A core beside its whole lists, and beside the machine of each shard's copies: the whole lists are those of the machine.
use Rattle.std.specs.List.{All}
use Rattle.std.specs.Prelude.{◌≡◌, ℕ, ◌≤◌, Bool, true, false, List, [], ◌++◌, Option, Some, None, drop, if◌then◌else◌, length, map, take}
use Rattle.hs_copies.specs.Lists.{IsFront, Item}
use Rattle.hs_copies.specs.Machine.{Copies}
use Rattle.hs_core_copies.specs.InStep.{IsInStep, IsOf}
use Rattle.hs_core_copies.specs.Lists.{AreHeld, numbered}
use Rattle.hs_core_words.specs.Looking.{first_job, front_of, group_of, lead_of, rejoin_of, shape_of, status_of}
use Rattle.hs_core_words.specs.State.{Core}
use Rattle.hs_desk.specs.declared.job.Job.{Job}
use Rattle.hs_desk.specs.declared.job.Job.TheVariants as job
use Rattle.hs_entry.specs.declared.entry.Entry.{Entry}
use Rattle.hs_entry.specs.Entries.{is_of_base}
use Rattle.hs_events.specs.Taken.{peer_count}
use Rattle.hs_events.specs.Whole.{Whole, reach}
use Rattle.hs_limits.specs.declared.limits.PeerStatus.TheVariants.{Joining}
use Rattle.hs_limits.specs.Shape.{IsShape}
use Rattle.hs_members.specs.Members.{IsShard, is_good_status}
use Rattle.hs_rejoin.specs.Rejoin.{Rejoin}
use Rattle.hs_replica.specs.Group.{commit_front}

-- ---- what a disk may have behind its peer's list

-- an entry is being copied to a peer
abbrev pub is_copying : Option Job → Bool
is_copying None = false
is_copying (Some (job.Append number entry)) = false
is_copying (Some (job.Seal number)) = false
is_copying (Some (job.Read number)) = false
is_copying (Some job.Reset) = false
is_copying (Some (job.Copy from number)) = true
is_copying (Some job.Reclaim) = false

-- the entry of the copying step that is due, which is the next of the lead's list; of a peer that has none, what its last one may have added
abbrev pub added_to : ℕ → Core → Copies Entry → List (Item Entry)
added_to peer core copies =
    if is_copying (first_job peer core) then take 1 (drop (length (copies.peers peer).list) copies.log) else (copies.peers peer).adding

-- the longest list that its disk may have
abbrev pub longest : ℕ → Core → Copies Entry → List (Item Entry)
longest peer core copies = (copies.peers peer).list ++ added_to peer core copies

-- ---- a shard

-- none of them is a Base, or kept behind one
abbrev pub ArePlain : List Entry → Type 0
ArePlain entries = All (λ entry. is_of_base entry ≡ false) entries

-- a joining peer copies from the lead
abbrev pub FollowsLead : ℕ → Core → Type 0
FollowsLead shard core =
    (peer : ℕ) (r : Rejoin) → IsOf (shape_of core) shard peer → status_of peer core ≡ Joining → rejoin_of peer core ≡ Some r → lead_of shard core ≡ Some r.from

-- the whole lists of a shard's peers are those of the machine, with which its core is in step
pub record IsShardInStep (shard : ℕ) (c : Whole) (copies : Copies Entry) : Type 0 where
  -- the core is in step: messages that are under way were sent, and jobs are those of what is unsealed
  pub in_step : IsInStep shard c.core copies
  -- what a peer has sealed is in its list
  pub held : AreHeld copies
  -- a peer's list, and the longest one that its disk may have
  pub lists : (peer : ℕ) → IsOf (shape_of c.core) shard peer → c.lists peer ≡ numbered (copies.peers peer).list
  pub reaches : (peer : ℕ) → IsOf (shape_of c.core) shard peer → reach c peer ≡ numbered (longest peer c.core copies)
  -- neither there nor in what waits to take effect is a Base
  pub plain : (peer : ℕ) → IsOf (shape_of c.core) shard peer → ArePlain (map (λ x. x.what) (longest peer c.core copies))
  pub waits : ArePlain (group_of shard c.core).waiting
  -- exactly that has taken effect which every good peer is known to have sealed
  pub settled : front_of shard c.core ≡ commit_front (group_of shard c.core)
  pub follows : FollowsLead shard c.core

-- ---- all of it

-- each shard is; of a peer that there is none no list is; and a disk that counts as blank is of a peer that is not good
pub record IsWholeInStep (c : Whole) (machines : ℕ → Copies Entry) : Type 0 where
  pub going : c.core.ended ≡ None
  pub shape : IsShape (shape_of c.core)
  pub each : (shard : ℕ) → IsShard (shape_of c.core) shard → IsShardInStep shard c (machines shard)
  pub past : (peer : ℕ) → peer_count (shape_of c.core) ≤ peer → c.lists peer ≡ []
  pub aside : (peer : ℕ) → c.aside peer ≡ true → is_good_status (status_of peer c.core) ≡ false

-- the shard is so with another machine, in which all that took effect before stands at the front of what has taken effect; and what has stood in the lead's list before
pub record StaysInStep (shard : ℕ) (after : Whole) (before : Copies Entry) : Type 0 where
  pub copies : Copies Entry
  pub keeps : IsShardInStep shard after copies
  pub took : IsFront before.took copies.took
  pub stood : IsFront copies.took before.log

-- and so is the whole core
pub record StaysWhole (after : Whole) (before : ℕ → Copies Entry) : Type 0 where
  pub machines : ℕ → Copies Entry
  pub keeps : IsWholeInStep after machines
  pub took : (shard : ℕ) → IsShard (shape_of after.core) shard → IsFront (before shard).took (machines shard).took
  pub stood : (shard : ℕ) → IsShard (shape_of after.core) shard → IsFront (machines shard).took (before shard).log
