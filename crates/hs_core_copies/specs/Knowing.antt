-- What the core knows of a shard's copies: nothing that is known, and nothing that is told under way, goes beyond what is so.
use Rattle.std.specs.List.{All}
use Rattle.std.specs.Map.{values_of}
use Rattle.std.specs.Prelude.{◌≡◌, ℕ, ◌+◌, ◌-◌, ◌<◌, ◌≤◌, true, Some, slice_get}
use Rattle.hs_core_words.specs.Looking.{front_of, group_of, lead_of, status_of}
use Rattle.hs_core_words.specs.State.{Core}
use Rattle.hs_entry.specs.declared.entry.Entry.{Entry}
use Rattle.hs_limits.specs.declared.limits.PeerStatus.TheVariants.{Good}
use Rattle.hs_members.specs.Members.{is_good_status}
use Rattle.hs_post.specs.declared.message.Message.{Message}
use Rattle.hs_post.specs.declared.message.Message.TheVariants as message
use Rattle.hs_replica.specs.Group.{Group, commit_front, copy_of, last_number, length_of}
use Rattle.hs_core_copies.specs.InStep.{IsOf}

-- of a good peer: what took effect it is known to have sealed, what it is known to have sealed it has sealed, what it
-- has sealed is in its list, and its list is no longer than the lead's
pub record IsKnown (group : Group) (peer : ℕ) : Type 0 where
  pub effects : group.front ≤ (copy_of group peer).known
  pub known : (copy_of group peer).known ≤ (copy_of group peer).sealed
  pub sealed : (copy_of group peer).sealed ≤ length_of group peer
  pub within : length_of group peer ≤ last_number group

-- the lead's list has this entry at this number, where it has not taken effect yet
pub record IsInLine (group : Group) (number : ℕ) (entry : Entry) : Type 0 where
  pub within : number ≤ last_number group
  pub waits : group.front < number → slice_get group.waiting (number - (group.front + 1)) ≡ Some entry

-- a good peer has sealed so many at least
pub record HasSealed (group : Group) (peer number : ℕ) : Type 0 where
  pub good : (copy_of group peer).good ≡ true
  pub sealed : number ≤ (copy_of group peer).sealed

-- a message of the shard's view tells what is so: a Copy an entry of the lead's list, a Have what a good peer has sealed
abbrev pub TellsWhatIs : ℕ → Group → Message → Type 0
TellsWhatIs shard group (message.Copy of to view number entry) = of ≡ shard → view ≡ group.view → IsInLine group number entry
TellsWhatIs shard group (message.Have of from to view sealed) = of ≡ shard → view ≡ group.view → HasSealed group from sealed
TellsWhatIs shard group (message.Round from to epoch round total deltas) = Unit {0}

pub record KnowsItsCopies (shard : ℕ) (core : Core) : Type 0 where
  pub each : (peer : ℕ) → IsOf core.members.shape shard peer → status_of peer core ≡ Good → IsKnown (group_of shard core) peer
  -- the group has those for good that are, and some good peer leads: its list is the one that counts
  pub good : (peer : ℕ) → IsOf core.members.shape shard peer → (copy_of (group_of shard core) peer).good ≡ is_good_status (status_of peer core)
  pub lead : ℕ
  pub leads : lead_of shard core ≡ Some lead
  pub whole : length_of (group_of shard core) lead ≡ last_number (group_of shard core)
  -- what every good peer is known to have sealed took effect, or waits in the lead's list
  pub effects : front_of shard core ≤ commit_front (group_of shard core)
  pub committed : commit_front (group_of shard core) ≤ last_number (group_of shard core)
  pub under_way : All (TellsWhatIs shard (group_of shard core)) (values_of core.pool.messages)
