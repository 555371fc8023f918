-- What stays so of a core's copies between any two events: for whom messages are, how far joining peers are, and what is known of leads.
use Rattle.std.specs.List.{All}
use Rattle.std.specs.Map.{values_of}
use Rattle.std.specs.Prelude.{◌≡◌, ◌⊎◌, ℕ, ◌<◌, Some, false}
use Rattle.hs_core_words.specs.Looking.{group_of, home, rejoin_of, shape_of, status_of}
use Rattle.hs_core_words.specs.State.{Core}
use Rattle.hs_core_copies.specs.InStep.{IsInStep}
use Rattle.hs_copies.specs.Machine.{Copies}
use Rattle.hs_entry.specs.declared.entry.Entry.{Entry}
use Rattle.hs_limits.specs.declared.limits.PeerStatus.TheVariants.{Good, Joining}
use Rattle.hs_members.specs.Members.{Members, status}
use Rattle.hs_post.specs.declared.message.Message.{Message}
use Rattle.hs_post.specs.declared.message.Message.TheVariants as message
use Rattle.hs_rejoin.specs.Rejoin.{Rejoin}
use Rattle.hs_replica.specs.Group.{Group, copy_of, last_number, lead, length_of}

-- a Copy or a Have is for a good peer
abbrev pub IsForGood : Members → Message → Type 0
IsForGood m (message.Copy shard to view number entry) = status to m ≡ Good
IsForGood m (message.Have shard from to view sealed) = status to m ≡ Good
IsForGood m (message.Round from to epoch round total deltas) = Unit {0}

-- a joining peer has begun, and what it follows it has not all: else it were good
pub record IsShort (core : Core) (peer : ℕ) : Type 0 where
  pub rejoin : Rejoin
  pub at : rejoin_of peer core ≡ Some rejoin
  pub less : rejoin.empty ≡ false → rejoin.len < last_number (group_of (home peer core) core)

-- of a lead it is known what it has sealed, or it has more to seal
abbrev pub IsLeadKnown : Group → Type 0
IsLeadKnown group = (l : ℕ) → lead group ≡ Some l → ((copy_of group l).known ≡ (copy_of group l).sealed) ⊎ ((copy_of group l).sealed < length_of group l)

pub record KeepsUp (core : Core) : Type 0 where
  pub receivers : All (IsForGood core.members) (values_of core.pool.messages)
  pub joins : (peer : ℕ) → status_of peer core ≡ Joining → IsShort core peer
  pub leads : (shard : ℕ) → IsLeadKnown (group_of shard core)

-- there is a shard, and each shard's copies are those of the machine
pub record AreInStep (core : Core) : Type 0 where
  pub some : 0 < (shape_of core).shards
  pub each : (shard : ℕ) → shard < (shape_of core).shards → (copies : Copies Entry) × IsInStep shard core copies
