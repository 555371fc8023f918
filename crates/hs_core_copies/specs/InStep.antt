-- One shard of the core beside the machine of its copies: what the core keeps of the shard stands for copies of the machine.
use Rattle.std.specs.List.{All}
use Rattle.std.specs.Map.{values_of}
use Rattle.std.specs.Prelude.{◌≡◌, ℕ, ◌*◌, ◌≤◌, List, length, Option, None, is_some, unwrap_or}
use Rattle.hs_copies.specs.CoreCopies.{CoreCopies}
use Rattle.hs_copies.specs.Lists.{IsAmong}
use Rattle.hs_copies.specs.Machine.{CanComeAll, Copies, CopyEvent, after_events}
use Rattle.hs_copies.specs.Standing.{StandsFor}
use Rattle.hs_core_words.specs.Looking.{group_of, operation_of, rejoin_of}
use Rattle.hs_core_words.specs.State.{Core}
use Rattle.hs_entry.specs.declared.entry.Entry.{Entry}
use Rattle.hs_limits.specs.declared.shape.Shape.{Shape}
use Rattle.hs_members.specs.Members.{IsShard, home_of}
use Rattle.hs_post.specs.declared.message.Message.{Message}
use Rattle.hs_post.specs.declared.message.Message.TheVariants as message
use Rattle.hs_rejoin.specs.Rejoin.{Rejoin, new_rejoin}
use Rattle.hs_replica.specs.Group.{Group}
use Rattle.hs_core_copies.specs.Jobs.{HasItsJobs}

-- ---- one shard's copies in the core

-- how far a peer has come that joins
abbrev pub rejoin_at : Core → ℕ → Rejoin
rejoin_at core peer = unwrap_or (rejoin_of peer core) (new_rejoin 0)

-- what the core keeps of a shard's copies, with the messages that were sent
abbrev pub copies_in : ℕ → List Message → Core → CoreCopies
copies_in shard sent core = record {
  group = group_of shard core;
  members = core.members;
  rejoins = rejoin_at core;
  sent = sent;
  waits = λ line. is_some (operation_of line core);
}

-- of which line an entry is: nothing is said of lines here
abbrev pub no_line : Entry → Option ℕ
no_line entry = None

-- ---- messages

-- a peer keeps a copy of this shard
abbrev pub IsOf : Shape → ℕ → ℕ → Type 0
IsOf shape shard peer = home_of shape peer ≡ shard

-- a Copy or a Have of this shard
abbrev pub IsOfCopies : ℕ → Message → Type 0
IsOfCopies shard (message.Copy of to view number entry) = of ≡ shard
IsOfCopies shard (message.Have of from to view sealed) = of ≡ shard
IsOfCopies shard (message.Round from to epoch round total deltas) = ⊥

-- a Copy is for a peer of its shard, and a Have from one
abbrev pub IsWithin : Shape → Message → Type 0
IsWithin shape (message.Copy of to view number entry) = IsOf shape of to
IsWithin shape (message.Have of from to view sealed) = IsOf shape of from
IsWithin shape (message.Round from to epoch round total deltas) = Unit {0}

-- a message of the shard's copies that is under way was sent
abbrev pub IsUnderWay : ℕ → List Message → Message → Type 0
IsUnderWay shard sent m = IsOfCopies shard m → IsAmong m sent

-- ---- all of it

-- a group is of its shard, with no more copies than a shard has
pub record IsPlaced (shape : Shape) (shard : ℕ) (group : Group) : Type 0 where
  pub same_shape : group.shape ≡ shape
  pub same_shard : group.shard ≡ shard
  pub few : length group.copies ≤ shape.copies

-- each shard has its group, and each peer its jobs and how far it has come; messages are for peers of their shard
pub record IsSeated (core : Core) : Type 0 where
  pub groups : length core.groups ≡ core.members.shape.shards
  pub tasks : length core.tasks ≡ core.members.shape.shards * core.members.shape.copies
  pub rejoins : length core.progress.rejoins ≡ core.members.shape.shards * core.members.shape.copies
  pub placed : (shard : ℕ) → IsPlaced core.members.shape shard (group_of shard core)
  pub within : All (IsWithin core.members.shape) (values_of core.pool.messages)

-- a shard's copies stand for copies of the machine
pub record IsInStep (shard : ℕ) (core : Core) (copies : Copies Entry) : Type 0 where
  pub seated : IsSeated core
  pub here : IsShard core.members.shape shard
  pub sent : List Message
  pub stands : StandsFor no_line (copies_in shard sent core) copies
  pub under_way : All (IsUnderWay shard sent) (values_of core.pool.messages)
  pub jobs : (peer : ℕ) → IsOf core.members.shape shard peer → HasItsJobs shard core peer

-- the shard goes on as events of the machine, each of which may come
pub record GoesOn (shard : ℕ) (core : Core) (copies : Copies Entry) : Type 0 where
  pub events : List (CopyEvent Entry)
  pub allowed : CanComeAll copies events
  pub keeps : IsInStep shard core (after_events copies events)
