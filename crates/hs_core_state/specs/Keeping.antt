-- What a core keeps to.
use Rattle.std.specs.Prelude.{◌≡◌, ℕ, ◌*◌, Bool, Option, None, List, [], length, slice_index, slice_index_or, if◌then◌else◌}
use Rattle.hs_core_words.specs.declared.event.Event.{Event}
use Rattle.hs_core_words.specs.Calls.{last_line_after}
use Rattle.hs_core_words.specs.Looking.{copying_step, front_of, group_of, shape_of, status_of}
use Rattle.hs_core_words.specs.declared.task.Task.{Task}
use Rattle.hs_core_words.specs.State.{Core}
use Rattle.hs_desk.specs.declared.job.Job.{Job}
use Rattle.hs_limits.specs.declared.shape.Shape.{Shape}
use Rattle.hs_limits.specs.Shape.{IsShape}
use Rattle.hs_members.specs.Members.{Members, IsMembers, IsPeer, IsShard, is_joining}
use Rattle.hs_replica.specs.Group.{Group, new_group}

-- the copies of a shard of this shape
pub record IsOf (shape : Shape) (shard : ℕ) (group : Group) : Type 0 where
  pub valid : IsShape shape
  pub within : IsShard shape shard
  pub same_shape : group.shape ≡ shape
  pub same_shard : group.shard ≡ shard
  pub copies : length group.copies ≡ shape.copies

-- one of each for every shard and every peer, and each is of its shard
pub record IsCore (core : Core) : Type 0 where
  pub members : IsMembers core.members
  pub catalogues : length core.catalogues ≡ (shape_of core).shards
  pub groups : length core.groups ≡ (shape_of core).shards
  pub viewed : length core.progress.viewed ≡ (shape_of core).shards
  pub tasks : length core.tasks ≡ (shape_of core).shards * (shape_of core).copies
  pub rejoins : length core.progress.rejoins ≡ (shape_of core).shards * (shape_of core).copies
  pub each : (shard : ℕ) → IsShard (shape_of core) shard → IsOf (shape_of core) shard (group_of shard core)

-- the next copying step of a peer that is joining
abbrev pub kept_step : ℕ → Core → Option Job
kept_step peer core = if is_joining (status_of peer core) then copying_step peer core else None

-- these are the next copying steps of all peers
pub record AreSteps (core : Core) (steps : List (Option Job)) : Type 0 where
  pub length : length steps ≡ (shape_of core).shards * (shape_of core).copies
  pub each : (peer : ℕ) → IsPeer (shape_of core) peer → slice_index_or steps peer None ≡ kept_step peer core

-- these are the numbers of the last entries of all shards that have taken effect
pub record AreFronts (core : Core) (fronts : List ℕ) : Type 0 where
  pub length : length fronts ≡ (shape_of core).shards
  pub each : (shard : ℕ) → IsShard (shape_of core) shard → slice_index fronts shard ≡ front_of shard core

-- what a fault leaves of a core
pub record KeepsCore (old new : Core) : Type 0 where
  pub journal : new.journal ≡ old.journal
  pub limits : new.limits ≡ old.limits
  pub moment : new.moment ≡ old.moment
  pub last_line : new.progress.last_line ≡ old.progress.last_line
  pub event_line : new.progress.event_line ≡ old.progress.event_line
  pub refused : new.refused ≡ old.refused
  pub shape : new.members.shape ≡ old.members.shape

-- what a fault leaves of a core whose event has begun
pub record Stays (old new : Core) : Type 0 where
  pub journal : new.journal ≡ old.journal
  pub limits : new.limits ≡ old.limits
  pub refused : new.refused ≡ old.refused
  pub shape : new.members.shape ≡ old.members.shape

-- and what it leaves on every path
pub record Moves (event : Event) (at : ℕ) (old new : Core) : Type 0 where
  pub shape : new.members.shape ≡ old.members.shape
  pub limits : new.limits ≡ old.limits
  pub moment : new.moment ≡ at
  pub last_line : new.progress.last_line ≡ last_line_after event old

-- the lists of all shards, each of its shard, with how many entries have taken effect, and the jobs of all peers
pub record AreLists (m : Members) (gs : List Group) (fs : List ℕ) (vs : List Bool) (ts : List (List Task)) : Type 0 where
  pub groups : length gs ≡ m.shape.shards
  pub fronts : length fs ≡ m.shape.shards
  pub viewed : length vs ≡ m.shape.shards
  pub tasks : length ts ≡ m.shape.shards * m.shape.copies
  pub each : (shard : ℕ) → IsShard m.shape shard → IsOf m.shape shard (slice_index_or gs shard (new_group m.shape shard 0 0 []))
  pub at : (shard : ℕ) → IsShard m.shape shard → slice_index fs shard ≡ (slice_index_or gs shard (new_group m.shape shard 0 0 [])).front
