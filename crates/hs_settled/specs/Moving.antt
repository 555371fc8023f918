-- A core in which whatever is open goes on.
use Rattle.std.specs.Prelude.{◌≡◌, ◌<◌, ℕ, List}
use Rattle.hs_core_words.specs.Looking.{front_of, group_of, shape_of}
use Rattle.hs_core_words.specs.State.{Core}
use Rattle.hs_effects.specs.Logged.{IsOrderly}
use Rattle.hs_limits.specs.declared.address.Address.{Address}
use Rattle.hs_limits.specs.Shape.{IsShape}
use Rattle.hs_quiet.specs.Causes.{AreCaused}
use Rattle.hs_quiet.specs.Keeping.{AreInStep, KeepsUp}
use Rattle.hs_replica.specs.Group.{commit_front}

-- each shard is in step with copies of the machine, which keep up; as far as all good peers are known to have sealed, entries took effect; its operations are in order, and each waits for something that is there
pub record IsMoving (name : List ℕ → Address) (core : Core) : Type 0 where
  pub shape : IsShape (shape_of core)
  pub in_step : AreInStep core
  pub keeps_up : KeepsUp core
  pub fronts : (shard : ℕ) → shard < (shape_of core).shards → front_of shard core ≡ commit_front (group_of shard core)
  pub orderly : IsOrderly name core
  pub caused : AreCaused name core
