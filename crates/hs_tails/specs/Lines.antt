-- Operations and Views: what an operation waits for in a view whose View has not taken effect.
use Rattle.std.specs.Prelude.{◌≡◌, ℕ, ◌<◌, Bool, true, false, Some, slice_index_or}
use Rattle.hs_awaiting.specs.declared.wait.Wait.{Wait}
use Rattle.hs_awaiting.specs.declared.wait.Wait.TheVariants as wait
use Rattle.hs_awaiting.specs.declared.waiting.Waiting.{Waiting}
use Rattle.hs_copies.specs.Lists.{end_view}
use Rattle.hs_copies.specs.Machine.{Copies}
use Rattle.hs_core_words.specs.Looking.{operation_of, shape_of}
use Rattle.hs_core_words.specs.State.{Core}
use Rattle.hs_entry.specs.declared.entry.Entry.{Entry}
use Rattle.hs_ops.specs.declared.operation.Stage.{Stage}
use Rattle.hs_ops.specs.declared.operation.Stage.TheVariants as stage

-- whether the View of a shard's view has taken effect, as the core has it
abbrev pub is_viewed : ℕ → Core → Bool
is_viewed shard core = slice_index_or core.progress.viewed shard false

-- what is waited for is an entry of the shard's list, or a View
abbrev pub WaitsToLog : Wait → Type 0
WaitsToLog wait.View = Unit {0}
WaitsToLog wait.Address = ⊥
WaitsToLog wait.Room = ⊥
WaitsToLog (wait.Bytes number) = ⊥
WaitsToLog (wait.Entry number) = Unit {0}

-- an operation has taken its first step
abbrev pub IsUnderWay : Stage → Type 0
IsUnderWay stage.New = ⊥
IsUnderWay stage.Waiting = Unit {0}
IsUnderWay (stage.Reading number) = Unit {0}
IsUnderWay stage.Logged = Unit {0}

-- each operation has taken its first step; and where a shard's View has not taken effect, each that it judges waits for an entry, or for that View
pub record AreParked (core : Core) : Type 0 where
  pub begun : (line : ℕ) (w : Waiting) → operation_of line core ≡ Some w → IsUnderWay w.operation.stage
  pub waits : (shard line : ℕ) (w : Waiting) → shard < (shape_of core).shards → is_viewed shard core ≡ false → operation_of line core ≡ Some w → w.shard ≡ shard → WaitsToLog w.wait

-- where the core has it that a shard's View has taken effect, its machine has an entry of the current view that did
abbrev pub AreReached : Core → (ℕ → Copies Entry) → Type 0
AreReached core machines = (shard : ℕ) → shard < (shape_of core).shards → is_viewed shard core ≡ true → end_view 0 (machines shard).took ≡ (machines shard).view
