-- The epoch of a deletion that waits.
use Rattle.std.specs.Prelude.{◌≡◌, ℕ, ◌≤◌, Some, slice_get}
use Rattle.hs_core_words.specs.Looking.{group_of}
use Rattle.hs_core_words.specs.State.{Core}
use Rattle.hs_entry.specs.declared.entry.Entry.TheVariants as kind

-- each Enter that waits and that a client's line asked for is of an epoch within the limit
abbrev pub HaveEpochs : Core → Type 0
HaveEpochs core = (shard place line epoch : ℕ) → slice_get (group_of shard core).waiting place ≡ Some (kind.Enter line epoch) → 1 ≤ line → epoch ≤ core.limits.epochs
