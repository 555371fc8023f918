use Rattle.std.proofs.Common.{◌≡◌, ◌-◌, ◌^◌, ◌<◌, ℕ, true, false}
use Rattle.hs_awaiting.specs.Indexing.{passes, stores}
use Rattle.hs_core_words.specs.Looking.{group_of}
use Rattle.hs_core_state.specs.Waking.{stands}
use Rattle.hs_core_state.proofs.state.State.met.Given as goal

abbrev pub invariant-loop-block : goal.invariant-loop-block
invariant-loop-block l =
    (n : ℕ) → n < l.from → stands (group_of l.shard l.self).waiting n ≡ true → passes (stores l.what) l.self.operations n ≡ false

abbrev pub decreases-loop-block : goal.decreases-loop-block
decreases-loop-block l = 2 ^ 64 - l.from
