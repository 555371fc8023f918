use Rattle.std.proofs.Common.{◌≡◌, ◌++◌, ◌-◌, ◌^◌}
use Rattle.std.specs.Prelude.{◌==◌, ◌&&◌}
use Rattle.hs_awaiting.specs.Indexing.{lines_from}
use Rattle.hs_core_words.specs.Effects.{wakes}
use Rattle.hs_core_words.specs.Operating.{lines_where}
use Rattle.hs_core_state.proofs.state.State.lines_woken.Given as goal

abbrev pub invariant-loop-line : goal.invariant-loop-line
invariant-loop-line l =
    l.lines.items ++ lines_from l.from (λ w. w.shard == l.shard && wakes l.entry l.address l.self w) l.self.operations
    ≡ lines_where l.shard (wakes l.entry l.address l.self) l.self

abbrev pub decreases-loop-line : goal.decreases-loop-line
decreases-loop-line l = 2 ^ 64 - l.from
