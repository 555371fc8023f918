use Rattle.std.proofs.Common.{◌≡◌, ◌++◌, ◌-◌, ◌^◌}
use Rattle.std.specs.Prelude.{◌==◌, ◌&&◌}
use Rattle.hs_awaiting.specs.Indexing.{lines_from}
use Rattle.hs_core_words.specs.Effects.{is_for_view}
use Rattle.hs_core_words.specs.Operating.{lines_where}
use Rattle.hs_core_state.proofs.state.State.lines_for_view.Given as goal

abbrev pub invariant-loop-line : goal.invariant-loop-line
invariant-loop-line l =
    l.lines.items ++ lines_from l.from (λ w. w.shard == l.shard && is_for_view w) l.self.operations ≡ lines_where l.shard is_for_view l.self

abbrev pub decreases-loop-line : goal.decreases-loop-line
decreases-loop-line l = 2 ^ 64 - l.from
