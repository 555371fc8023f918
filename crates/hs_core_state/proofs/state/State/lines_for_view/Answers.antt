use Rattle.std.proofs.Common.{◌≡◌, ◌∙◌, ap, ◌+◌, ◌++◌, List, [], ◌∷◌, arith}
use Rattle.std.proofs.lemmas.Grind.{common_steps}
use Rattle.std.specs.Prelude.{◌==◌, ◌&&◌, Bool}
use Rattle.hs_awaiting.specs.declared.waiting.Waiting.{Waiting}
use Rattle.hs_awaiting.specs.Indexing.{lines_from, waits_for}
use Rattle.hs_awaiting.proofs.WalkLemmas.{found_all, found_more, from_first, walk_all, walk_none}
use Rattle.hs_core_words.specs.Effects.{is_for_view}
use Rattle.hs_core_words.specs.Operating.{lines_where}
use Rattle.hs_core_state.proofs.WakeLemmas.{viewed_alone, viewing}
use Rattle.hs_core_state.proofs.state.State.lines_for_view.Goals as goal
use Rattle.hs_waits.specs.declared.cause.Cause.TheVariants as cause

pub loop-line-init : goal.loop-line-init
loop-line-init c = rw c.new-lines.ensures.items (from_first (λ (w : Waiting). w.shard == c.args.shard && is_for_view w) c.args.self.now.operations)

pub loop-line-preserved : goal.loop-line-preserved
loop-line-preserved c =
    let es = c.args.self.now.operations in
    let shard = c.args.shard in
    let k = c.in-Some.line in
    let p : Waiting → Bool = λ w. w.shard == shard && is_for_view w in
    let pushed : c.push.new.self.items ≡ c.loop-line.lines.items ++ k ∷ [] = grind (arith, common_steps) in
    rw (pushed, c.in_ok-from.ensures.value)
    (found_more c.loop-line.lines.items (lines_from c.loop-line.from p es) (lines_where shard is_for_view c.args.self.now) k (lines_from (k + 1) p es) c.loop-line.invariant
    (walk_all (waits_for (cause.View shard)) p (viewing shard) c.loop-line.from k es c.in-Some.ensures.ordered c.in-Some.ensures.first))

pub loop-line-smaller : goal.loop-line-smaller
loop-line-smaller c = omega (arith, c.in_ok-from.ensures.value, c.in_ok-from.ensures.fits, c.in-Some.ensures.first.0)

pub returns : goal.returns
returns c =
    let es = c.args.self.now.operations in
    let shard = c.args.shard in
    let p : Waiting → Bool = λ w. w.shard == shard && is_for_view w in
    found_all c.loop-line.lines.items (lines_from c.loop-line.from p es) (lines_where shard is_for_view c.args.self.now) c.loop-line.invariant
    (walk_none (waits_for (cause.View shard)) p (viewed_alone shard) c.loop-line.from es c.next_for_view.ensures.ordered (rw c.in_default.is at c.next_for_view.ensures.first))
