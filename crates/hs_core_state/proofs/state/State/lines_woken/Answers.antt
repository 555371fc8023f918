use Rattle.std.proofs.Common.{◌≡◌, ◌∙◌, sym, ap, true, false, cond, refl, ◌+◌, ◌++◌, List, [], ◌∷◌, arith}
use Rattle.std.proofs.lemmas.Grind.{common_steps}
use Rattle.std.specs.Prelude.{◌==◌, ◌&&◌, Bool}
use Rattle.hs_awaiting.specs.declared.waiting.Waiting.{Waiting}
use Rattle.hs_awaiting.specs.Indexing.{lines_from, passes}
use Rattle.hs_awaiting.proofs.WalkLemmas.{found_all, from_first, walk_none, walk_some, woken_more}
use Rattle.hs_core_words.specs.Effects.{wakes}
use Rattle.hs_core_words.specs.Operating.{lines_where}
use Rattle.hs_core_state.specs.Waking.{may_wake}
use Rattle.hs_core_state.proofs.WakeLemmas.{among_woken}
use Rattle.hs_core_state.proofs.state.State.lines_woken.Goals as goal
use Rattle.hs_core_state.proofs.state.State.lines_woken.Goals.{then-is_woken+in_ok-push, else-is_woken}

pub loop-line-init : goal.loop-line-init
loop-line-init c =
    let core = c.args.self.now in
    rw c.new-lines.ensures.items (from_first (λ (w : Waiting). w.shard == c.args.shard && wakes c.args.entry.now c.args.address core w) core.operations)

pub loop-line-preserved : goal.loop-line-preserved
loop-line-preserved c =
    let core = c.args.self.now in
    let es = core.operations in
    let shard = c.args.shard in
    let entry = c.args.entry.now in
    let address = c.args.address in
    let k = c.in-Some.line in
    let p : Waiting → Bool = λ w. w.shard == shard && wakes entry address core w in
    let so_far = c.loop-line.lines.items in
    let lines : c.if-is_woken.lines.items ≡ cond (passes p es k) (so_far ++ k ∷ []) so_far
    = elim c.if-is_woken.branch [
      | then-is_woken+in_ok-push w ↦
          (let holds : passes p es k ≡ true = sym c.is_woken.ensures ∙ w.if-is_woken.true in
          let pushed : w.push.new.self.items ≡ so_far ++ k ∷ [] = grind (arith, common_steps) in
          rw (holds, w.lines-is) pushed)
      | else-is_woken w ↦
          (let fails : passes p es k ≡ false = sym c.is_woken.ensures ∙ w.if-is_woken.false in
          rw (fails, w.lines-is) refl)
    ] in
    rw c.in_ok-from.ensures.value
    (woken_more c.if-is_woken.lines.items so_far (lines_from c.loop-line.from p es) (lines_where shard (wakes entry address core) core) (lines_from (k + 1) p es) k (passes p es k) c.loop-line.invariant
    (walk_some (may_wake shard entry address) p (among_woken shard entry address core) c.loop-line.from k es c.in-Some.ensures.ordered c.in-Some.ensures.first)
    lines)

pub loop-line-smaller : goal.loop-line-smaller
loop-line-smaller c = omega (arith, c.in_ok-from.ensures.value, c.in_ok-from.ensures.fits, c.in-Some.ensures.first.0)

pub returns : goal.returns
returns c =
    let core = c.args.self.now in
    let es = core.operations in
    let shard = c.args.shard in
    let entry = c.args.entry.now in
    let address = c.args.address in
    let p : Waiting → Bool = λ w. w.shard == shard && wakes entry address core w in
    found_all c.loop-line.lines.items (lines_from c.loop-line.from p es) (lines_where shard (wakes entry address core) core) c.loop-line.invariant
    (walk_none (may_wake shard entry address) p (among_woken shard entry address core) c.loop-line.from es c.next_candidate.ensures.ordered (rw c.in_default.is at c.next_candidate.ensures.first))
