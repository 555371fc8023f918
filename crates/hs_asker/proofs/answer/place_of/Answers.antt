use Rattle.std.proofs.Common.{◌∙◌, ap, sym, refl}
use Rattle.hs_journal.specs.declared.entry.Who.TheVariants as who
use Rattle.hs_asker.proofs.ScanLemmas.{step_found, step_more}
use Rattle.hs_asker.proofs.answer.place_of.Goals.{in-Line+else-number-line+else-is_some, in_default}
use Rattle.hs_asker.proofs.answer.place_of.Goals as goal

pub loop-place-preserved : goal.loop-place-preserved
loop-place-preserved c = elim c.match-entries-place.branch [
  | in-Line+else-number-line+else-is_some w ↦ (
    step_found c.args.entries.now c.args.line c.loop-place.place _ _ _ c.loop-place-test.true c.loop-place.invariant.0 (sym w.is_some.ensures ∙ w.if-is_some.false)
        (w.in-Line.is ∙ ap who.Line w.if-number-line.false) w.found-is,
    refl,
  )
  | in_default w ↦ (step_more c.args.entries.now c.args.line c.loop-place.place _ _ _ c.loop-place-test.true c.loop-place.invariant.0 (λ n is. w.in_default.not-Line n is) w.found-is, refl)
]
