use Rattle.std.proofs.Common.{ap, ap₂, sym, ◌∙◌, ◌++◌}
use Rattle.hs_rounds.specs.Rounds.{changes_in, told_by}
use Rattle.hs_rounds.proofs.EachLemmas.{each_more}
use Rattle.hs_rounds.proofs.gots.Gots.changes.Goals as goal

pub loop-from-preserved : goal.loop-from-preserved
loop-from-preserved c =
    c.in_ok-extend_from_slice.ensures.items
    ∙ ap₂ (λ before more. before ++ more) c.loop-from.invariant (c.changes_in.ensures ∙ ap changes_in c.get.ensures)
    ∙ sym (each_more (λ from. changes_in (told_by c.args.epoch c.args.round c.args.self.now from)) c.loop-from.from)
