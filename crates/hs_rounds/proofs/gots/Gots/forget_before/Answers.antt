use Rattle.std.proofs.Common.{ap, sym, ◌∙◌}
use Rattle.hs_rounds.specs.Rounds.{from_round}
use Rattle.hs_rounds.proofs.PlaceLemmas.{fewer, without_first}
use Rattle.hs_rounds.proofs.gots.Gots.forget_before.Goals as goal

pub loop-self-preserved : goal.loop-self-preserved
loop-self-preserved c =
    ap (from_round c.args.epoch c.args.round) c.forget_first.ensures
    ∙ without_first c.args.epoch c.args.round c.loop-self.self (sym c.starts_before.ensures.value ∙ c.loop-self-test.true)
    ∙ c.loop-self.invariant

pub loop-self-smaller : goal.loop-self-smaller
loop-self-smaller c = rw c.forget_first.ensures (fewer c.args.epoch c.args.round c.loop-self.self (sym c.starts_before.ensures.value ∙ c.loop-self-test.true))
