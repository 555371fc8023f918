use Rattle.std.proofs.Common.{◌∙◌, sym}
use Rattle.hs_load.proofs.JudgeLemmas.{asker_part}
use Rattle.hs_load.proofs.judging.asker_fault.Goals as goal

pub returns-in-Some-clause-some : goal.returns-in-Some-clause-some
returns-in-Some-clause-some c = λ writers journal stored.
    asker_part writers journal c.args.kept.now stored _ c.loop-given.given-index c.given-item.result c.in-Some.fault c.loop-given-test.true c.given-item.is c.in-Some.is
    (c.in_ok-fault_part.ensures.session ∙ c.in_ok-session.ensures) (c.in_ok-fault_part.ensures.place ∙ c.len-place.ensures) c.in_ok-fault_part.ensures.told c.in_ok-fault_part.ensures.kept
