use Rattle.std.proofs.Common.{refl}
use Rattle.hs_asking.specs.Telling.{grants}
use Rattle.hs_model.specs.declared.op.Op.TheVariants as op
use Rattle.hs_copy.proofs.CallLemmas.{refused_fails}
use Rattle.hs_copy.proofs.calls.open.Goals as goal

pub returns-clause-err : goal.returns-clause-err
unfolding grants
returns-clause-err g c = refused_fails _ _ _ _ _ _ _ (λ i. op.Open (c.in_ok-session.ensures i)) refl c.in_ok-told.ensures.told c.done.ensures.err
