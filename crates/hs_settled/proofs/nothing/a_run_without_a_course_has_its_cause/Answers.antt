use Rattle.std.proofs.Common.{◌≡◌, inl, [], Option, Some, None, IfSome}
use Rattle.hs_settled.proofs.nothing.a_run_without_a_course_has_its_cause.Goals as goal
use Rattle.hs_settled.proofs.NothingLemmas.{none_good_cause}
use Rattle.hs_settled.specs.Printing.{FailsInOpening}
use Rattle.hs_limits.specs.Shape.{IsShape}
use Rattle.hs_promise.specs.Lost.{NoneGoodCause}
use Rattle.hs_promise.specs.Machine.{WentAs}
use Rattle.hs_promise.specs.Run.{Ran, Script}
use Rattle.hs_promise.specs.Story.{Story}

cause_of : (S : Script) (r : Ran) (how : Option Story) → WentAs S r how → IsShape S.set.shape → IfSome how (FailsInOpening r) → r.course ≡ [] → NoneGoodCause S r
cause_of S r None never shape wrote none = inl never.cause
cause_of S r (Some story) went shape wrote none = none_good_cause S r story went shape none wrote

pub returns : goal.returns
returns c = λ S r how went shape wrote none. cause_of S r how went shape wrote none
