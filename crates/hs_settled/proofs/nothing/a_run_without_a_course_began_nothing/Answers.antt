use Rattle.std.proofs.Common.{◌≡◌, [], Option, Some, None, IfSome}
use Rattle.hs_settled.proofs.nothing.a_run_without_a_course_began_nothing.Goals as goal
use Rattle.hs_settled.proofs.NothingLemmas.{began_nothing, never_began}
use Rattle.hs_settled.specs.Printing.{LeavesUnread}
use Rattle.hs_limits.specs.Shape.{IsShape}
use Rattle.hs_promise.specs.Answers.{BeganNothing}
use Rattle.hs_promise.specs.Machine.{WentAs}
use Rattle.hs_promise.specs.Run.{Ran, Script}
use Rattle.hs_promise.specs.Story.{Story}

began : (S : Script) (r : Ran) (how : Option Story) → IsShape S.set.shape → WentAs S r how → IfSome how (LeavesUnread S r) → r.course ≡ [] → BeganNothing r
began S r None shape never unread none = never_began r never
began S r (Some story) shape went unread none = began_nothing S r story went shape none unread

pub returns : goal.returns
returns c = λ S r how shape went unread none. began S r how shape went unread none
