use Rattle.hs_answered.proofs.CoreLemmas.{busy_at_its_line}
use Rattle.hs_answered.proofs.busy.a_busy_session_is_told.Goals as goal

pub returns : goal.returns
returns c = λ core line other o name asks apart some e. busy_at_its_line core line other o name asks apart some e
