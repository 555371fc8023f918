use Rattle.hs_moments.proofs.working.a_report_tells_what_was_done.Goals as goal
use Rattle.hs_moments.proofs.SaneLemmas.{after_reports}

pub returns : goal.returns
returns c = after_reports
