use Rattle.hs_rejoin.proofs.CourseLemmas.{level_is_lead, longer_lead_follows, step_follows}
use Rattle.hs_rejoin.proofs.laws.the_copied_list_is_the_leads.Goals as goal

pub returns-clause-step : goal.returns-clause-step
returns-clause-step c = step_follows

pub returns-clause-longer : goal.returns-clause-longer
returns-clause-longer c = longer_lead_follows

pub returns-clause-level : goal.returns-clause-level
returns-clause-level c = level_is_lead
