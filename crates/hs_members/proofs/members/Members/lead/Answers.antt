-- what was found is `lead_by`, and so it is the lead
use Rattle.std.proofs.Common.{rules}
use Rattle.hs_members.proofs.LeadLemmas.{lead_by_found, lead_by_is_lead}
use Rattle.hs_members.proofs.members.Members.lead.Goals as goal

pub returns-clause-value : goal.returns-clause-value
returns-clause-value c = search rules

pub returns-clause-found : goal.returns-clause-found
returns-clause-found c = lead_by_found c.args.shard c.args.lengths.now c.args.self.now _ c.requires.lengths (returns-clause-value c)

pub returns-clause-lead : goal.returns-clause-lead
returns-clause-lead c = lead_by_is_lead c.args.shard c.args.lengths.now c.args.self.now _ c.requires.lengths (returns-clause-value c)
