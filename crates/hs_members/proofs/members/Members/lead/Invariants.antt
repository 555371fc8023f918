use Rattle.std.proofs.Common.{◌≡◌}
use Rattle.hs_members.specs.Members.{longest}
use Rattle.hs_members.proofs.LeadLemmas.{good_from}
use Rattle.hs_members.proofs.members.Members.lead.Given as goal

abbrev pub invariant-loop-copy : goal.invariant-loop-copy
invariant-loop-copy l = l.best ≡ longest (good_from l.shard l.lengths l.self l.copy)
