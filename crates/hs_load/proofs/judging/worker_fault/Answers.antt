use Rattle.std.proofs.Common.{◌∙◌}
use Rattle.hs_load.proofs.JudgeLemmas.{worker_part}
use Rattle.hs_load.proofs.judging.worker_fault.Goals as goal

pub returns-in-Some-clause-some : goal.returns-in-Some-clause-some
returns-in-Some-clause-some c = λ writers journal kept.
    worker_part writers journal kept c.args.stored.now _ c.loop-peer.peer c.index-stored-peer.result c.in-Some.fault c.loop-peer-test.true c.index-stored-peer.is c.in-Some.is
    (c.in_ok-fault_part.ensures.session ∙ c.in_ok-peer_name.ensures) (c.in_ok-fault_part.ensures.place ∙ c.len-place.ensures) c.in_ok-fault_part.ensures.told c.in_ok-fault_part.ensures.kept
