use Rattle.hs_settled.proofs.CauseLemmas.{cause_but_loss, cause_is}
use Rattle.hs_settled.proofs.causes.each_status_has_its_cause.Goals as goal

pub returns-clause-any : goal.returns-clause-any
returns-clause-any c = λ S r how went read write shape. cause_but_loss S r how went (record { read = read; write = write; shape = shape })

pub returns-clause-lost : goal.returns-clause-lost
returns-clause-lost c = λ S r how went ranked read write shape. cause_is S r how went ranked (record { read = read; write = write; shape = shape })
