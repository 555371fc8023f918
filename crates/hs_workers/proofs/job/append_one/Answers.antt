use Rattle.std.proofs.Common.{rules}
use Rattle.hs_workers.proofs.WorkLemmas.{appended}
use Rattle.hs_workers.proofs.job.append_one.Goals as goal

pub returns-in-Ok-clause-done : goal.returns-in-Ok-clause-done
returns-in-Ok-clause-done g c = appended _ _ _ c.args.entry.now c.in-Ok.ensures.rank c.in-Ok.ensures.calm (search rules) (λ t list has. c.in-Ok.ensures.reads t list has)
