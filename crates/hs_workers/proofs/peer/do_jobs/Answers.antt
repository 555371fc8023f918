use Rattle.std.proofs.Common.{Ok, arith, ap, ◌∙◌, Option}
use Rattle.hs_desk.specs.declared.job.Job.{Job}
use Rattle.hs_workers.proofs.WorkLemmas.{ends_failed, ends_stopped, goes_more, goes_none}
use Rattle.hs_workers.proofs.peer.do_jobs.Goals as goal

pub loop-init : goal.loop-init
loop-init g c = record { goes = goes_none _ _ _ c.requires.in_place; ticks = omega arith }

pub loop-preserved : goal.loop-preserved
loop-preserved g c = record {
  goes = goes_more _ _ _ _ _ _ _ _ c.next_job.result c.in-Ok-Some.job c.loop.invariant.goes c.next_job.ensures (c.in-Ok-Some.is ∙ ap (λ (x : Option Job). Ok x) c.in-Ok-Some.field-0-is) _ c.in-Ok-true.field-0-test c.in-Ok-true.ensures.came;
  ticks = (let t = c.do_one.ensures.ticks in let h = c.loop.invariant.ticks in omega arith);
}

pub returns-in-Ok-false-clause-ends : goal.returns-in-Ok-false-clause-ends
returns-in-Ok-false-clause-ends g c =
    ends_failed _ _ _ _ _ _ _ _ c.next_job.result c.in-Ok-Some.job c.loop.invariant.goes c.next_job.ensures (c.in-Ok-Some.is ∙ ap (λ (x : Option Job). Ok x) c.in-Ok-Some.field-0-is) _ c.in-Ok-false.field-0-test c.in-Ok-false.ensures.came

pub returns-in-Err-do_one-clause-ends : goal.returns-in-Err-do_one-clause-ends
returns-in-Err-do_one-clause-ends g c = ends_stopped _ _ _ _ _ _ _ _ c.next_job.result _ c.loop.invariant.goes c.next_job.ensures c.in-Err-do_one.ensures.stops
