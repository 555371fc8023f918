use Rattle.std.proofs.Common.{inr, refl, subst}
use Rattle.hs_promise.specs.declared.status.Status.TheVariants as status
use Rattle.hs_load.specs.declared.judgement.Judgement.{Judgement}
use Rattle.hs_load.specs.declared.judgement.Judgement.TheVariants as judgement
use Rattle.hs_load.specs.Judged.{Ended, Job, Mismatched, Numbers, TornAt}
use Rattle.hs_load.specs.Judgement.{IsJudgedSo}
use Rattle.hs_load.proofs.judgement.status_of.Goals as goal

pub returns-in-Job : goal.returns-in-Job
returns-in-Job c = λ load book team so.
    let here : IsJudgedSo load book team (judgement.Job c.in-Job.job) = subst (λ (j : Judgement). IsJudgedSo load book team j) c.in-Job.is so in
    inr (here.0, TornAt (Job c.in-Job.job.peer c.in-Job.job.place c.in-Job.job.told c.in-Job.job.kept here.1 refl))

pub returns-in-Numbers : goal.returns-in-Numbers
returns-in-Numbers c = λ load book team so.
    let here : IsJudgedSo load book team (judgement.Numbers c.in-Numbers.apart) = subst (λ (j : Judgement). IsJudgedSo load book team j) c.in-Numbers.is so in
    inr (here.0, TornAt (Numbers c.in-Numbers.apart.peer c.in-Numbers.apart.place here.1.given here.1.there here.1.part (λ i. status.Torn c.in-Numbers.apart.peer c.in-Numbers.apart.place (here.1.told i) (here.1.kept i))))

pub returns-in-Ended : goal.returns-in-Ended
returns-in-Ended c = λ load book team so.
    let here : IsJudgedSo load book team (judgement.Ended c.in-Ended.fault) = subst (λ (j : Judgement). IsJudgedSo load book team j) c.in-Ended.is so in
    inr (here.0, Ended c.in-Ended.fault here.2 c.core_status.ensures here.1 here.3)

pub returns-in-Differs : goal.returns-in-Differs
returns-in-Differs c = λ load book team so.
    let here : IsJudgedSo load book team (judgement.Differs c.in-Differs.difference) = subst (λ (j : Judgement). IsJudgedSo load book team j) c.in-Differs.is so in
    inr (here.0, Mismatched _ c.difference_status.ensures here.2 here.1 here.3 here.4)
