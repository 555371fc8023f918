use Rattle.std.proofs.Common.{sym, subst}
use Rattle.hs_events.specs.Whole.{Whole, open_whole}
use Rattle.hs_moments.specs.Joint.{AtMoment}
use Rattle.hs_moments.specs.WholeMachine.{whole_machine}
use Rattle.hs_tails.proofs.OpenFirstLemmas.{first_begun}
use Rattle.hs_tails.specs.Stop.{MayStopAside, MayStopWithTails, left_at}
use Rattle.hs_tails.proofs.run.each_moment_of_copies_reopens.Goals as goal

pub returns : goal.returns
returns c = λ start stop found events journal images begins first few keep inside going aside count at good.
    let opened = c.a_run_goes_on_with_its_tails.ensures.opens start found begins first few in
    let may : MayStopWithTails start stop (left_at start.set found events stop.moment) = c.a_run_goes_on_with_its_tails.ensures.moments start stop (open_whole start.set found) events opened (first_begun start stop found) keep inside going in
    let set_aside : MayStopAside start stop (left_at start.set found events stop.moment) = record { may = may; aside = aside } in
    let there : AtMoment whole_machine (MayStopAside start stop) start.set.shape stop.course journal stop.moment stop.disks = record {
      core = at.core;
      tells = record {
        sane = subst (λ (x : Whole). MayStopAside start stop x) (sym at.tells.sane) set_aside;
        answered = at.tells.answered;
        good = at.tells.good;
        taken = at.tells.taken;
      };
      lists = at.lists;
    } in
    c.images_of_copies_reopen.ensures start stop journal images count there good
