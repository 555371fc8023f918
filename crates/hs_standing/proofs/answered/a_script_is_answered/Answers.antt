use Rattle.std.proofs.Common.{List, []}
use Rattle.hs_answered.specs.Standing.{store_with}
use Rattle.hs_answered.specs.Telling.{Judging}
use Rattle.hs_standing.proofs.AddressedLemmas.{lines_addressed, settle_addressed}
use Rattle.hs_standing.proofs.answered.a_script_is_answered.Goals as goal
use Rattle.hs_standing.proofs.ReadyLemmas.{all_ready, are_answers}
use Rattle.hs_standing.specs.Answered.{judging_by}
use Rattle.hs_events.specs.Course.{steps}
use Rattle.hs_events.specs.Found.{first_core, opens_with}
use Rattle.hs_fold.specs.Runs.Facts.{Catalogue as Folded}
use Rattle.hs_standing.specs.Legal.{IsStanding}
use Rattle.hs_standing.specs.Script.{all_events}

pub returns-clause-opens : goal.returns-clause-opens
returns-clause-opens c = λ s set found cs none names may.
    let by : Judging = judging_by s set.limits in
    let opened : (after : List Folded) × IsStanding by (store_with cs []) (first_core set found) after = c.each_event_is_told.ensures.opens by set.shape (opens_with set found) found.opened cs names may in
    record {
      turn = c.answers_stay_in_order.ensures.opens s.commands set.shape set.limits (opens_with set found) found.opened none;
      folds = opened.0;
      stands = opened.1;
    }

pub returns-clause-opening : goal.returns-clause-opening
returns-clause-opening c = λ s limits start core done es to names valid ready none zero rise walks known along.
    let by : Judging = judging_by s limits in (
      all_ready by start (λ d e moment cs going seated knows room clean may stands. c.each_event_is_told.ensures.copies by start d e moment cs names valid going seated knows room clean may stands) core es ready
          (c.a_scripts_events_may_come.ensures.opening s.commands done core es to none zero rise walks)
          (c.a_scripts_lines_are_new.ensures.opening s.name done core es walks)
          (settle_addressed by done 0 core es walks) known along,
      c.a_scripts_events_may_come.ensures.first s.commands done core es none zero walks,
    )

pub returns-clause-lines : goal.returns-clause-lines
returns-clause-lines c = λ s limits start core line lines to names valid ready its rise are known along.
    let by : Judging = judging_by s limits in
    all_ready by start (λ d e moment cs going seated knows room clean may stands. c.each_event_is_told.ensures.copies by start d e moment cs names valid going seated knows room clean may stands) core (all_events lines) ready
    (c.a_scripts_events_may_come.ensures.lines s line core lines to its rise are)
    (c.a_scripts_lines_are_new.ensures.lines s line core lines to ready.turn its rise are)
    (lines_addressed s limits (c.a_line_asks_as_its_command.ensures by) line core lines its
    (c.a_scripts_lines_are_new.ensures.lines s line core lines to ready.turn its rise are) are) known along

pub returns-clause-answers : goal.returns-clause-answers
returns-clause-answers c = λ s limits start core line lines to names valid ready its rise are known along.
    let by : Judging = judging_by s limits in
    are_answers by start (steps core (all_events lines))
    (all_ready by start (λ d e moment cs going seated knows room clean may stands. c.each_event_is_told.ensures.copies by start d e moment cs names valid going seated knows room clean may stands) core (all_events lines) ready
    (c.a_scripts_events_may_come.ensures.lines s line core lines to its rise are)
    (c.a_scripts_lines_are_new.ensures.lines s line core lines to ready.turn its rise are)
    (lines_addressed s limits (c.a_line_asks_as_its_command.ensures by) line core lines its
    (c.a_scripts_lines_are_new.ensures.lines s line core lines to ready.turn its rise are) are) known along)
