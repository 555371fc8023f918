use Rattle.hs_any_events.proofs.AlongLemmas.{LawsBelow}
use Rattle.hs_any_events.specs.Events.{ComesNext}
use Rattle.hs_deeds.proofs.BookComesLemmas.{book_comes}
use Rattle.hs_deeds.proofs.BookLemmas.{book_deeds}
use Rattle.hs_deeds.proofs.HistoryLemmas.{history_told, keep_turn}
use Rattle.hs_deeds.proofs.LinesLemmas.{lines_leave}
use Rattle.hs_deeds.proofs.runs.a_history_is_its_deeds.Goals as goal
use Rattle.hs_events.specs.Found.{first_core}
use Rattle.hs_known_copies.proofs.KnownLemmas.{comes_on}
use Rattle.hs_standing.proofs.FirstRoomLemmas.{first_room}
use Rattle.hs_standing.proofs.TakenLemmas.{may_open}
use Rattle.hs_standing.specs.Opening.{opened_folds}
use Rattle.std.proofs.Common.{None}

pub returns-clause-run : goal.returns-clause-run
returns-clause-run c = λ set found commands events o none clients come comes.
    let below : LawsBelow = record {
      views = c.views_show_the_store.ensures.shown;
      steps = record {
        first = c.a_step_that_answers_is_the_judges.ensures.first;
        later = c.a_step_that_answers_is_the_judges.ensures.later;
        answered = c.an_answer_is_the_judges.ensures.answered;
        read = c.a_read_is_the_judges.ensures.told;
        write = c.a_write_is_the_judges.ensures;
      };
      reads = c.a_read_is_the_judges.ensures.whatever;
      laws = record {
        stores = c.a_new_block_is_answered_at_its_effect.ensures;
        marks = c.a_present_block_is_answered_at_its_effect.ensures;
        roots = c.a_root_is_answered_at_its_effect.ensures;
        drops = c.a_drop_is_answered_at_its_effect.ensures;
        deletes = c.a_delete_is_answered_at_its_effect.ensures;
        enters_by_itself = c.an_enter_by_itself_is_told.ensures.enters;
        enters_nothing = c.an_enter_by_itself_is_told.ensures.silent;
        sweeps_last = c.a_got_is_silent_or_a_sweep.ensures.sweeps;
        sweeps_nothing = c.a_got_is_silent_or_a_sweep.ensures.silent;
      };
    } in
    history_told below c.views_show_the_store.ensures.pointers set found (opened_folds set found) o.names (may_open c.catalogues_in_memory_are_folds.ensures.list set found o (λ line. None)) commands none events clients
    (comes_on ComesNext (first_core set found) events (c.a_store_that_opens_comes_on.ensures.soundly set found events o) come) (keep_turn commands events (first_core set found) comes)

pub returns-clause-book : goal.returns-clause-book
returns-clause-book c = λ set found book o history.
    let below : LawsBelow = record {
      views = c.views_show_the_store.ensures.shown;
      steps = record {
        first = c.a_step_that_answers_is_the_judges.ensures.first;
        later = c.a_step_that_answers_is_the_judges.ensures.later;
        answered = c.an_answer_is_the_judges.ensures.answered;
        read = c.a_read_is_the_judges.ensures.told;
        write = c.a_write_is_the_judges.ensures;
      };
      reads = c.a_read_is_the_judges.ensures.whatever;
      laws = record {
        stores = c.a_new_block_is_answered_at_its_effect.ensures;
        marks = c.a_present_block_is_answered_at_its_effect.ensures;
        roots = c.a_root_is_answered_at_its_effect.ensures;
        drops = c.a_drop_is_answered_at_its_effect.ensures;
        deletes = c.a_delete_is_answered_at_its_effect.ensures;
        enters_by_itself = c.an_enter_by_itself_is_told.ensures.enters;
        enters_nothing = c.an_enter_by_itself_is_told.ensures.silent;
        sweeps_last = c.a_got_is_silent_or_a_sweep.ensures.sweeps;
        sweeps_nothing = c.a_got_is_silent_or_a_sweep.ensures.silent;
      };
    } in
    book_deeds below c.views_show_the_store.ensures.pointers set found (opened_folds set found) o.names (may_open c.catalogues_in_memory_are_folds.ensures.list set found o (λ line. None)) book history
    (comes_on ComesNext (first_core set found) history.events (c.a_store_that_opens_comes_on.ensures.soundly set found history.events o)
    (book_comes history.events (first_core set found) (λ going. first_room set found c.catalogues_in_memory_are_folds.ensures.list o.sound) history.may))

pub returns-clause-lines : goal.returns-clause-lines
returns-clause-lines c = λ set found name turns book lines o goes.
    let below : LawsBelow = record {
      views = c.views_show_the_store.ensures.shown;
      steps = record {
        first = c.a_step_that_answers_is_the_judges.ensures.first;
        later = c.a_step_that_answers_is_the_judges.ensures.later;
        answered = c.an_answer_is_the_judges.ensures.answered;
        read = c.a_read_is_the_judges.ensures.told;
        write = c.a_write_is_the_judges.ensures;
      };
      reads = c.a_read_is_the_judges.ensures.whatever;
      laws = record {
        stores = c.a_new_block_is_answered_at_its_effect.ensures;
        marks = c.a_present_block_is_answered_at_its_effect.ensures;
        roots = c.a_root_is_answered_at_its_effect.ensures;
        drops = c.a_drop_is_answered_at_its_effect.ensures;
        deletes = c.a_delete_is_answered_at_its_effect.ensures;
        enters_by_itself = c.an_enter_by_itself_is_told.ensures.enters;
        enters_nothing = c.an_enter_by_itself_is_told.ensures.silent;
        sweeps_last = c.a_got_is_silent_or_a_sweep.ensures.sweeps;
        sweeps_nothing = c.a_got_is_silent_or_a_sweep.ensures.silent;
      };
    } in
    lines_leave below c.views_show_the_store.ensures.pointers set found (opened_folds set found) o.names (may_open c.catalogues_in_memory_are_folds.ensures.list set found o (λ line. None))
    (λ events. c.a_store_that_opens_comes_on.ensures.soundly set found events o) name turns book lines goes
