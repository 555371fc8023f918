use Rattle.hs_standing.proofs.LegalEventLemmas.{all_copies_stand, copies_stand, event_stands, told_whole}
use Rattle.hs_standing.proofs.Laws.{Entries, Steps}
use Rattle.hs_standing.proofs.LegalOpenLemmas.{opened}
use Rattle.hs_standing.proofs.told.each_event_is_told.Goals as goal

steps_of : (c : goal.After-a_got_is_silent_or_a_sweep) → Steps
steps_of c = record {
  first = c.a_step_that_answers_is_the_judges.ensures.first;
  later = c.a_step_that_answers_is_the_judges.ensures.later;
  answered = c.an_answer_is_the_judges.ensures.answered;
  read = c.a_read_is_the_judges.ensures.told;
  write = c.a_write_is_the_judges.ensures;
}

laws_of : (c : goal.After-a_got_is_silent_or_a_sweep) → Entries
laws_of c = record {
  stores = c.a_new_block_is_answered_at_its_effect.ensures;
  marks = c.a_present_block_is_answered_at_its_effect.ensures;
  roots = c.a_root_is_answered_at_its_effect.ensures;
  drops = c.a_drop_is_answered_at_its_effect.ensures;
  deletes = c.a_delete_is_answered_at_its_effect.ensures;
  enters_by_itself = c.an_enter_by_itself_is_told.ensures.enters;
  enters_nothing = c.an_enter_by_itself_is_told.ensures.silent;
  sweeps_last = c.a_got_is_silent_or_a_sweep.ensures.sweeps;
  sweeps_nothing = c.a_got_is_silent_or_a_sweep.ensures.silent;
}

pub returns-clause-opens : goal.returns-clause-opens
returns-clause-opens c = λ by shape taken moment cs names may.
    opened c.views_show_the_store.ensures.shown (steps_of c) (laws_of c) by names shape taken moment cs may

pub returns-clause-event : goal.returns-clause-event
returns-clause-event c = λ by start whole event moment cs names valid sane room clean may stands.
    event_stands c.views_show_the_store.ensures.shown (steps_of c) (laws_of c) by names start valid whole event moment sane room clean may (cs, stands)

pub returns-clause-events : goal.returns-clause-events
returns-clause-events c = λ by start core events cs names valid clean told may stands.
    all_copies_stand c.views_show_the_store.ensures.shown (steps_of c) (laws_of c) by names start valid events core clean told may (cs, stands)

pub returns-clause-copies : goal.returns-clause-copies
returns-clause-copies c = λ by start core event moment cs names valid going seated known room clean may stands.
    copies_stand c.views_show_the_store.ensures.shown (steps_of c) (laws_of c) by names start valid core event moment going seated known room clean may (cs, stands)

pub returns-clause-tells : goal.returns-clause-tells
returns-clause-tells c = λ by start core cs stands whole. told_whole by start core cs stands whole
