use Rattle.hs_promise.specs.Entry.{entry_store}
use Rattle.hs_quiet.proofs.SweptLemmas.{Below}
use Rattle.hs_settled.proofs.AnsweredLemmas.{along, settles_each}
use Rattle.hs_settled.proofs.BegunLemmas.{Told}
use Rattle.hs_settled.proofs.settled.each_settle_settles.Goals as goal

pub returns : goal.returns
returns c = λ S r story went none begins may answers.
    let told : Told = record { opens = c.each_event_is_told.ensures.opens; events = c.each_event_is_told.ensures.events } in
    let below : Below = record { joined = c.folds_follow_the_machine.ensures.joined; step = c.rounds_run_in_step.ensures.step; on = c.a_run_goes_on.ensures.on } in
    settles_each S r story went none (entry_store S r) (along told c.catalogues_in_memory_are_folds.ensures.list S (entry_store S r) story begins may) below answers
