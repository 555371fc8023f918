use Rattle.std.proofs.Common.{◌∙◌, arith, sym}
use Rattle.std.proofs.lemmas.Grind.{common_steps}
use Rattle.hs_plain.proofs.DoesLemmas.{enter_does}
use Rattle.hs_plain.proofs.memory_store.MemoryStore.does_enter.Goals as goal

pub returns-in_ok-answer-in-Enter : goal.returns-in_ok-answer-in-Enter
returns-in_ok-answer-in-Enter c = λ before.
    let a = c.args in
    let may = c.may_enter.ensures.found (grind (arith, common_steps)) in
    rw c.in-Enter.is (enter_does a.limits a.self.now a.shard c.enter.new.self c.is_same.result c.in-Enter.epoch c.in_ok-answer-in-Enter.answer.reply may.0 may.1 (c.in_ok-answer-in-Enter.ensures.reply a.limits) c.in_ok-answer-in-Enter.ensures.store
    (λ h. c.is_same.ensures.0 h ∙ c.in-Enter.is) (λ h. c.is_same.ensures.1 (h ∙ sym c.in-Enter.is)) before)
