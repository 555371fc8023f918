use Rattle.std.proofs.Common.{◌≡◌, ◌∙◌, ◌↔◌, IsTrue, map, sym}
use Rattle.hs_journal.specs.Deeds.{as_deed}
use Rattle.hs_model.specs.declared.deed.Deed.TheVariants.{Nothing, Refused}
use Rattle.hs_model.specs.Deeds.{IsNote, MayBeRefused}
use Rattle.hs_model.specs.Judge.{judge}
use Rattle.hs_plain.proofs.DoesLemmas.{judged_does, note_does, refused_does}
use Rattle.hs_plain.proofs.ReplayLemmas.{if_ok, if_one}
use Rattle.hs_plain.specs.Deeds.{Does, IsJudged}
use Rattle.hs_plain.proofs.memory_store.MemoryStore.does.Goals as goal

pub returns-in-Some : goal.returns-in-Some
returns-in-Some c =
    let a = c.args in
    let s = a.self.now in
    if_ok c.is_judged.result (λ is. Does a.limits s (map as_deed a.before.now) a.deed.now a.told.now is c.is_judged.new.self) (λ is. IsTrue is ↔ IsJudged a.limits s c.in-Some.op a.deed.now a.told.now) (c.is_judged.new.self ≡ (judge a.limits s c.in-Some.op).store)
    c.is_judged.ensures.is c.is_judged.ensures.store
    (λ is fits kept. judged_does a.limits s (map as_deed a.before.now) a.told.now is c.in-Some.op a.deed.now c.is_judged.new.self (sym c.in_ok-op.ensures ∙ c.in-Some.is) fits.0 fits.1 kept)

pub returns-in-Refused : goal.returns-in-Refused
returns-in-Refused c =
    let a = c.args in
    let s = a.self.now in
    rw c.in-Refused.is (if_one c.may_be_refused.result (λ is. Does a.limits s (map as_deed a.before.now) (Refused c.in-Refused.asked) a.told.now is s) (λ is. IsTrue is ↔ MayBeRefused a.limits s (map as_deed a.before.now) c.in-Refused.asked a.told.now)
    c.may_be_refused.ensures (λ is fits. refused_does a.limits s (map as_deed a.before.now) a.told.now is c.in-Refused.asked fits.0 fits.1))

pub returns-in-Nothing : goal.returns-in-Nothing
returns-in-Nothing c =
    let a = c.args in
    let s = a.self.now in
    rw c.in-Nothing.is (if_one c.is_note.result (λ is. Does a.limits s (map as_deed a.before.now) Nothing a.told.now is s) (λ is. IsTrue is ↔ IsNote s (map as_deed a.before.now) a.told.now)
    c.is_note.ensures (λ is fits. note_does a.limits s (map as_deed a.before.now) a.told.now is fits.0 fits.1))
