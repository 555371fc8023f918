use Rattle.std.proofs.Common.{◌∙◌, ap, sym, false, nat_le}
use Rattle.std.proofs.lemmas.Bool.{and_from, and_parts}
use Rattle.std.specs.List.{list_all}
use Rattle.std.specs.Option.{option_map_or}
use Rattle.hs_model.specs.Deeds.{is_done_of, is_sweep_of}
use Rattle.hs_plain.specs.Deeds.{last_told}
use Rattle.hs_model.proofs.JudgeLemmas.{judge_counted}
use Rattle.hs_plain.proofs.HoldingLemmas.{somewhere_found, somewhere_only}
use Rattle.hs_plain.proofs.DoesLemmas.{last_same}
use Rattle.hs_limits.specs.Limits.{greatest_limits}
use Rattle.hs_plain.proofs.memory_store.MemoryStore.is_note.Goals as goal

pub returns-in_ok-answer-in-Stat : goal.returns-in_ok-answer-in-Stat
returns-in_ok-answer-in-Stat c =
    let a = c.args in
    let e = c.in_ok-answer-in-Stat.ensures.reply greatest_limits ∙ ap (λ j. j.reply) (judge_counted greatest_limits a.self.now) in
    rw c.in-Stat.is (λ h. sym c.in-Stat.is ∙ sym (c.is_same.ensures.0 h) ∙ e, λ h. c.is_same.ensures.1 (e ∙ sym h ∙ sym c.in-Stat.is))

pub returns-in-Name : goal.returns-in-Name
returns-in-Name c =
    let a = c.args in
    rw c.in-Name.is (λ h. somewhere_found a.self.now c.in-Name.address (c.is_held_fresh.ensures.0 h), λ h. c.is_held_fresh.ensures.1 (somewhere_only a.self.now c.in-Name.address h))

pub returns-in-Done : goal.returns-in-Done
returns-in-Done c =
    let a = c.args in
    let s = a.self.now in
    let epoch = c.in-Done.epoch in
    let last = ap (λ o. option_map_or (is_sweep_of epoch) o false) (last_same a.before.now) in
    rw c.in-Done.is (
      λ h. let p = and_parts (option_map_or (is_sweep_of epoch) (last_told a.before.now) false) (list_all (λ swept. nat_le epoch swept) s.swept) (sym c.is_done.ensures ∙ h) in (sym last ∙ p.0, p.1),
      λ h. c.is_done.ensures ∙ and_from (option_map_or (is_sweep_of epoch) (last_told a.before.now) false) (list_all (λ swept. nat_le epoch swept) s.swept) (last ∙ h.0) h.1,
    )

pub returns-in-Visits : goal.returns-in-Visits
returns-in-Visits c =
    let a = c.args in
    let last = ap (λ o. option_map_or (is_done_of c.in-Visits.epoch) o false) (last_same a.before.now) in
    rw c.in-Visits.is (λ h. sym last ∙ sym c.last_ends.ensures ∙ h, λ h. c.last_ends.ensures ∙ last ∙ h)
