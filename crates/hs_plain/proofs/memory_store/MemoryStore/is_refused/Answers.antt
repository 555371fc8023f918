use Rattle.std.proofs.Common.{◌∙◌, arith, refl, sym}
use Rattle.std.proofs.lemmas.Grind.{common_steps}
use Rattle.hs_plain.proofs.DoesLemmas.{not_plain, refused_colliding, refused_plain}
use Rattle.hs_plain.proofs.memory_store.MemoryStore.is_refused.Goals as goal

pub returns-then-is_told : goal.returns-then-is_told
returns-then-is_told c =
    let a = c.args in
    let e = c.is_told.ensures.0 (grind (arith, common_steps)) in
    (λ h. refused_plain a.limits a.self.now a.asked.now a.told.now (sym c.in_ok-plain.ensures ∙ e), λ h. refl)

pub returns-then-not-is_there : goal.returns-then-not-is_there
returns-then-not-is_there c =
    let a = c.args in (
      λ h. absurd (cc h),
      λ h. let r = not_plain a.limits a.self.now a.asked.now a.told.now (λ e. let t = c.is_told.ensures.1 (c.in_ok-plain.ensures ∙ e) in grind (arith, common_steps, t)) h in absurd (grind (arith, common_steps, r.0)),
    )

pub returns : goal.returns
returns c =
    let a = c.args in (
      λ h. refused_colliding a.limits a.self.now a.asked.now a.told.now (grind (arith, common_steps)) (sym c.in_ok-colliding.ensures ∙ c.is_told-2.ensures.0 h),
      λ h. let r = not_plain a.limits a.self.now a.asked.now a.told.now (λ e. let t = c.is_told.ensures.1 (c.in_ok-plain.ensures ∙ e) in grind (arith, common_steps, t)) h in c.is_told-2.ensures.1 (c.in_ok-colliding.ensures ∙ r.1),
    )
