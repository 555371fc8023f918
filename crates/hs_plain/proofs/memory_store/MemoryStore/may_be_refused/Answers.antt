use Rattle.std.proofs.Common.{◌≡◌, ◌↔◌, IsTrue, arith, map, refl, true}
use Rattle.std.proofs.lemmas.Grind.{common_steps}
use Rattle.hs_journal.specs.Deeds.{as_deed}
use Rattle.hs_model.specs.Deeds.{IsRefused, MayBeRefused, Refused}
use Rattle.hs_plain.proofs.DoesLemmas.{busy_so, not_busy}
use Rattle.hs_plain.proofs.ReplayLemmas.{if_one}
use Rattle.hs_plain.proofs.memory_store.MemoryStore.may_be_refused.Goals as goal

pub returns-then-is_busy : goal.returns-then-is_busy
returns-then-is_busy c =
    let on : c.is_busy.result ≡ true = grind (arith, common_steps) in
    (λ h. busy_so c.args.limits c.args.self.now c.args.before.now c.args.asked.now c.args.told.now (c.is_busy.ensures.0 on), λ h. refl)

pub returns : goal.returns
returns c =
    let a = c.args in
    if_one c.is_refused.result (λ is. IsTrue is ↔ MayBeRefused a.limits a.self.now (map as_deed a.before.now) a.asked.now a.told.now) (λ is. IsTrue is ↔ IsRefused a.limits a.self.now a.asked.now a.told.now) c.is_refused.ensures
    (λ is fits. (
      λ h. Refused (fits.0 h),
      λ h. fits.1 (not_busy a.limits a.self.now a.before.now a.asked.now a.told.now (λ busy. let t = c.is_busy.ensures.1 busy in grind (arith, common_steps, t)) h),
    ))
