use Rattle.std.proofs.Common.{◌≡◌, ◌∙◌, ap, arith, None, Some, sym}
use Rattle.std.proofs.lemmas.Grind.{common_steps}
use Rattle.hs_model.specs.Store.{block_at, epoch_at, session_at}
use Rattle.hs_plain.proofs.DeedLemmas.{mark_found, mark_only}
use Rattle.hs_plain.specs.Holding.{may_mark}
use Rattle.hs_plain.proofs.memory_store.MemoryStore.may_mark.Goals as goal

pub returns-in_default : goal.returns-in_default
returns-in_default c =
    let none : session_at c.args.self.now c.args.session.now ≡ None = grind (arith, common_steps) in
    (λ h. absurd (cc h), λ h. absurd (grind (arith, common_steps, none, h.gives.is_open)))

pub returns-in_default-get : goal.returns-in_default-get
returns-in_default-get c =
    let none : block_at c.args.self.now c.args.address.now ≡ None = grind (arith, common_steps) in
    (λ h. absurd (cc h), λ h. absurd (grind (arith, common_steps, none, h.present)))

pub returns : goal.returns
returns c =
    let a = c.args in
    let s = a.self.now in
    let here : session_at s a.session.now ≡ Some c.in-Some.seat.now = grind (arith, common_steps) in
    let there : block_at s a.address.now ≡ Some c.in-Some-get.stored.now = grind (arith, common_steps) in
    let e = c.may_mark.ensures ∙ ap (λ n. may_mark c.in-Some.seat.now n c.as_slice.result.now a.handle) c.epoch_at.ensures ∙ ap (λ ps. may_mark c.in-Some.seat.now (epoch_at s a.address.now) ps a.handle) c.as_slice.ensures in (
      λ h. mark_found s a.session.now c.in-Some.seat.now here a.address.now c.in-Some-get.stored.now a.handle there (sym e ∙ h),
      λ h. e ∙ mark_only s a.session.now c.in-Some.seat.now here a.address.now c.in-Some-get.stored.now a.handle there h,
    )
