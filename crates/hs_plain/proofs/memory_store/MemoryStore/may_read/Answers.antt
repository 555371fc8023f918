use Rattle.std.proofs.Common.{◌≡◌, ◌∙◌, ◌≤◌, ◌+◌, arith, None, Some, sym}
use Rattle.std.proofs.lemmas.Grind.{common_steps}
use Rattle.hs_model.specs.Store.{epoch_at, session_at}
use Rattle.hs_plain.proofs.HoldingLemmas.{held_found, held_only}
use Rattle.hs_plain.proofs.memory_store.MemoryStore.may_read.Goals as goal

pub returns-in_default : goal.returns-in_default
returns-in_default c =
    let none : session_at c.args.self.now c.args.session.now ≡ None = grind (arith, common_steps) in
    (λ h. absurd (cc h), λ h. absurd (grind (arith, common_steps, none, h.held)))

pub returns-then-saturating_sub-held : goal.returns-then-saturating_sub-held
returns-then-saturating_sub-held c = (λ h. absurd (cc h), λ h. absurd (grind (arith, common_steps, h.fresh)))

pub returns : goal.returns
returns c =
    let a = c.args in
    let s = a.self.now in
    let here : session_at s a.session.now ≡ Some c.in-Some.seat.now = grind (arith, common_steps) in
    let fresh : epoch_at s a.held.now.address ≤ a.held.now.epoch + 1 = grind (arith, common_steps) in (
      λ h. let r = held_found s a.session.now c.in-Some.seat.now here a.held.now (sym c.has_held.ensures ∙ h) in record { handle = r.0; held = r.1; fresh = fresh },
      λ h. c.has_held.ensures ∙ held_only s a.session.now c.in-Some.seat.now here a.held.now h.handle h.held,
    )
