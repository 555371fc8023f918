use Rattle.std.proofs.Common.{◌≡◌, ◌∙◌, ap, sym, Some}
use Rattle.hs_entry.specs.declared.entry.Entry.{Entry}
use Rattle.hs_taking.proofs.comparing.compare_entry.Goals as goal

pub returns-clause-same : goal.returns-clause-same
returns-clause-same g c = λ told whole own there here.
    let a = c.in-Ok.ensures.found told whole there in
    let b = c.in-Ok-view_entry.ensures.found told own here in
    (λ yes. b ∙ ap (λ (e : Entry). Some e) (sym (c.is_same.ensures.0 yes)) ∙ sym a, λ same. c.is_same.ensures.1 (some_is _ _ (sym a ∙ sym same ∙ b)))
  where
    some_is : (x y : Entry) → Some x ≡ Some y → x ≡ y
    some_is x y e = cc e
