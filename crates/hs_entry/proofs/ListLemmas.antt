-- Beginnings of lists.
use Rattle.std.proofs.Common.{◌≡◌, ℕ, List, ◌++◌, length, take, drop, Bool, IsTrue, ◌↔◌, refl, sym, ap, ◌∙◌}
use Rattle.std.proofs.lemmas.List.{take_at, take-append-drop}
use Rattle.hs_entry.specs.declared.entry.Entry.{Entry}
use Rattle.hs_entry.specs.Entries.{IsPrefix}

-- a list begins with another where its front of that length is it
pub prefix_where :
    (front all read_front read_all : List (ℕ × Entry)) (answer : Bool) → read_front ≡ front → read_all ≡ all →
    IsTrue answer ↔ (take (length read_front) read_all ≡ read_front) → IsTrue answer ↔ IsPrefix front all
prefix_where front all read_front read_all answer front_is all_is given = (
  λ yes.
      let same : take (length front) all ≡ front = rw (← front_is, ← all_is) (given.0 yes) in
      (drop (length front) all, sym (take-append-drop (length front) all) ∙ ap (λ (t : List (ℕ × Entry)). t ++ drop (length front) all) same),
  λ begins.
      let same : take (length front) all ≡ front = rw (begins.1) (take_at front begins.0 (length front) refl) in
      given.1 (rw (front_is, all_is) same),
)
