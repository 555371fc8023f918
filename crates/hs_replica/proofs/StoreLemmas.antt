-- The lines that were counted stand in order.
use Rattle.std.proofs.Common.{◌≡◌, ◌∙◌, sym, ap, subst, ℕ, ◌+◌, ◌<◌, Bool, true, false, List, Option, Some, None, Result, Ok, Err, OnOk, refl, arith, not, ◌&&◌, ◌||◌}
use Rattle.std.proofs.lemmas.Bool.{eq-eqb, eqb-true, lt-ltb}
use Rattle.std.specs.declared.alloc.AllocError.{AllocError}
use Rattle.std.specs.List.{list_any}
use Rattle.std.specs.Ordering.{is_eq, nat_cmp}
use Rattle.std.specs.Prelude.{⊤, ◌==◌, OnErr, count_by, nat_lt}
use Rattle.hs_entry.specs.declared.entry.Entry.{Entry}
use Rattle.hs_replica.specs.Counting.{AreFiled, IsCleared, at_epoch, count_at, is_counted, is_listed, once, weight}
use Rattle.hs_replica.specs.Kinds.{stores_for}
use Rattle.hs_replica.proofs.CountLemmas.{any_counted}
use Rattle.hs_replica.proofs.KindLemmas.{enter_once}
use Rattle.hs_rounds.specs.declared.place.Place.{Place}
use Rattle.hs_waits.specs.Lines.{IsFirstFrom, has}

-- ---- one line is counted once more, or was counted once more before

module _ (line : ℕ) (less more : List (Place × ℕ)) (adds : (p : Place) → count_at more p ≡ once (at_epoch line) p + count_at less p) where
  -- the others as before
  other_counted : (n : ℕ) → (line == n) ≡ false → is_counted more n ≡ is_counted less n
  other_counted n apart =
      let none : once (at_epoch line) (at_epoch n) ≡ 0 = enter_once line n ∙ ap weight apart in
      let same : count_at more (at_epoch n) ≡ count_at less (at_epoch n) = omega (arith, adds (at_epoch n), none) in
      ap (nat_lt 0) same

  -- and it is counted
  own_counted : is_counted more line ≡ true
  own_counted =
      let one : once (at_epoch line) (at_epoch line) ≡ 1 = enter_once line line ∙ ap weight (eq-eqb line line refl) in
      let up : 0 < count_at more (at_epoch line) = omega (arith, adds (at_epoch line), one) in
      lt-ltb 0 (count_at more (at_epoch line)) up

-- ---- a line that is not counted is taken out

module _ (counts : List (Place × ℕ)) (line : ℕ) (old new : List (ℕ × ℕ)) (clear : IsCleared counts line old new)
    (others : (n : ℕ) → (line == n) ≡ false → is_listed old n ≡ is_counted counts n) (own : is_counted counts line ≡ true → is_listed old line ≡ true) where
  at_line : (b : Bool) → is_counted counts line ≡ b → (not (not b) && is_listed old line) ≡ b
  at_line true e = own e
  at_line false e = refl

  pub cleared : AreFiled counts new
  cleared n = clear n ∙ go (line == n) refl
    where
      go : (b : Bool) → (line == n) ≡ b → (not (line == n && not (is_counted counts line)) && is_listed old n) ≡ is_counted counts n
      go false e = rw e (others n e)
      go true e =
          let same : line ≡ n = eqb-true line n e in
          rw e (subst (λ (m : ℕ). (not (not (is_counted counts line)) && is_listed old m) ≡ is_counted counts m) same (at_line (is_counted counts line) refl))

-- where it is not counted it is taken out, and else nothing is
module _ (counts : List (Place × ℕ)) (line : ℕ) (old new : List (ℕ × ℕ)) where
  both : (x y : Bool) → y ≡ true → x ≡ (x && y)
  both true y e = sym e
  both false y e = refl

  neither : (x y b : Bool) → y ≡ false → b ≡ (not (x && y) && b)
  neither true y b e = rw e refl
  neither false y b e = refl

  pub clear_none : count_at counts (at_epoch line) ≡ 0 → ((other n : ℕ) → has nat_cmp new other n ≡ (not (is_eq (nat_cmp 0 other) && line == n) && has nat_cmp old other n)) → IsCleared counts line old new
  clear_none zero removes n =
      let fails : not (is_counted counts line) ≡ true = ap (λ k. not (nat_lt 0 k)) zero in
      removes 0 n ∙ ap (λ b. not b && is_listed old n) (both (line == n) (not (is_counted counts line)) fails)

  pub clear_some : 0 < count_at counts (at_epoch line) → new ≡ old → IsCleared counts line old new
  clear_some up same n =
      let counted : not (is_counted counts line) ≡ false = ap not (lt-ltb 0 (count_at counts (at_epoch line)) up) in
      ap (λ lines. is_listed lines n) same ∙ neither (line == n) (not (is_counted counts line)) (is_listed old n) counted

-- ---- one more, where there is memory

listed_too : (line : ℕ) (lines more : List (ℕ × ℕ)) → ((other n : ℕ) → has nat_cmp more other n ≡ (is_eq (nat_cmp 0 other) && line == n || has nat_cmp lines other n))
    → (n : ℕ) → is_listed more n ≡ (line == n || is_listed lines n)
listed_too line lines more adds n = adds 0 n

pub filed_added : (line : ℕ) (place : Place) (counts next : List (Place × ℕ)) (lines more last : List (ℕ × ℕ)) (result : Result ⊤ AllocError) → place ≡ at_epoch line → AreFiled counts lines
    → ((other n : ℕ) → has nat_cmp more other n ≡ (is_eq (nat_cmp 0 other) && line == n || has nat_cmp lines other n))
    → OnOk result ((p : Place) → count_at next p ≡ once place p + count_at counts p) → OnErr result (next ≡ counts) → IsCleared next line more last → AreFiled next last
filed_added line place counts next lines more last result its are adds counted same clear =
    cleared next line more last clear (λ n apart. listed_too line lines more adds n ∙ rw apart (are n ∙ sym (others result at_line same n apart)))
    (λ e. listed_too line lines more adds line ∙ rw (eq-eqb line line refl) refl)
  where
    at_line : OnOk result ((p : Place) → count_at next p ≡ once (at_epoch line) p + count_at counts p)
    at_line = subst (λ (q : Place). OnOk result ((p : Place) → count_at next p ≡ once q p + count_at counts p)) its counted

    others : (result : Result ⊤ AllocError) → OnOk result ((p : Place) → count_at next p ≡ once (at_epoch line) p + count_at counts p) → OnErr result (next ≡ counts)
        → (n : ℕ) → (line == n) ≡ false → is_counted next n ≡ is_counted counts n
    others (Ok u) counted same n apart = other_counted line counts next counted n apart
    others (Err e) counted same n apart = ap (λ x. is_counted x n) same

-- ---- one less

-- at the place of a line
pub taken_out : (line : ℕ) (place : Place) (counts next : List (Place × ℕ)) → place ≡ at_epoch line
    → (0 < count_at counts place → (p : Place) → count_at counts p ≡ once place p + count_at next p)
    → 0 < count_at counts (at_epoch line) → (p : Place) → count_at counts p ≡ once (at_epoch line) p + count_at next p
taken_out line place counts next its taken = subst (λ (q : Place). 0 < count_at counts q → (p : Place) → count_at counts p ≡ once q p + count_at next p) its taken

pub filed_removed : (line : ℕ) (counts next : List (Place × ℕ)) (lines last : List (ℕ × ℕ)) → AreFiled counts lines
    → ((p : Place) → count_at counts p ≡ once (at_epoch line) p + count_at next p) → IsCleared next line lines last → AreFiled next last
filed_removed line counts next lines last are counted clear =
    cleared next line lines last clear (λ n apart. are n ∙ other_counted line next counts counted n apart) (λ e. are line ∙ own_counted line next counts counted)

-- ---- the first

first_alike : (from : ℕ) (p q : ℕ → Bool) (first : Option ℕ) → ((n : ℕ) → q n ≡ p n) → IsFirstFrom from p first → IsFirstFrom from q first
first_alike from p q None same h = λ n far. same n ∙ h n far
first_alike from p q (Some k) same h = (h.0, same k ∙ h.1, λ n far found. h.2 n far (sym (same n) ∙ found))

pub first_filed : (counts : List (Place × ℕ)) (lines : List (ℕ × ℕ)) (from : ℕ) (first : Option ℕ) → AreFiled counts lines → IsFirstFrom from (has nat_cmp lines 0) first → IsFirstFrom from (is_counted counts) first
first_filed counts lines from first are h = first_alike from (has nat_cmp lines 0) (is_counted counts) first (λ n. sym (are n)) h

-- of some entries
pub first_stored : (counts : List (Place × ℕ)) (entries : List Entry) (from : ℕ) (first : Option ℕ) → ((line : ℕ) → count_at counts (at_epoch line) ≡ count_by (stores_for line) entries)
    → IsFirstFrom from (is_counted counts) first → IsFirstFrom from (λ n. list_any (stores_for n) entries) first
first_stored counts entries from first are h =
    first_alike from (is_counted counts) (λ n. list_any (stores_for n) entries) first (λ n. sym (any_counted (stores_for n) (count_at counts (at_epoch n)) entries (are n))) h
