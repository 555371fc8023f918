-- The lines that wait for something: pairs in the order of their parts.
use Rattle.std.proofs.Common.{◌≡◌, ℕ, ◌<◌, ◌≤◌, Bool, true, false, cond, List, [], ◌∷◌, ◌&&◌, ◌||◌, Option, Some, None, min, refl, ap, sym, ◌∙◌, arith, ◌⊎◌, inl, inr, ⊎_elim}
use Rattle.std.proofs.lemmas.Bool.{cases_lt, eqb-true, or_cases}
use Rattle.std.proofs.lemmas.Cmp.{tied_back, tied_itself}
use Rattle.std.specs.BTreeMap.{is_at}
use Rattle.std.specs.BTreeMap.Range.{IsInRange}
use Rattle.std.specs.BTreeSet.{BTreeSet, IsKeyInRange, IsKeyRangeOf}
use Rattle.std.specs.declared.cmp.Ordering.{Ordering}
use Rattle.std.specs.declared.cmp.Ordering.TheVariants.{Less, Equal, Greater}
use Rattle.std.specs.declared.ops.Bound.TheVariants.{Included, Unbounded}
use Rattle.std.specs.Cmp.{IsTotalOrder, ranks, tied_then, unsigned_tied}
use Rattle.std.specs.List.{list_any}
use Rattle.std.specs.Ordering.{MatchOrdering, is_eq, is_gt, nat_cmp, ordering_reverse, ordering_then}
use Rattle.std.specs.Prelude.{not, ◌==◌, OnOk, Result, ⊤}
use Rattle.std.proofs.lemmas.Result.{on_ok_weaker}
use Rattle.std.specs.Option.{option_map_or}
use Rattle.std.specs.declared.alloc.AllocError.{AllocError}
use Rattle.hs_waits.specs.Causes.{AreWaits, is_same, waits}
use Rattle.hs_waits.specs.declared.cause.Cause.{Cause}
use Rattle.hs_waits.specs.Lines.{AreKept, IsFirstFrom, changed, has, pair_cmp, tied}

with_true : (b x : Bool) → cond b true x ≡ (b || x)
with_true true x = refl
with_true false x = refl

with_false : (b x : Bool) → cond b false x ≡ (not b && x)
with_false true x = refl
with_false false x = refl

any_alike : {A : Type 0} (f g : A → Bool) (xs : List A) → ((x : A) → f x ≡ g x) → list_any f xs ≡ list_any g xs
any_alike f g [] h = refl
any_alike f g (x ∷ xs) h = ap (λ b. b || list_any f xs) (h x) ∙ ap (λ b. g x || b) (any_alike f g xs h)

equal_from : (r : Ordering) → is_eq r ≡ true → r ≡ Equal
equal_from Less h = cc h
equal_from Equal h = refl
equal_from Greater h = cc h

up_from : (a b : ℕ) → is_gt (nat_cmp a b) ≡ false → a ≤ b
up_from a b h = go (nat_cmp a b) (ranks a b) h
  where
    go : (o : Ordering) → MatchOrdering o (a < b) (a ≡ b) (b < a) → is_gt o ≡ false → a ≤ b
    go Less f g = omega arith
    go Equal f g = omega arith
    go Greater f g = cc

up_to : (a b : ℕ) → a ≤ b → is_gt (nat_cmp a b) ≡ false
up_to a b h = go (nat_cmp a b) (ranks a b)
  where
    go : (o : Ordering) → MatchOrdering o (a < b) (a ≡ b) (b < a) → is_gt o ≡ false
    go Less f = refl
    go Equal f = refl
    go Greater f = absurd (omega arith)

-- where neither is above the other they are tied
not_apart : (r : Ordering) → is_eq r ≡ false → is_gt r ≡ false → is_gt (ordering_reverse r) ≡ false → true ≡ false
not_apart Less e f g = g
not_apart Equal e f g = e
not_apart Greater e f g = f

first_part : (r s : Ordering) → is_gt (ordering_then r s) ≡ false → is_gt r ≡ false
first_part Less s h = refl
first_part Equal s h = refl
first_part Greater s h = h

module _ {K : Type 0} (cmp : K → K → Ordering) where
  at_pair : (key other : K) (line n : ℕ) → is_at (pair_cmp cmp (key, line)) (other, n) ≡ (is_eq (cmp key other) && line == n)
  at_pair key other line n = sym (tied_then (cmp key other) (nat_cmp line n)) ∙ rw (unsigned_tied line n) refl

  pub has_added : (old new : List (K × ℕ)) (key : K) (line : ℕ) → ((q : K × ℕ) → has cmp new q.0 q.1 ≡ cond (is_at (pair_cmp cmp (key, line)) q) true (has cmp old q.0 q.1))
      → (other : K) (n : ℕ) → has cmp new other n ≡ (is_eq (cmp key other) && line == n || has cmp old other n)
  has_added old new key line h other n = h (other, n) ∙ (rw (at_pair key other line n) (with_true (is_eq (cmp key other) && line == n) (has cmp old other n)))

  pub has_removed : (old new : List (K × ℕ)) (key : K) (line : ℕ) → ((q : K × ℕ) → has cmp new q.0 q.1 ≡ cond (is_at (pair_cmp cmp (key, line)) q) false (has cmp old q.0 q.1))
      → (other : K) (n : ℕ) → has cmp new other n ≡ (not (is_eq (cmp key other) && line == n) && has cmp old other n)
  has_removed old new key line h other n = h (other, n) ∙ (rw (at_pair key other line n) (with_false (is_eq (cmp key other) && line == n) (has cmp old other n)))

-- ---- the least line from one on: what stands first from that pair on

module _ {K : Type 0} (cmp : K → K → Ordering) (o : IsTotalOrder cmp) (s : BTreeSet (K × ℕ)) (key : K) (from : ℕ) (r : List (K × ℕ)) (part : IsKeyRangeOf (pair_cmp cmp) (Included (key, from)) Unbounded s r) where
  lies_in : (n : ℕ) → from ≤ n → IsInRange (pair_cmp cmp) (Included (key, from)) Unbounded (key, n)
  lies_in n h = (rw (tied_itself o key) (up_to from n h), tt)

  first_is_in : (x : K × ℕ) (t : List (K × ℕ)) → r ≡ x ∷ t → IsKeyInRange (pair_cmp cmp) (Included (key, from)) Unbounded s x
  first_is_in x t e = rw e at part.1

  first_is_least : (x : K × ℕ) (t : List (K × ℕ)) → r ≡ x ∷ t → (n : ℕ) → from ≤ n → has cmp s.keys key n ≡ true → is_gt (pair_cmp cmp x (key, n)) ≡ false
  first_is_least x t e n h found = rw e at (part.2 (key, n) (lies_in n h) found)

  pub first_found : (x : K × ℕ) (t : List (K × ℕ)) → r ≡ x ∷ t → is_eq (cmp x.0 key) ≡ true → IsFirstFrom from (has cmp s.keys key) (Some x.1)
  first_found x t e tied =
      let same : cmp x.0 key ≡ Equal = equal_from (cmp x.0 key) tied in
      let back : cmp key x.0 ≡ Equal = tied_back o x.0 key same in
      let above : is_gt (nat_cmp from x.1) ≡ false = rw back at (first_is_in x t e).0.0 in
      let moved : has cmp s.keys key x.1 ≡ has cmp s.keys x.0 x.1
      = any_alike (is_at (pair_cmp cmp (key, x.1))) (is_at (pair_cmp cmp (x.0, x.1))) s.keys (λ y. ap (λ c. is_eq (ordering_then c (nat_cmp x.1 y.1))) (o.congr key x.0 y.0 back)) in
      (up_from from x.1 above, moved ∙ (first_is_in x t e).1, λ n h found. least n (first_is_least x t e n h found) same)
    where
      least : (n : ℕ) → is_gt (pair_cmp cmp x (key, n)) ≡ false → cmp x.0 key ≡ Equal → x.1 ≤ n
      least n under same = up_from x.1 n (rw same at under)

  pub first_of_other : (x : K × ℕ) (t : List (K × ℕ)) → r ≡ x ∷ t → is_eq (cmp x.0 key) ≡ false → IsFirstFrom from (has cmp s.keys key) None
  first_of_other x t e apart n h = go (has cmp s.keys key n) refl
    where
      go : (b : Bool) → has cmp s.keys key n ≡ b → b ≡ false
      go false f = refl
      go true f =
          let under : is_gt (cmp x.0 key) ≡ false = first_part (cmp x.0 key) (nat_cmp x.1 n) (first_is_least x t e n h f) in
          let over : is_gt (cmp key x.0) ≡ false = first_part (cmp key x.0) (nat_cmp from x.1) (first_is_in x t e).0.0 in
          not_apart (cmp x.0 key) apart under (ap is_gt (sym (o.antisymm key x.0)) ∙ over)

  pub first_of_none : r ≡ [] → IsFirstFrom from (has cmp s.keys key) None
  first_of_none e n h = part.5 e (key, n) (lies_in n h)

-- ---- each line by its key

-- of keys that are alike
pub kept_alike : {K : Type 0} (cmp : K → K → Ordering) (keys others : ℕ → Option K) (lines : List (K × ℕ)) → AreKept cmp keys lines → ((n : ℕ) → others n ≡ keys n) → AreKept cmp others lines
kept_alike cmp keys others lines are same key n = are key n ∙ ap (λ x. tied cmp x key) (sym (same n))

-- ---- causes

module _ (cmp : Cause → Cause → Ordering) (told : (a b : Cause) → is_eq (cmp a b) ≡ is_same a b) where
  pub waits_alike : (lines : List (Cause × ℕ)) (c : Cause) (n : ℕ) → waits lines c n ≡ has cmp lines c n
  waits_alike lines c n = any_alike (λ e. is_same c e.0 && n == e.1) (is_at (pair_cmp cmp (c, n))) lines (λ e. ap (λ b. b && n == e.1) (sym (told c e.0)) ∙ sym (at_pair cmp c e.0 n e.1))

  tied_alike : (d : Option Cause) (c : Cause) → option_map_or (λ d. is_same d c) d false ≡ tied cmp d c
  tied_alike None c = refl
  tied_alike (Some d) c = sym (told d c)

  pub waits_from : (causes : ℕ → Option Cause) (lines : List (Cause × ℕ)) → AreKept cmp causes lines → AreWaits causes lines
  waits_from causes lines are c n = waits_alike lines c n ∙ are c n ∙ sym (tied_alike (causes n) c)

  waits_to : (causes : ℕ → Option Cause) (lines : List (Cause × ℕ)) → AreWaits causes lines → AreKept cmp causes lines
  waits_to causes lines are c n = sym (waits_alike lines c n) ∙ are c n ∙ tied_alike (causes n) c

  pub waits_changed : (causes : ℕ → Option Cause) (old new : List (Cause × ℕ)) (line : ℕ) (from to : Option Cause) (result : Result ⊤ AllocError)
      → ((keys : ℕ → Option Cause) → AreKept cmp keys old → keys line ≡ from → OnOk result (AreKept cmp (changed line to keys) new))
      → AreWaits causes old → causes line ≡ from → OnOk result (AreWaits (changed line to causes) new)
  waits_changed causes old new line from to result h are own = on_ok_weaker result (waits_from (changed line to causes) new) (h causes (waits_to causes old are) own)

  pub first_waits : (lines : List (Cause × ℕ)) (c : Cause) (from : ℕ) (first : Option ℕ) → IsFirstFrom from (has cmp lines c) first → IsFirstFrom from (waits lines c) first
  first_waits lines c from None h = λ n far. waits_alike lines c n ∙ h n far
  first_waits lines c from (Some k) h = (h.0, waits_alike lines c k ∙ h.1, λ n far passes. h.2 n far (sym (waits_alike lines c n) ∙ passes))
