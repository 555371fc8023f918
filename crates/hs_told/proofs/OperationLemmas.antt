-- Entries by number, none twice: what is found after a change.
use Rattle.std.proofs.Common.{◌≡◌, inl, inr, ℕ, ◌<◌, Bool, true, false, cond, List, [], ◌∷◌, map, Option, Some, None, refl, sym, ap, subst, ◌∙◌, Less, Equal, Greater, is_eq, arith}
use Rattle.std.proofs.lemmas.Bool.{cases_eq, cases_lt}
use Rattle.std.proofs.lemmas.Map.Made.{lookup-map_values}
use Rattle.std.specs.BTreeMap.{insert_entry, is_at}
use Rattle.std.specs.Cmp.{nat_cmp_is}
use Rattle.std.specs.Map.{lookup, remove_entry, set_value}
use Rattle.std.specs.Option.{option_map}
use Rattle.std.specs.Ordering.{nat_cmp}
use Rattle.std.specs.Prelude.{find}
use Rattle.hs_told.specs.Apart.{Apart}

-- ---- numbers

-- two numbers are one or not, and how they compare then
data Versus (m n : ℕ) : Type 0 where
  less : m < n → nat_cmp m n ≡ Less → Versus m n
  same : m ≡ n → nat_cmp m n ≡ Equal → Versus m n
  more : n < m → nat_cmp m n ≡ Greater → Versus m n

versus : (m n : ℕ) → Versus m n
versus m n = elim (cases_lt m n) [
  | inl h ↦ less h (sym (nat_cmp_is m n Less h))
  | inr h ↦ elim (cases_eq m n) [ inl e ↦ same e (sym (nat_cmp_is m n Equal e)) | inr d ↦ more (omega (arith, h, d)) (sym (nat_cmp_is m n Greater (omega (arith, h, d)))) ]
]

at_same : (n : ℕ) → is_at (nat_cmp n) n ≡ true
at_same n = ap is_eq (sym (nat_cmp_is n n Equal refl))

same_at : (m n : ℕ) → is_at (nat_cmp m) n ≡ true → m ≡ n
same_at m n e = go (versus m n)
  where
    go : Versus m n → m ≡ n
    go (less h c) = let f : is_at (nat_cmp m) n ≡ false = ap is_eq c in absurd (cc (e, f))
    go (same h c) = h
    go (more h c) = let f : is_at (nat_cmp m) n ≡ false = ap is_eq c in absurd (cc (e, f))

at_other : (m n : ℕ) → (m ≡ n → ⊥) → is_at (nat_cmp m) n ≡ false
at_other m n d = go (is_at (nat_cmp m) n) refl
  where
    go : (b : Bool) → is_at (nat_cmp m) n ≡ b → is_at (nat_cmp m) n ≡ false
    go true e = absurd (d (same_at m n e))
    go false e = e

module _ {V : Type 0} where
  abbrev at : List (ℕ × V) → ℕ → Option V
  at es n = lookup (is_at (nat_cmp n)) es

  -- ---- one is taken away

  remove_none : (es : List (ℕ × V)) (n m : ℕ) → at es m ≡ None → at (remove_entry (is_at (nat_cmp n)) es) m ≡ None
  remove_none [] n m h = refl
  remove_none (e ∷ es) n m h = go (is_at (nat_cmp m) e.0) (is_at (nat_cmp n) e.0) refl h (remove_none es n m)
    where
      go : (b c : Bool) → is_at (nat_cmp m) e.0 ≡ b → cond b (Some e.1) (at es m) ≡ None → (at es m ≡ None → at (remove_entry (is_at (nat_cmp n)) es) m ≡ None) → at (cond c es (e ∷ remove_entry (is_at (nat_cmp n)) es)) m ≡ None
      go true c f k ih = absurd (cc k)
      go false true f k ih = k
      go false false f k ih = rw f (ih k)

  pub remove_here : (es : List (ℕ × V)) (n : ℕ) → Apart es → at (remove_entry (is_at (nat_cmp n)) es) n ≡ None
  remove_here [] n apart = refl
  remove_here (e ∷ es) n apart = go (is_at (nat_cmp n) e.0) refl (remove_here es n apart.1)
    where
      go : (b : Bool) → is_at (nat_cmp n) e.0 ≡ b → at (remove_entry (is_at (nat_cmp n)) es) n ≡ None → at (cond b es (e ∷ remove_entry (is_at (nat_cmp n)) es)) n ≡ None
      go true f ih = subst (λ k. at es k ≡ None) (sym (same_at n e.0 f)) apart.0
      go false f ih = rw f ih

  pub remove_other : (es : List (ℕ × V)) (n m : ℕ) → (m ≡ n → ⊥) → at (remove_entry (is_at (nat_cmp n)) es) m ≡ at es m
  remove_other [] n m d = refl
  remove_other (e ∷ es) n m d = go (is_at (nat_cmp n) e.0) refl (remove_other es n m d)
    where
      go : (b : Bool) → is_at (nat_cmp n) e.0 ≡ b → at (remove_entry (is_at (nat_cmp n)) es) m ≡ at es m → at (cond b es (e ∷ remove_entry (is_at (nat_cmp n)) es)) m ≡ at (e ∷ es) m
      go true f ih = rw (at_other m e.0 (λ h. d (h ∙ sym (same_at n e.0 f)))) refl
      go false f ih = ap (λ r. cond (is_at (nat_cmp m) e.0) (Some e.1) r) ih

  pub remove_apart : (es : List (ℕ × V)) (n : ℕ) → Apart es → Apart (remove_entry (is_at (nat_cmp n)) es)
  remove_apart [] n apart = tt
  remove_apart (e ∷ es) n apart = go (is_at (nat_cmp n) e.0) (remove_apart es n apart.1)
    where
      go : (b : Bool) → Apart (remove_entry (is_at (nat_cmp n)) es) → Apart (cond b es (e ∷ remove_entry (is_at (nat_cmp n)) es))
      go true ih = apart.1
      go false ih = (remove_none es n e.0 apart.0, ih)

  -- ---- one is replaced

  set_none : (es : List (ℕ × V)) (n m : ℕ) (v : V) → at es m ≡ None → at (set_value (is_at (nat_cmp n)) es v) m ≡ None
  set_none [] n m v h = refl
  set_none (e ∷ es) n m v h = go (is_at (nat_cmp m) e.0) (is_at (nat_cmp n) e.0) refl h (set_none es n m v)
    where
      go : (b c : Bool) → is_at (nat_cmp m) e.0 ≡ b → cond b (Some e.1) (at es m) ≡ None → (at es m ≡ None → at (set_value (is_at (nat_cmp n)) es v) m ≡ None)
          → at (cond c ((e.0, v) ∷ es) (e ∷ set_value (is_at (nat_cmp n)) es v)) m ≡ None
      go true c f k ih = absurd (cc k)
      go false true f k ih = rw f k
      go false false f k ih = rw f (ih k)

  pub set_here : (es : List (ℕ × V)) (n : ℕ) (v was : V) → at es n ≡ Some was → at (set_value (is_at (nat_cmp n)) es v) n ≡ Some v
  set_here [] n v was h = absurd (cc h)
  set_here (e ∷ es) n v was h = go (is_at (nat_cmp n) e.0) refl h (set_here es n v was)
    where
      go : (b : Bool) → is_at (nat_cmp n) e.0 ≡ b → cond b (Some e.1) (at es n) ≡ Some was → (at es n ≡ Some was → at (set_value (is_at (nat_cmp n)) es v) n ≡ Some v)
          → at (cond b ((e.0, v) ∷ es) (e ∷ set_value (is_at (nat_cmp n)) es v)) n ≡ Some v
      go true f k ih = rw f refl
      go false f k ih = rw f (ih k)

  pub set_other : (es : List (ℕ × V)) (n m : ℕ) (v : V) → (m ≡ n → ⊥) → at (set_value (is_at (nat_cmp n)) es v) m ≡ at es m
  set_other [] n m v d = refl
  set_other (e ∷ es) n m v d = go (is_at (nat_cmp n) e.0) refl (set_other es n m v d)
    where
      go : (b : Bool) → is_at (nat_cmp n) e.0 ≡ b → at (set_value (is_at (nat_cmp n)) es v) m ≡ at es m → at (cond b ((e.0, v) ∷ es) (e ∷ set_value (is_at (nat_cmp n)) es v)) m ≡ at (e ∷ es) m
      go true f ih = rw (at_other m e.0 (λ h. d (h ∙ sym (same_at n e.0 f)))) refl
      go false f ih = ap (λ r. cond (is_at (nat_cmp m) e.0) (Some e.1) r) ih

  pub set_apart : (es : List (ℕ × V)) (n : ℕ) (v : V) → Apart es → Apart (set_value (is_at (nat_cmp n)) es v)
  set_apart [] n v apart = tt
  set_apart (e ∷ es) n v apart = go (is_at (nat_cmp n) e.0) (set_apart es n v apart.1)
    where
      go : (b : Bool) → Apart (set_value (is_at (nat_cmp n)) es v) → Apart (cond b ((e.0, v) ∷ es) (e ∷ set_value (is_at (nat_cmp n)) es v))
      go true ih = apart
      go false ih = (set_none es n e.0 v apart.0, ih)

  -- ---- one comes

  pub insert_here : (es : List (ℕ × V)) (n : ℕ) (v : V) → at (insert_entry nat_cmp es n v) n ≡ Some v
  insert_here [] n v = rw (at_same n) refl
  insert_here (e ∷ es) n v = go (versus n e.0) (insert_here es n v)
    where
      go : Versus n e.0 → at (insert_entry nat_cmp es n v) n ≡ Some v → at (insert_entry nat_cmp (e ∷ es) n v) n ≡ Some v
      go (less l c) ih = rw c (rw (at_same n) refl)
      go (same l c) ih = rw c (rw c refl)
      go (more l c) ih = rw c (rw c ih)

  pub insert_other : (es : List (ℕ × V)) (n m : ℕ) (v : V) → (m ≡ n → ⊥) → at (insert_entry nat_cmp es n v) m ≡ at es m
  insert_other [] n m v d = rw (at_other m n d) refl
  insert_other (e ∷ es) n m v d = go (versus n e.0) (insert_other es n m v d)
    where
      go : Versus n e.0 → at (insert_entry nat_cmp es n v) m ≡ at es m → at (insert_entry nat_cmp (e ∷ es) n v) m ≡ at (e ∷ es) m
      go (less l c) ih = rw c (rw (at_other m n d) refl)
      go (same l c) ih = rw c (rw (at_other m e.0 (λ x. d (x ∙ sym l))) refl)
      go (more l c) ih = rw c (ap (λ r. cond (is_at (nat_cmp m) e.0) (Some e.1) r) ih)

  pub insert_apart : (es : List (ℕ × V)) (n : ℕ) (v : V) → at es n ≡ None → Apart es → Apart (insert_entry nat_cmp es n v)
  insert_apart [] n v none apart = (refl, tt)
  insert_apart (e ∷ es) n v none apart = go (versus n e.0) (insert_apart es n v)
    where
      go : Versus n e.0 → (at es n ≡ None → Apart es → Apart (insert_entry nat_cmp es n v)) → Apart (insert_entry nat_cmp (e ∷ es) n v)
      go (less l c) ih = rw c (none, apart)
      go (same l c) ih = let f : Some e.1 ≡ None = rw c at none in absurd (cc f)
      go (more l c) ih =
          let later : at es n ≡ None = rw c at none in
          rw c (insert_other es n e.0 v (λ x. omega (arith, l, x)) ∙ apart.0, ih later apart.1)

  -- ---- each is changed by itself

  pub map_at : (f : V → V) (es : List (ℕ × V)) (n : ℕ) → at (map (λ e. (e.0, f e.1)) es) n ≡ option_map f (at es n)
  map_at f es n = lookup-map_values f (is_at (nat_cmp n)) es

  pub map_apart : (f : V → V) (es : List (ℕ × V)) → Apart es → Apart (map (λ e. (e.0, f e.1)) es)
  map_apart f [] apart = tt
  map_apart f (e ∷ es) apart = (map_at f es e.0 ∙ ap (λ (x : Option V). option_map f x) apart.0, map_apart f es apart.1)

  -- ---- one is looked for

  pub found_at : (p : ℕ × V → Bool) (es : List (ℕ × V)) (x : ℕ × V) → Apart es → find p es ≡ Some x → (at es x.0 ≡ Some x.1) × (p x ≡ true)
  found_at p [] x apart h = absurd (cc h)
  found_at p (e ∷ es) x apart h = go (p e) refl h (found_at p es x apart.1)
    where
      behind : at es x.0 ≡ Some x.1 → (b : Bool) → is_at (nat_cmp x.0) e.0 ≡ b → cond b (Some e.1) (at es x.0) ≡ Some x.1
      behind g true f = let k : at es x.0 ≡ None = subst (λ n. at es n ≡ None) (sym (same_at x.0 e.0 f)) apart.0 in absurd (cc (g, k))
      behind g false f = g

      go : (b : Bool) → p e ≡ b → cond b (Some e) (find p es) ≡ Some x → (find p es ≡ Some x → (at es x.0 ≡ Some x.1) × (p x ≡ true)) → (at (e ∷ es) x.0 ≡ Some x.1) × (p x ≡ true)
      go true f k ih = subst (λ (y : ℕ × V). (at (e ∷ es) y.0 ≡ Some y.1) × (p y ≡ true)) (some_is k) (rw (at_same e.0) refl, f)
        where
          some_is : Some e ≡ Some x → e ≡ x
          some_is g = cc g
      go false f k ih = (behind (ih k).0 (is_at (nat_cmp x.0) e.0) refl, (ih k).1)

  pub none_at : (p : ℕ × V → Bool) (es : List (ℕ × V)) (n : ℕ) (v : V) → ((m : ℕ) → p (m, v) ≡ true) → find p es ≡ None → at es n ≡ Some v → ⊥
  none_at p [] n v passes none h = cc h
  none_at p (e ∷ es) n v passes none h = go (p e) refl none (is_at (nat_cmp n) e.0) h (none_at p es n v passes)
    where
      go : (b : Bool) → p e ≡ b → cond b (Some e) (find p es) ≡ None → (c : Bool) → cond c (Some e.1) (at es n) ≡ Some v → (find p es ≡ None → at es n ≡ Some v → ⊥) → ⊥
      go true f k c g ih = cc k
      go false f k true g ih = let q : p (e.0, v) ≡ true = passes e.0 in let u : e.1 ≡ v = some_is g in clash (subst (λ w. p (e.0, w) ≡ true) (sym u) q)
        where
          some_is : Some e.1 ≡ Some v → e.1 ≡ v
          some_is x = cc x

          clash : p (e.0, e.1) ≡ true → ⊥
          clash x = cc (x, f)
      go false f k false g ih = ih k g
