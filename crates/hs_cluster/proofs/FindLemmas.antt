-- Looking for the block of an entry, place by place.
use Rattle.std.proofs.Common.{◌≡◌, ◌∙◌, ap, sym, ℕ, zero, suc, ◌+◌, ◌≤◌, Bool, true, false, List, [], ◌∷◌, length, drop, Option, Some, None, refl, arith}
use Rattle.std.proofs.lemmas.Bool.{eq-eqb, ne_eqb}
use Rattle.std.specs.Option.{option_map}
use Rattle.std.specs.Prelude.{find, slice_get, is_some}
use Rattle.hs_limits.specs.declared.address.Address.{Address}
use Rattle.hs_shard.specs.declared.effect.BlockFacts.{BlockFacts}
use Rattle.hs_shard.specs.declared.facts.Facts.{Facts}
use Rattle.hs_shard.specs.Facts.{BlockList, is_stored_by, pointers_at, told_at, told_of}

-- an item that passes is found, one that doesn't is skipped
find_at : {A : Type 0} (p : A → Bool) (xs : List A) (k : ℕ) (x : A) → slice_get xs k ≡ Some x → p x ≡ true → find p (drop k xs) ≡ Some x
find_at p [] k x is h = absurd (none_is_not is)
  where
    none_is_not : None ≡ Some x → ⊥
    none_is_not e = grind arith
find_at p (y ∷ ys) zero x is h =
    let same : y ≡ x = some_is is in
    let passes : p y ≡ true = ap p same ∙ h in
    rw passes (ap (λ z. Some z) same)
  where
    some_is : Some y ≡ Some x → y ≡ x
    some_is e = cc
find_at p (y ∷ ys) (suc k) x is h = find_at p ys k x is h

find_past : {A : Type 0} (p : A → Bool) (xs : List A) (k : ℕ) (x : A) → slice_get xs k ≡ Some x → p x ≡ false → find p (drop k xs) ≡ find p (drop (k + 1) xs)
find_past p [] k x is h = absurd (none_is_not is)
  where
    none_is_not : None ≡ Some x → ⊥
    none_is_not e = grind arith
find_past p (y ∷ ys) zero x is h =
    let same : y ≡ x = some_is is in
    let fails : p y ≡ false = ap p same ∙ h in
    rw fails refl
  where
    some_is : Some y ≡ Some x → y ≡ x
    some_is e = cc
find_past p (y ∷ ys) (suc k) x is h =
    let e : suc k + 1 ≡ suc (k + 1) = omega arith in
    rw e (find_past p ys k x is h)

find_end : {A : Type 0} (p : A → Bool) (xs : List A) (k : ℕ) → length xs ≤ k → find p (drop k xs) ≡ None
find_end p [] k h = nothing k
  where
    nothing : (k : ℕ) → find p (drop k []) ≡ None
    nothing zero = refl
    nothing (suc k) = refl
find_end p (x ∷ xs) zero h = absurd (omega (arith, h))
find_end p (x ∷ xs) (suc k) h = find_end p xs k (omega (arith, h))

-- ---- blocks, as they are told place by place

told_from : (place : ℕ) (blocks : BlockList) (f : BlockFacts) → told_at place blocks ≡ Some f → (e : Address × Facts) × (slice_get blocks place ≡ Some e) × (e.1.number ≡ f.number)
told_from place blocks f h = go (slice_get blocks place) refl h
  where
    go : (o : Option (Address × Facts)) → slice_get blocks place ≡ o → option_map told_of o ≡ Some f → (e : Address × Facts) × (slice_get blocks place ≡ Some e) × (e.1.number ≡ f.number)
    go None is e = absurd (none_is_not e)
      where
        none_is_not : None ≡ Some f → ⊥
        none_is_not e = grind arith
    go (Some x) is e = (x, is, ap (λ (b : BlockFacts). b.number) (some_is e))
      where
        some_is : Some (told_of x) ≡ Some f → told_of x ≡ f
        some_is e = cc

pub stored_here : (number place : ℕ) (blocks : BlockList) (f : BlockFacts) → find (is_stored_by number) (drop place blocks) ≡ find (is_stored_by number) blocks → told_at place blocks ≡ Some f → f.number ≡ number
    → is_some (pointers_at number blocks) ≡ true
stored_here number place blocks f walked told same =
    let x = told_from place blocks f told in
    let passes : is_stored_by number x.0 ≡ true = eq-eqb x.0.1.number number (x.2 ∙ same) in
    ap (λ o. is_some (option_map (λ (e : Address × Facts). e.1.pointers) o)) (sym walked ∙ find_at (is_stored_by number) blocks place x.0 x.1 passes)

pub stored_later : (number place : ℕ) (blocks : BlockList) (f : BlockFacts) → told_at place blocks ≡ Some f → (f.number ≡ number → ⊥)
    → find (is_stored_by number) (drop place blocks) ≡ find (is_stored_by number) (drop (place + 1) blocks)
stored_later number place blocks f told differs =
    let x = told_from place blocks f told in
    find_past (is_stored_by number) blocks place x.0 x.1 (ne_eqb x.0.1.number number (λ e. differs (sym x.2 ∙ e)))

pub stored_nowhere : (number : ℕ) (blocks : BlockList) (place : ℕ) → find (is_stored_by number) (drop place blocks) ≡ find (is_stored_by number) blocks → length blocks ≤ place
    → is_some (pointers_at number blocks) ≡ false
stored_nowhere number blocks place walked h = ap (λ o. is_some (option_map (λ (e : Address × Facts). e.1.pointers) o)) (sym walked ∙ find_end (is_stored_by number) blocks place h)

-- past the end nothing is told
pub none_told : (number place : ℕ) (blocks : BlockList) → told_at place blocks ≡ None → find (is_stored_by number) (drop place blocks) ≡ find (is_stored_by number) (drop (place + 1) blocks)
none_told number zero [] h = refl
none_told number (suc place) [] h =
    let e : suc place + 1 ≡ suc (place + 1) = omega arith in
    rw e refl
none_told number zero (x ∷ blocks) h = absurd (some_is_not h)
  where
    some_is_not : Some (told_of x) ≡ None → ⊥
    some_is_not e = grind arith
none_told number (suc place) (x ∷ blocks) h =
    let e : suc place + 1 ≡ suc (place + 1) = omega arith in
    rw e (none_told number place blocks h)
