-- Roots in their order: where one is placed, and lists whose roots are each at its place.
use Rattle.std.proofs.Common.{◌≡◌, ℕ, List, [], ◌∷◌, Bool, true, false, cond, Option, Some, None, refl, sym, ap, ◌∙◌, is_eq, is_gt, Ordering, Less, Equal, Greater}
use Rattle.std.proofs.lemmas.Cmp.{nat_cmp_total, ranked, then_total, on_total, upto}
use Rattle.std.proofs.lemmas.Map.Text.{is_eq-slice_cmp}
use Rattle.std.proofs.lemmas.Slice.Eq.{bytes_eq-Decides}
use Rattle.std.specs.Cmp.{IsTotalOrder}
use Rattle.std.specs.Cmp.Lexicographic.{on_texts}
use Rattle.std.specs.List.{AllByRecursion}
use Rattle.std.specs.Ordering.{ordering_reverse, ordering_then}
use Rattle.hs_limits.specs.declared.address.Address.{Address}
use Rattle.hs_model.specs.Store.{Root, text_cmp, address_cmp, root_cmp, dropped_cmp, place_root}
use Rattle.hs_model.proofs.Members.{same_from, at_is_same}

-- ---- the order of roots

dropped_total : IsTotalOrder dropped_cmp
dropped_total = record { antisymm = anti; trans = trans; congr = congr }
  where
    anti : (x y : Option ℕ) → dropped_cmp x y ≡ ordering_reverse (dropped_cmp y x)
    anti None None = refl
    anti None (Some y) = refl
    anti (Some x) None = refl
    anti (Some x) (Some y) = nat_cmp_total.antisymm x y

    trans : (x y z : Option ℕ) → dropped_cmp x y ≡ Less → dropped_cmp y z ≡ Less → dropped_cmp x z ≡ Less
    trans None None z h k = k
    trans None (Some y) z h k = cc h
    trans (Some x) None None h k = h
    trans (Some x) None (Some z) h k = cc k
    trans (Some x) (Some y) None h k = refl
    trans (Some x) (Some y) (Some z) h k = nat_cmp_total.trans x y z h k

    congr : (x y z : Option ℕ) → dropped_cmp x y ≡ Equal → dropped_cmp x z ≡ dropped_cmp y z
    congr None None z h = refl
    congr None (Some y) z h = cc h
    congr (Some x) None z h = cc h
    congr (Some x) (Some y) None h = refl
    congr (Some x) (Some y) (Some z) h = nat_cmp_total.congr x y z h

pub root_total : IsTotalOrder root_cmp
root_total = then_total (on_texts (λ (r : Root). r.key)) (then_total (on_total (λ (r : Root). r.dropped) dropped_total) (on_texts (λ (r : Root). r.address.0)))

pub text_same : (x y : List ℕ) → text_cmp x y ≡ Equal → x ≡ y
text_same x y h = (bytes_eq-Decides x y).0 (sym (is_eq-slice_cmp x y) ∙ ap (λ o. is_eq o) h)

dropped_same : (x y : Option ℕ) → dropped_cmp x y ≡ Equal → x ≡ y
dropped_same None None h = refl
dropped_same None (Some y) h = cc h
dropped_same (Some x) None h = cc h
dropped_same (Some x) (Some y) h = ap (λ z. Some z) (ranked x y Equal (sym h))

address_same : (x y : Address) → address_cmp x y ≡ Equal → x ≡ y
address_same x y h = same_from x y (sym (at_is_same x y) ∙ ap (λ o. is_eq o) h)

equal_parts : (a b : Ordering) → ordering_then a b ≡ Equal → (a ≡ Equal) × (b ≡ Equal)
equal_parts Less b h = cc h
equal_parts Equal b h = (refl, h)
equal_parts Greater b h = cc h

-- roots that are not apart in the order are one
pub root_same : (x y : Root) → root_cmp x y ≡ Equal → x ≡ y
root_same x y h =
    let keys = equal_parts (text_cmp x.key y.key) (ordering_then (dropped_cmp x.dropped y.dropped) (address_cmp x.address y.address)) h in
    let rest = equal_parts (dropped_cmp x.dropped y.dropped) (address_cmp x.address y.address) keys.1 in
    let k = text_same x.key y.key keys.0 in
    let d = dropped_same x.dropped y.dropped rest.0 in
    let a = address_same x.address y.address rest.1 in
    λ i. record { key = k i; address = a i; dropped = d i }

-- the first does not come after the second
abbrev pub Before : Root → Root → Type 0
Before x y = is_gt (root_cmp x y) ≡ false

-- no root comes after a later one
abbrev pub Rising : List Root → Type 0
Rising [] = Unit {0}
Rising (r ∷ rs) = AllByRecursion (Before r) rs × Rising rs

pub before-all : (x y : Root) (rs : List Root) → Before x y → AllByRecursion (Before y) rs → AllByRecursion (Before x) rs
before-all x y [] b h = tt
before-all x y (r ∷ rs) b h = (upto root_total x y r b h.0, before-all x y rs b h.1)

pub before-flips : (x y : Root) → is_gt (root_cmp x y) ≡ true → Before y x
before-flips x y h = go (root_cmp x y) refl h
  where
    go : (o : Ordering) → root_cmp x y ≡ o → is_gt o ≡ true → is_gt (root_cmp y x) ≡ false
    go Less e t = cc t
    go Equal e t = cc t
    go Greater e t = ap (λ o. is_gt o) (root_total.antisymm y x ∙ ap (λ o. ordering_reverse o) e)

pub place-all : (P : Root → Type 0) (root : Root) (rs : List Root) → P root → AllByRecursion P rs → AllByRecursion P (place_root root rs)
place-all P root [] p h = (p, tt)
place-all P root (r ∷ rs) p h = go (place-all P root rs p h.1) (is_gt (root_cmp root r))
  where
    go : AllByRecursion P (place_root root rs) → (b : Bool) → AllByRecursion P (cond b (r ∷ place_root root rs) (root ∷ r ∷ rs))
    go ih true = (h.0, ih)
    go ih false = (p, h)

pub place-rising : (root : Root) (rs : List Root) → Rising rs → Rising (place_root root rs)
place-rising root [] h = (tt, tt)
place-rising root (r ∷ rs) h = go (place-rising root rs h.1) (is_gt (root_cmp root r)) refl
  where
    go : Rising (place_root root rs) → (b : Bool) → is_gt (root_cmp root r) ≡ b → Rising (cond b (r ∷ place_root root rs) (root ∷ r ∷ rs))
    go ih true e = (place-all (Before r) root rs (before-flips root r e) h.0, ih)
    go ih false e = ((e, before-all root r rs e h.0), h)
