-- Addresses that ascend, each once.
use Rattle.std.proofs.Common.{inl, ◌≡◌, ◌∙◌, List, [], ◌∷◌, Bool, true, false, ◌||◌, refl, sym, ap, subst, Less, Equal, Greater, is_eq}
use Rattle.std.proofs.lemmas.Bool.{false≢true}
use Rattle.std.proofs.lemmas.Map.Keys.{sorted_head, sorted_tail}
use Rattle.std.specs.BTreeSet.{insert_key}
use Rattle.std.specs.declared.cmp.Ordering.{Ordering}
use Rattle.std.specs.List.{AllByRecursion}
use Rattle.std.specs.List.Sorted.{IsStrictlySortedBy}
use Rattle.std.specs.Ordering.{match_ordering, ordering_reverse}
use Rattle.hs_audit.specs.Missing.{ascending}
use Rattle.hs_limits.specs.declared.address.Address.{Address}
use Rattle.hs_model.proofs.Members.{among_from_member, at_is_same, same_from}
use Rattle.hs_model.proofs.SetLemmas.{address_total}
use Rattle.hs_model.specs.Reach.{is_among, is_same}
use Rattle.hs_model.specs.Store.{address_cmp}
pub use Rattle.hs_shard.proofs.PlainLemmas.{sorted_none}

abbrev IsBelowAll : Address → List Address → Type 0
IsBelowAll a ks = AllByRecursion (λ y. address_cmp a y ≡ Less) ks

-- what is below some addresses is none of them
apart : (a : Address) (ks : List Address) → IsBelowAll a ks → is_among ks a ≡ false
apart a [] h = refl
apart a (k ∷ ks) h =
    let no : is_same a k ≡ false = sym (at_is_same a k) ∙ ap (λ o. is_eq o) h.0 in
    ap (λ b. b || is_among ks a) no ∙ apart a ks h.1

above_all : (a k : Address) (ks : List Address) → address_cmp a k ≡ Less → IsBelowAll k ks → IsBelowAll a ks
above_all a k [] e h = tt
above_all a k (y ∷ ks) e h = (address_total.trans a k y e h.0, above_all a k ks e h.1)

-- ---- two lists of the same addresses

pub sorted_alike : (xs ys : List Address) → IsStrictlySortedBy address_cmp xs → IsStrictlySortedBy address_cmp ys → ((a : Address) → is_among xs a ≡ is_among ys a) → xs ≡ ys
sorted_alike [] [] s t h = refl
sorted_alike [] (y ∷ ys) s t h = absurd (false≢true (h y ∙ among_from_member y (y ∷ ys) (inl refl)))
sorted_alike (x ∷ xs) [] s t h = absurd (false≢true (sym (h x) ∙ among_from_member x (x ∷ xs) (inl refl)))
sorted_alike (x ∷ xs) (y ∷ ys) s t h = go (address_cmp x y) refl (λ g. sorted_alike xs ys (sorted_tail address_cmp x xs s) (sorted_tail address_cmp y ys t) g)
  where
    above_x : IsBelowAll x xs
    above_x = sorted_head address_cmp x xs s

    above_y : IsBelowAll y ys
    above_y = sorted_head address_cmp y ys t

    rest_of : (a : Address) (b : Bool) → x ≡ y → is_same a x ≡ b → is_among xs a ≡ is_among ys a
    rest_of a true same e =
        let ax : a ≡ x = same_from a x e in
        let left : is_among xs a ≡ false = subst (λ z. is_among xs z ≡ false) (sym ax) (apart x xs above_x) in
        let right : is_among ys a ≡ false = subst (λ z. is_among ys z ≡ false) (sym (ax ∙ same)) (apart y ys above_y) in
        left ∙ sym right
    rest_of a false same e =
        let f : is_same a y ≡ false = subst (λ z. is_same a z ≡ false) same e in
        sym (ap (λ b. b || is_among xs a) e) ∙ h a ∙ ap (λ b. b || is_among ys a) f

    go : (o : Ordering) → address_cmp x y ≡ o → (((a : Address) → is_among xs a ≡ is_among ys a) → xs ≡ ys) → x ∷ xs ≡ y ∷ ys
    go Less e ih = absurd (false≢true (sym (apart x (y ∷ ys) (e, above_all x y ys e above_y)) ∙ sym (h x) ∙ among_from_member x (x ∷ xs) (inl refl)))
    go Equal e ih =
        let same : x ≡ y = same_from x y (sym (at_is_same x y) ∙ ap (λ o. is_eq o) e) in
        let rest : xs ≡ ys = ih (λ a. rest_of a (is_same a x) same refl) in
        λ i. same i ∷ rest i
    go Greater e ih =
        let back : address_cmp y x ≡ Less = address_total.antisymm y x ∙ ap (λ o. ordering_reverse o) e in
        absurd (false≢true (sym (apart y (x ∷ xs) (back, above_all y x xs back above_x)) ∙ h y ∙ among_from_member y (y ∷ ys) (inl refl)))

-- ---- one address put at its place

or_twice : (b c : Bool) → (b || c) ≡ (b || (b || c))
or_twice true c = refl
or_twice false c = refl

or_past : (b c d : Bool) → (b || (c || d)) ≡ (c || (b || d))
or_past true true d = refl
or_past true false d = refl
or_past false true d = refl
or_past false false d = refl

among-insert : (ks : List Address) (k a : Address) → is_among (insert_key address_cmp ks k) a ≡ (is_same a k || is_among ks a)
among-insert [] k a = refl
among-insert (x ∷ ks) k a = go (address_cmp k x) refl (among-insert ks k a)
  where
    go : (o : Ordering) → address_cmp k x ≡ o → is_among (insert_key address_cmp ks k) a ≡ (is_same a k || is_among ks a)
        → is_among (match_ordering o (k ∷ x ∷ ks) (x ∷ ks) (x ∷ insert_key address_cmp ks k)) a ≡ (is_same a k || is_among (x ∷ ks) a)
    go Less e ih = refl
    go Equal e ih =
        let same : k ≡ x = same_from k x (sym (at_is_same k x) ∙ ap (λ o. is_eq o) e) in
        subst (λ z. is_among (x ∷ ks) a ≡ (is_same a z || is_among (x ∷ ks) a)) (sym same) (or_twice (is_same a x) (is_among ks a))
    go Greater e ih = ap (λ b. is_same a x || b) ih ∙ or_past (is_same a x) (is_same a k) (is_among ks a)

all-insert : (P : Address → Type 0) (ks : List Address) (k : Address) → AllByRecursion P ks → P k → AllByRecursion P (insert_key address_cmp ks k)
all-insert P [] k h p = (p, tt)
all-insert P (x ∷ ks) k h p = go (address_cmp k x) (all-insert P ks k h.1 p)
  where
    go : (o : Ordering) → AllByRecursion P (insert_key address_cmp ks k) → AllByRecursion P (match_ordering o (k ∷ x ∷ ks) (x ∷ ks) (x ∷ insert_key address_cmp ks k))
    go Less ih = (p, h)
    go Equal ih = h
    go Greater ih = (h.0, ih)

pub sorted-insert : (ks : List Address) (k : Address) → IsStrictlySortedBy address_cmp ks → IsStrictlySortedBy address_cmp (insert_key address_cmp ks k)
unfolding IsStrictlySortedBy
sorted-insert [] k s = (tt, tt)
sorted-insert (x ∷ ks) k s = go (address_cmp k x) refl (sorted-insert ks k s.1)
  where
    go : (o : Ordering) → address_cmp k x ≡ o → IsStrictlySortedBy address_cmp (insert_key address_cmp ks k)
        → IsStrictlySortedBy address_cmp (match_ordering o (k ∷ x ∷ ks) (x ∷ ks) (x ∷ insert_key address_cmp ks k))
    go Less e ih = ((e, above_all k x ks e s.0), s)
    go Equal e ih = s
    go Greater e ih = (all-insert (λ y. address_cmp x y ≡ Less) ks k s.0 (address_total.antisymm x k ∙ ap (λ o. ordering_reverse o) e), ih)

-- ---- all of some

pub among-ascending : (xs : List Address) (a : Address) → is_among (ascending xs) a ≡ is_among xs a
among-ascending [] a = refl
among-ascending (x ∷ xs) a = among-insert (ascending xs) x a ∙ ap (λ b. is_same a x || b) (among-ascending xs a)

pub sorted-ascending : (xs : List Address) → IsStrictlySortedBy address_cmp (ascending xs)
sorted-ascending [] = sorted_none
sorted-ascending (x ∷ xs) = sorted-insert (ascending xs) x (sorted-ascending xs)
