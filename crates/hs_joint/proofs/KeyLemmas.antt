-- Entries in the order of their keys, and how many keys there are.
use Rattle.std.proofs.Common.{◌≡◌, ◌⊎◌, inl, inr, ◌≤◌, List, [], ◌∷◌, length, refl, sym, ap, ◌∙◌, subst, arith, Less, Bool, true, false, map, Some}
use Rattle.std.proofs.lemmas.Bool.{cases_Bool}
use Rattle.std.proofs.lemmas.Map.Keys.{sorted_head, sorted_tail}
use Rattle.std.specs.List.{AllByRecursion}
use Rattle.std.specs.List.Sorted.{IsStrictlySortedBy}
use Rattle.std.specs.Map.{keys_of, lookup}
use Rattle.std.specs.BTreeMap.{is_at}
use Rattle.std.proofs.lemmas.Map.Made.{keys_of-map_values}
use Rattle.hs_limits.specs.declared.address.Address.{Address}
use Rattle.hs_model.specs.Reach.{is_same}
use Rattle.hs_model.specs.Store.{address_cmp}
use Rattle.hs_model.proofs.Members.{Member, same-refl, same_from, at_is_same}
use Rattle.hs_laws.proofs.InsertLemmas.{compare}
use Rattle.hs_laws.proofs.OrderLemmas.{address_total}
use Rattle.hs_fold.proofs.Runs.KeyLemmas.{one-entry}

module _ {V : Type 0} where
  pub found-entry : (es : List (Address × V)) → IsStrictlySortedBy address_cmp (keys_of es) → (e : Address × V) → Member e es → lookup (is_at (address_cmp e.0)) es ≡ Some e.1
  found-entry [] d e m = elim m [ ]
  found-entry (x ∷ es) d e m = go (found-entry es (sorted_tail address_cmp x.0 (keys_of es) d) e) (is_same e.0 x.0) refl m
    where
      go : (Member e es → lookup (is_at (address_cmp e.0)) es ≡ Some e.1) → (b : Bool) → is_same e.0 x.0 ≡ b → Member e (x ∷ es) → lookup (is_at (address_cmp e.0)) (x ∷ es) ≡ Some e.1
      go ih true q k = let is : e ≡ x = one-entry (x ∷ es) d e k x (inl refl) (same_from e.0 x.0 q) in rw (at_is_same e.0 x.0, q) (ap (λ (y : Address × V). Some y.1) (sym is))
      go ih false q (inl is) = let r : is_same e.0 x.0 ≡ true = subst (λ (y : Address × V). is_same e.0 y.0 ≡ true) is (same-refl e.0) in cc (q, r)
      go ih false q (inr k) = rw (at_is_same e.0 x.0, q) (ih k)

pub sorted-values : {V W : Type 0} (f : V → W) (es : List (Address × V)) → IsStrictlySortedBy address_cmp (keys_of es) → IsStrictlySortedBy address_cmp (keys_of (map {B = Address × W} (λ (e : Address × V). (e.0, f e.1)) es))
sorted-values f es d = subst (λ ks. IsStrictlySortedBy address_cmp ks) (sym (keys_of-map_values f es)) d

-- ---- of two ascending lists the one that has all of the other's is no shorter

less_differs : (a b : Address) → address_cmp a b ≡ Less → a ≡ b → ⊥
less_differs a b l e = let n = compare a b Less l in let r : is_same a b ≡ true = subst (λ x. is_same a x ≡ true) e (same-refl a) in cc (n, r)

above_first : (P : Address → Type 0) (ks : List Address) → AllByRecursion P ks → (a : Address) → Member a ks → P a
above_first P [] h a m = elim m [ ]
above_first P (x ∷ ks) h a (inl e) = subst P (sym e) h.0
above_first P (x ∷ ks) h a (inr m) = above_first P ks h.1 a m

same_or_not : (a b : Address) → (a ≡ b) ⊎ (a ≡ b → ⊥)
same_or_not a b = elim (cases_Bool (is_same a b)) [
  | inl e ↦ inl (same_from a b e)
  | inr e ↦ inr (λ q. let r : is_same a b ≡ true = subst (λ x. is_same a x ≡ true) q (same-refl a) in cc (e, r))
]

pub no_more_keys : (xs ys : List Address) → IsStrictlySortedBy address_cmp xs → IsStrictlySortedBy address_cmp ys → ((a : Address) → Member a xs → Member a ys) → length xs ≤ length ys
no_more_keys [] ys dx dy h = omega arith
no_more_keys (x ∷ xs) [] dx dy h = elim (h x (inl refl)) [ ]
no_more_keys (x ∷ xs) (y ∷ ys) dx dy h = elim (same_or_not x y) [
  | inl e ↦ (
      let rest = no_more_keys xs ys (sorted_tail address_cmp x xs dx) (sorted_tail address_cmp y ys dy) (λ a m. elim (h a (inr m)) [ inl q ↦ absurd (less_differs x a (above_first (λ k. address_cmp x k ≡ Less) xs (sorted_head address_cmp x xs dx) a m) (e ∙ sym q)) | inr k ↦ k ]) in
      omega (arith, rest)
      )
  | inr o ↦ (
      let there : Member x ys = elim (h x (inl refl)) [ inl q ↦ absurd (o q) | inr k ↦ k ] in
      let low : address_cmp y x ≡ Less = above_first (λ k. address_cmp y k ≡ Less) ys (sorted_head address_cmp y ys dy) x there in
      let rest = no_more_keys (x ∷ xs) ys dx (sorted_tail address_cmp y ys dy) (λ a m. elim m [
        | inl q ↦ subst (λ k. Member k ys) (sym q) there
        | inr k ↦ elim (h a (inr k)) [
          | inl q ↦ (
              let up : address_cmp x a ≡ Less = above_first (λ j. address_cmp x j ≡ Less) xs (sorted_head address_cmp x xs dx) a k in
              absurd (less_differs y a (address_total.trans y x a low up) (sym q))
              )
          | inr j ↦ j
        ]
      ]) in
      let long : length (x ∷ xs) ≤ length ys = rest in
      omega (arith, long)
      )
]
