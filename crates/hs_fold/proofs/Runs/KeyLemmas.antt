-- Entries in the order of their keys.
use Rattle.std.proofs.Common.{◌≡◌, inl, inr, List, [], ◌∷◌, sym, ap, ◌∙◌, subst, Less, true}
use Rattle.std.proofs.lemmas.Map.Keys.{sorted_head, sorted_tail}
use Rattle.std.specs.List.{AllByRecursion}
use Rattle.std.specs.List.Sorted.{IsStrictlySortedBy}
use Rattle.std.specs.Map.{keys_of}
use Rattle.hs_limits.specs.declared.address.Address.{Address}
use Rattle.hs_model.specs.Reach.{is_same}
use Rattle.hs_model.specs.Store.{address_cmp}
use Rattle.hs_model.proofs.Members.{Member, same-refl}
use Rattle.hs_laws.proofs.InsertLemmas.{compare}

not-less : (a b : Address) → a ≡ b → address_cmp a b ≡ Less → ⊥
not-less a b e l = let n = compare a b Less l in let r : is_same a b ≡ true = subst (λ x. is_same a x ≡ true) e (same-refl a) in cc (n, r)

module _ {V : Type 0} where
  above : (P : Address → Type 0) (es : List (Address × V)) → AllByRecursion P (keys_of es) → (e : Address × V) → Member e es → P e.0
  above P [] h e m = elim m [ ]
  above P (x ∷ es) h e (inl q) = subst (λ (y : Address × V). P y.0) (sym q) h.0
  above P (x ∷ es) h e (inr m) = above P es h.1 e m

  pub one-entry : (es : List (Address × V)) → IsStrictlySortedBy address_cmp (keys_of es) → (y : Address × V) → Member y es → (z : Address × V) → Member z es → y.0 ≡ z.0 → y ≡ z
  one-entry [] d y m z k q = elim m [ ]
  one-entry (x ∷ es) d y (inl a) z (inl b) q = a ∙ sym b
  one-entry (x ∷ es) d y (inl a) z (inr k) q = absurd (not-less x.0 z.0 (ap (λ (e : Address × V). e.0) (sym a) ∙ q) (above (λ k. address_cmp x.0 k ≡ Less) es (sorted_head address_cmp x.0 (keys_of es) d) z k))
  one-entry (x ∷ es) d y (inr m) z (inl b) q = absurd (not-less x.0 y.0 (ap (λ (e : Address × V). e.0) (sym b) ∙ sym q) (above (λ k. address_cmp x.0 k ≡ Less) es (sorted_head address_cmp x.0 (keys_of es) d) y m))
  one-entry (x ∷ es) d y (inr m) z (inr k) q = one-entry es (sorted_tail address_cmp x.0 (keys_of es) d) y m z k q
