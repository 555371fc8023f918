-- What a key reaches, each address once, is as many as there are.
use Rattle.std.proofs.Common.{◌≡◌, ◌∙◌, inl, inr, ℕ, ◌+◌, ◌<◌, ◌≤◌, suc, List, [], ◌∷◌, ◌++◌, Some, refl, sym, ap, subst, arith, length, map}
use Rattle.std.proofs.lemmas.List.{length-append, length-map}
use Rattle.hs_copy.specs.Listing.{AreAllOf, AreDifferent, KeepsMore, name_of}
use Rattle.hs_limits.specs.Block.{Block}
use Rattle.hs_limits.specs.declared.address.Address.{Address}
use Rattle.hs_model.proofs.Members.{Member, contains_from_member, member-append, member-append_left, member-append_right, member_from_contains}
use Rattle.hs_model.specs.Reach.{IsReached}
use Rattle.hs_model.specs.Store.{Root, Store}

around : (x : Address) (ys : List Address) → Member x ys → (front : List Address) × (back : List Address) × (ys ≡ front ++ x ∷ back)
around x [] m = absurd m
around x (y ∷ ys) (inl e) = ([], ys, ap (λ z. z ∷ ys) (sym e))
around x (y ∷ ys) (inr m) = let r = around x ys m in (y ∷ r.0, r.1, ap (λ z. y ∷ z) r.2)

-- different addresses among others are as many at most
few_among : (xs ys : List Address) → AreDifferent xs → ((a : Address) → Member a xs → Member a ys) → length xs ≤ length ys
few_among [] ys d among = omega arith
few_among (x ∷ xs) ys d among =
    let r = around x ys (among x (inl refl)) in
    let rest : length xs ≤ length (r.0 ++ r.1) = few_among xs (r.0 ++ r.1) d.1 (λ a m. without r.0 r.1 a m (subst (λ z. Member a z) r.2 (among a (inr m)))) in
    let here : length (r.0 ++ r.1) ≡ length r.0 + length r.1 = length-append r.0 r.1 in
    let there : length ys ≡ length r.0 + suc (length r.1) = ap (λ z. length z) r.2 ∙ length-append r.0 (x ∷ r.1) in
    omega (arith, rest, here, there)
  where
    without : (front back : List Address) (a : Address) → Member a xs → Member a (front ++ x ∷ back) → Member a (front ++ back)
    without front back a m n = elim (member-append a front (x ∷ back) n) [
      | inl p ↦ member-append_left a front back p
      | inr p ↦ elim p [ inl e ↦ absurd (d.0 (contains_from_member x xs (subst (λ z. Member z xs) e m))) | inr q ↦ member-append_right a front back q ]
    ]

pub counted_all : (name : List ℕ → Address) (s : Store) (key : List ℕ) (blocks : List Block) (n : ℕ) → AreAllOf name s key blocks → KeepsMore s key n → n < length blocks
counted_all name s key blocks n all more =
    let same : more.0 ≡ all.root = some_root more.0 all.root (sym more.1 ∙ all.kept) in
    let most : length more.2.list ≤ length (map (name_of name) blocks) = few_among more.2.list (map (name_of name) blocks) more.2.once
    (λ a m. member_from_contains a (map (name_of name) blocks) (all.addresses.all a (subst (λ (z : Root). IsReached s (z.address ∷ []) a) same (more.2.reached a (contains_from_member a more.2.list m))))) in
    let long : length (map (name_of name) blocks) ≡ length blocks = length-map blocks (name_of name) in
    let over : n < length more.2.list = more.2.more in
    omega (arith, most, long, over)
  where
    some_root : (x y : Root) → Some x ≡ Some y → x ≡ y
    some_root x y e = cc e
