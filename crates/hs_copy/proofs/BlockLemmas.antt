-- The blocks of places, one more of them.
use Rattle.std.proofs.Common.{◌≡◌, ◌∙◌, ℕ, List, [], ◌∷◌, ◌++◌, Option, Some, None, inl, inr, refl, sym, ap, subst, append-nil, append_assoc, map, slice_get, Contains}
use Rattle.std.proofs.lemmas.List.{map-append}
use Rattle.std.proofs.lemmas.List.Elements.{Contains-append_left, Contains-append_right}
use Rattle.std.proofs.lemmas.Option.{get_or_from_slice_get, slice_get-map}
use Rattle.std.specs.Option.{option_map}
use Rattle.hs_copy.specs.Listing.{AreDifferent, name_of}
use Rattle.hs_copy.specs.Rounds.{address_at, block_in, blocks_of, names_in, writes_of}
use Rattle.hs_copy.specs.declared.order.Placed.{Placed}
use Rattle.hs_copy.specs.declared.write.Node.{Node}
use Rattle.hs_limits.specs.Block.{Block}
use Rattle.hs_limits.specs.declared.address.Address.{Address}
use Rattle.hs_model.proofs.Members.{contains_from_member, member_from_contains}
use Rattle.hs_tree.specs.Growing.{as_write, as_writes}

pub blocks-append : (name : List ℕ → Address) (before : List Address) (placed more : List Placed) → blocks_of name before (placed ++ more) ≡ blocks_of name before placed ++ blocks_of name (before ++ map (name_of name) (blocks_of name before placed)) more
blocks-append name before [] more = ap (λ z. blocks_of name z more) (sym (append-nil before))
blocks-append name before (p ∷ placed) more =
    let a : Address = name_of name (block_in before p) in
    let after : List Address = before ++ a ∷ [] in
    let ih = blocks-append name after placed more in
    let same : after ++ map (name_of name) (blocks_of name after placed) ≡ before ++ a ∷ map (name_of name) (blocks_of name after placed) = append_assoc before (a ∷ []) (map (name_of name) (blocks_of name after placed)) in
    ap (λ z. block_in before p ∷ z) (ih ∙ ap (λ z. blocks_of name after placed ++ blocks_of name z more) same)

-- the block behind some places
abbrev pub next_block : (List ℕ → Address) → List Placed → Placed → Block
next_block name placed q = block_in (names_in name placed) q

pub blocks-more : (name : List ℕ → Address) (placed : List Placed) (q : Placed) → blocks_of name [] (placed ++ q ∷ []) ≡ blocks_of name [] placed ++ next_block name placed q ∷ []
blocks-more name placed q = blocks-append name [] placed (q ∷ [])

pub names-more : (name : List ℕ → Address) (placed : List Placed) (q : Placed) → names_in name (placed ++ q ∷ []) ≡ names_in name placed ++ name_of name (next_block name placed q) ∷ []
names-more name placed q = ap (λ z. map (name_of name) z) (blocks-more name placed q) ∙ map-append (name_of name) (blocks_of name [] placed) (next_block name placed q ∷ [])

-- what is written of some places, and of those behind them
abbrev pub rest_of : (List ℕ → Address) → List Placed → List Placed → List (List ℕ × Option Address)
rest_of name placed more = as_writes name (blocks_of name (names_in name placed) more)

pub writes-rest : (name : List ℕ → Address) (placed more : List Placed) → writes_of name (placed ++ more) ≡ writes_of name placed ++ rest_of name placed more
writes-rest name placed more = ap (λ z. as_writes name z) (blocks-append name [] placed more) ∙ map-append (as_write name) (blocks_of name [] placed) (blocks_of name (names_in name placed) more)

pub some_is : {X : Type 0} (x y : X) → Some x ≡ Some y → x ≡ y
some_is x y e = cc e

abbrev pub head_or : {X : Type 0} → X → List X → X
head_or d [] = d
head_or d (x ∷ xs) = x

abbrev pub tail_of : {X : Type 0} → List X → List X
tail_of [] = []
tail_of (x ∷ xs) = xs

-- what is read of some nodes by places
pub addresses-at : (nodes : List Node) (places : List ℕ) (below : List Node) → map (λ p. slice_get nodes p) places ≡ map (λ (n : Node). Some n) below → map (λ (n : Node). n.address) below ≡ map (λ p. address_at (map (λ (n : Node). n.address) nodes) p) places
addresses-at nodes [] [] e = refl
addresses-at nodes [] (b ∷ below) e = cc e
addresses-at nodes (p ∷ places) [] e = cc e
addresses-at nodes (p ∷ places) (b ∷ below) e =
    let first : slice_get nodes p ≡ Some b = ap (λ z. head_or None z) e in
    let rest : map (λ p. slice_get nodes p) places ≡ map (λ (n : Node). Some n) below = ap (λ z. tail_of z) e in
    let here : b.address ≡ address_at (map (λ (n : Node). n.address) nodes) p = sym (at nodes p first) in
    let ih = addresses-at nodes places below rest in
    λ i. here i ∷ ih i
  where
    at : (xs : List Node) (k : ℕ) → slice_get xs k ≡ Some b → address_at (map (λ (n : Node). n.address) xs) k ≡ b.address
    at xs k h = get_or_from_slice_get (map (λ (n : Node). n.address) xs) k b.address _ (mapped xs k h)
      where
        mapped : (xs : List Node) (k : ℕ) → slice_get xs k ≡ Some b → slice_get (map (λ (n : Node). n.address) xs) k ≡ Some b.address
        mapped xs k h = slice_get-map (λ (n : Node). n.address) xs k ∙ ap (λ z. option_map (λ (n : Node). n.address) z) h

-- ---- different addresses

pub different_last : (xs : List Address) (a : Address) → AreDifferent (xs ++ a ∷ []) → AreDifferent xs × (Contains xs a → ⊥)
different_last [] a h = (tt, λ c. absurd (member_from_contains a [] c))
different_last (x ∷ xs) a h =
    let rest = different_last xs a h.1 in (
      (λ c. h.0 (Contains-append_left xs (a ∷ []) x c), rest.0),
      λ c. elim (member_from_contains a (x ∷ xs) c) [
        | inl e ↦ h.0 (subst (λ z. Contains (xs ++ a ∷ []) z) e (Contains-append_right xs (a ∷ []) a (contains_from_member a (a ∷ []) (inl refl))))
        | inr m ↦ rest.1 (contains_from_member a xs m)
      ],
    )
