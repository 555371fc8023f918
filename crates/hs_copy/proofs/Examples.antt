-- A small store whose root is copied, and one in which a block differs.
use Rattle.std.proofs.Common.{◌≡◌, ◌∙◌, inl, inr, ℕ, List, [], ◌∷◌, Some, None, refl, sym, ap, subst, Contains}
use Rattle.hs_copy.specs.Copied.{IsAlike, IsCopied}
use Rattle.hs_limits.specs.declared.address.Address.{Address}
use Rattle.hs_model.proofs.Members.{contains_from_member, member_from_contains}
use Rattle.hs_model.specs.Reach.{IsReached, Leads, pointers_of}
use Rattle.hs_model.specs.Store.{Root, Store, block_at}
use Rattle.hs_model.specs.declared.store.StoredBlock.{StoredBlock}

-- one block above another, under the key `k`
abbrev leaf_at : Address
leaf_at = record { 0 = 1 ∷ [] }

abbrev top_at : Address
top_at = record { 0 = 2 ∷ [] }

abbrev leaf : ℕ → ℕ → StoredBlock
leaf byte born = record { pointers = []; bytes = byte ∷ []; born = born }

abbrev top : ℕ → StoredBlock
top born = record { pointers = leaf_at ∷ []; bytes = []; born = born }

abbrev key : List ℕ
key = 107 ∷ []

abbrev root : Root
root = record { key = key; address = top_at; dropped = None }

abbrev store : ℕ → ℕ → Store
store byte born = record {
  blocks = (leaf_at, leaf byte born) ∷ (top_at, top born) ∷ [];
  given = [];
  roots = root ∷ [];
  epochs = born ∷ [];
  swept = born ∷ [];
  sessions = [];
}

only : (x a : Address) → Contains (a ∷ []) x → x ≡ a
only x a c = elim (member_from_contains x (a ∷ []) c) [ inl e ↦ e | inr n ↦ absurd n ]

-- what the root reaches
reached : (a : Address) → IsReached (store 7 1) (top_at ∷ []) a → IsAlike (store 7 1) (store 7 3) a
reached a r = go r.path (subst (λ z. Leads (store 7 1) z r.path a) (only r.start top_at r.anchored) r.leads)
  where
    from_leaf : (path : List Address) → Leads (store 7 1) leaf_at path a → IsAlike (store 7 1) (store 7 3) a
    from_leaf [] l = subst (IsAlike (store 7 1) (store 7 3)) l (record { stored = leaf 7 1; present = refl; there = record { stored = leaf 7 3; present = refl; bytes = refl; pointers = refl } })
    from_leaf (next ∷ path) l = absurd (member_from_contains next [] l.0)

    go : (path : List Address) → Leads (store 7 1) top_at path a → IsAlike (store 7 1) (store 7 3) a
    go [] l = subst (IsAlike (store 7 1) (store 7 3)) l (record { stored = top 1; present = refl; there = record { stored = top 3; present = refl; bytes = refl; pointers = refl } })
    go (next ∷ path) l = from_leaf path (subst (λ z. Leads (store 7 1) z path a) (only next leaf_at l.0) l.1)

-- it is copied into a store that has it with the same blocks, whenever they were written
copied : IsCopied (store 7 1) (store 7 3) key
copied = record { root = root; kept = refl; copy = root; kept_there = refl; same = refl; blocks = reached }

-- and not into one in which a block has another byte
not_copied : IsCopied (store 7 1) (store 8 3) key → ⊥
not_copied h =
    let top_is : h.root.address ≡ top_at = sym (some_root root h.root h.kept) in
    let there : IsAlike (store 7 1) (store 8 3) leaf_at = h.blocks leaf_at (record { start = h.root.address; path = leaf_at ∷ []; anchored = contains_from_member h.root.address (h.root.address ∷ []) (inl refl); leads = (subst (λ z. Contains (pointers_of (block_at (store 7 1) z)) leaf_at) (sym top_is) (contains_from_member leaf_at (leaf_at ∷ []) (inl refl)), refl) }) in
    differ there
  where
    some_root : (x y : Root) → Some x ≡ Some y → x.address ≡ y.address
    some_root x y e = let same : x ≡ y = cc e in ap (λ (z : Root). z.address) same

    some_is : (x y : StoredBlock) → Some x ≡ Some y → x ≡ y
    some_is x y e = cc e

    differ : IsAlike (store 7 1) (store 8 3) leaf_at → ⊥
    differ h =
        let first : leaf 7 1 ≡ h.stored = some_is (leaf 7 1) h.stored h.present in
        let second : leaf 8 3 ≡ h.there.stored = some_is (leaf 8 3) h.there.stored h.there.present in
        let bytes : 8 ∷ [] ≡ 7 ∷ [] = ap (λ (z : StoredBlock). z.bytes) second ∙ (h.there.bytes ∙ ap (λ (z : StoredBlock). z.bytes) (sym first)) in
        cc bytes
