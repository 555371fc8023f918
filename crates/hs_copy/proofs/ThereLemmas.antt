-- A key that keeps the last of some blocks keeps all that it reaches as they are.
use Rattle.std.proofs.Common.{◌≡◌, ◌∙◌, inl, inr, ℕ, List, [], ◌∷◌, ◌++◌, Option, Some, None, refl, sym, ap, subst, append_assoc, map, Contains, IsSome}
use Rattle.std.proofs.lemmas.List.Elements.{Contains-append_left, Contains-append_right}
use Rattle.std.specs.List.{AllByRecursion}
use Rattle.hs_asking.proofs.SeatLemmas.{member_all}
use Rattle.hs_asking.proofs.StayLemmas.{kept_whole}
use Rattle.hs_asking.specs.Seats.{IsSane}
use Rattle.hs_asking.specs.Staying.{by_root}
use Rattle.hs_copy.specs.Copying.{AreThere}
use Rattle.hs_copy.specs.Listing.{name_of}
use Rattle.hs_copy.specs.Rounds.{IsMine, KeepsLast, blocks_of}
use Rattle.hs_copy.specs.Writing.{AreChildrenFirst}
use Rattle.hs_copy.specs.declared.order.Placed.{Placed}
use Rattle.hs_laws.proofs.ValidLemmas.{valid_from_is}
use Rattle.hs_laws.specs.Reached.{IsPresent, IsWhole}
use Rattle.hs_laws.specs.Written.{IsBlockAt}
use Rattle.hs_limits.specs.Block.{Block}
use Rattle.hs_limits.specs.declared.address.Address.{Address}
use Rattle.hs_model.proofs.Members.{Member, contains_from_member, member_from_contains, member_of_map}
use Rattle.hs_model.specs.Reach.{Leads, pointers_of}
use Rattle.hs_model.specs.Store.{Root, Store, block_at, block_of, retained_at}
use Rattle.hs_model.specs.declared.store.StoredBlock.{StoredBlock}

-- what a block points to is the name of one before it
pub pointers_in : (name : List ℕ → Address) (before : List Address) (blocks : List Block) → AreChildrenFirst name before blocks → (block : Block) → Member block blocks → (p : Address) → Member p block.pointers → Contains (before ++ map (name_of name) blocks) p
pointers_in name before [] h block m p k = absurd m
pointers_in name before (b ∷ blocks) h block (inl e) p k =
    let first : AllByRecursion (Contains before) block.pointers = subst (λ z. AllByRecursion (Contains before) z.pointers) (sym e) h.0 in
    Contains-append_left before (map (name_of name) (b ∷ blocks)) p (member_all (Contains before) block.pointers p first k)
pointers_in name before (b ∷ blocks) h block (inr m) p k =
    subst (λ z. Contains z p) (append_assoc before (name_of name b ∷ []) (map (name_of name) blocks)) (pointers_in name (before ++ name_of name b ∷ []) blocks h.1 block m p k)

module _ (name : List ℕ → Address) (s : Store) (blocks : List Block) (first : AreChildrenFirst name [] blocks) (mine : AllByRecursion (IsMine name s) blocks) where
  -- an address is the name of a block, which stands there
  pub record Stands (a : Address) : Type 0 where
    pub block : Block
    pub among : Member block blocks
    pub is : a ≡ name_of name block
    pub there : IsBlockAt s a block

  stands_at : (a : Address) (block : Block) → Member block blocks → a ≡ name_of name block → IsPresent s a → Stands a
  stands_at a block m e present = go (block_at s a) refl present
    where
      go : (found : Option StoredBlock) → block_at s a ≡ found → IsSome found → Stands a
      go None f p = cc p
      go (Some stored) f p =
          let same : block_of stored ≡ block = member_all (IsMine name s) blocks block mine m stored (subst (λ z. block_at s z ≡ Some stored) e f) in
          record { block = block; among = m; is = e; there = record { stored = stored; present = f; bytes = ap (λ (z : Block). z.bytes) same; pointers = ap (λ (z : Block). z.pointers) same } }

  named : (a : Address) → Contains (map (name_of name) blocks) a → (block : Block) × Member block blocks × (a ≡ name_of name block)
  named a c = member_of_map (name_of name) a blocks (member_from_contains a (map (name_of name) blocks) c)

  along : (x : Address) → Stands x → ((path : List Address) (b : Address) → Leads s x path b → IsPresent s b) → (path : List Address) (b : Address) → Leads s x path b → Stands b
  along x at whole [] b l = subst Stands l at
  along x at whole (next ∷ path) b l =
      let pointers : pointers_of (block_at s x) ≡ at.block.pointers = ap (λ z. pointers_of z) at.there.present ∙ at.there.pointers in
      let m : Member next at.block.pointers = member_from_contains next at.block.pointers (subst (λ z. Contains z next) pointers l.0) in
      let c : Contains (map (name_of name) blocks) next = pointers_in name [] blocks first at.block at.among next m in
      let n = named next c in
      let here : IsPresent s next = whole (next ∷ []) next (l.0, refl) in
      along next (stands_at next n.0 n.1 n.2 here) (λ p y k. whole (next ∷ p) y (l.0, k)) path b l.1

  pub there_from : (key : List ℕ) (root : Root) (front : List Address) → IsSane s → retained_at s key ≡ Some root → map (name_of name) blocks ≡ front ++ root.address ∷ [] → AreThere name s key blocks
  there_from key root front sane kept last = record {
    root = root;
    kept = kept;
    front = front;
    last = last;
    stand = λ a r.
        let start : r.start ≡ root.address = elim (member_from_contains r.start (root.address ∷ []) r.anchored) [ inl e ↦ e | inr n ↦ absurd n ] in
        let st = along root.address top (λ path b l. all b (record { start = root.address; path = path; anchored = contains_from_member root.address (root.address ∷ []) (inl refl); leads = l })) r.path a (subst (λ z. Leads s z r.path a) start r.leads) in
        (st.block, contains_from_member st.block blocks st.among, st.is, st.there);
  }
    where
      all : IsWhole s root.address
      all = kept_whole s (valid_from_is s sane.valid) root.address (by_root key root kept refl)

      top_named : (block : Block) × Member block blocks × (root.address ≡ name_of name block)
      top_named = named root.address (subst (λ z. Contains z root.address) (sym last) (Contains-append_right front (root.address ∷ []) root.address (contains_from_member root.address (root.address ∷ []) (inl refl))))

      top : Stands root.address
      top = stands_at root.address top_named.0 top_named.1 top_named.2 (all root.address (record { start = root.address; path = []; anchored = contains_from_member root.address (root.address ∷ []) (inl refl); leads = refl }))

pub there_last : (name : List ℕ → Address) (s : Store) (key : List ℕ) (placed : List Placed) → AreChildrenFirst name [] (blocks_of name [] placed) → IsSane s → KeepsLast name s key placed → AllByRecursion (IsMine name s) (blocks_of name [] placed) → AreThere name s key (blocks_of name [] placed)
there_last name s key placed first sane kept mine =
    there_from name s (blocks_of name [] placed) first mine key kept.root kept.front sane kept.kept (kept.split ∙ ap (λ z. kept.front ++ z ∷ []) (sym kept.same))
