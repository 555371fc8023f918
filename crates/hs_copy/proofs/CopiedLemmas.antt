-- Blocks that are all that a key reaches in one store, and stand under it in another, make a copy.
use Rattle.std.proofs.Common.{◌≡◌, ◌∙◌, inl, inr, ℕ, List, [], ◌∷◌, ◌++◌, refl, sym, ap, subst, map, Contains}
use Rattle.hs_asking.proofs.SeatLemmas.{member_all}
use Rattle.hs_copy.specs.Copied.{IsAlike, IsCopied}
use Rattle.hs_copy.specs.Copying.{AreThere}
use Rattle.hs_copy.specs.Listing.{AreAllOf, AreDifferent, name_of}
use Rattle.hs_laws.specs.Written.{IsBlockAt}
use Rattle.hs_limits.specs.Block.{Block}
use Rattle.hs_limits.specs.declared.address.Address.{Address}
use Rattle.hs_model.proofs.Members.{Member, contains_from_member, member-map, member_from_contains, member_of_map}
use Rattle.hs_model.specs.Reach.{IsReached, Leads, pointers_of}
use Rattle.hs_model.specs.Store.{Store, block_at}

-- one more step of a way
leads_more : (t : Store) (a : Address) (path : List Address) (b next : Address) → Leads t a path b → Contains (pointers_of (block_at t b)) next → Leads t a (path ++ next ∷ []) next
leads_more t a [] b next l c = (subst (λ z. Contains (pointers_of (block_at t z)) next) (sym l) c, refl)
leads_more t a (x ∷ path) b next l c = (l.0, leads_more t x path b next l.1 c)

pub reached_more : (t : Store) (top b next : Address) → IsReached t (top ∷ []) b → Contains (pointers_of (block_at t b)) next → IsReached t (top ∷ []) next
reached_more t top b next r c = record { start = r.start; path = r.path ++ next ∷ []; anchored = r.anchored; leads = leads_more t r.start r.path b next r.leads c }

-- where no name stands twice, a name is of one block
one_named : (name : List ℕ → Address) (blocks : List Block) → AreDifferent (map (name_of name) blocks) → (b c : Block) → Member b blocks → Member c blocks → name_of name b ≡ name_of name c → b ≡ c
one_named name [] d b c m k e = absurd m
one_named name (x ∷ blocks) d b c (inl p) (inl q) e = p ∙ sym q
one_named name (x ∷ blocks) d b c (inl p) (inr k) e = absurd (d.0 (subst (λ z. Contains (map (name_of name) blocks) z) (sym e ∙ ap (λ z. name_of name z) p) (contains_from_member (name_of name c) (map (name_of name) blocks) (member-map (name_of name) c blocks k))))
one_named name (x ∷ blocks) d b c (inr m) (inl q) e = absurd (d.0 (subst (λ z. Contains (map (name_of name) blocks) z) (e ∙ ap (λ z. name_of name z) q) (contains_from_member (name_of name b) (map (name_of name) blocks) (member-map (name_of name) b blocks m))))
one_named name (x ∷ blocks) d b c (inr m) (inr k) e = one_named name blocks d.1 b c m k e

-- the last of a row is one
head_is : (x y : Address) (xs ys : List Address) → x ∷ xs ≡ y ∷ ys → xs ≡ ys
head_is x y xs ys e = cc e

no_more : (x : Address) (front : List Address) (y : Address) → [] ≡ front ++ y ∷ [] → ⊥
no_more x [] y e = cc e
no_more x (z ∷ front) y e = cc e

last_is : (front back : List Address) (x y : Address) → front ++ x ∷ [] ≡ back ++ y ∷ [] → x ≡ y
last_is [] [] x y e = cc e
last_is [] (b ∷ back) x y e = absurd (no_more x back y (head_is x b [] (back ++ y ∷ []) e))
last_is (f ∷ front) [] x y e = absurd (no_more x front x (sym (head_is f y (front ++ x ∷ []) [] e)))
last_is (f ∷ front) (b ∷ back) x y e = last_is front back x y (head_is f b (front ++ x ∷ []) (back ++ y ∷ []) e)

module _ (name : List ℕ → Address) (s t : Store) (key : List ℕ) (blocks : List Block) (all : AreAllOf name s key blocks) (there : AreThere name t key blocks) where
  named : (a : Address) → Contains (map (name_of name) blocks) a → (block : Block) × Member block blocks × (a ≡ name_of name block)
  named a c = member_of_map (name_of name) a blocks (member_from_contains a (map (name_of name) blocks) c)

  -- an address that both reach is alike
  alike : (a : Address) → IsReached s (all.root.address ∷ []) a → IsReached t (there.root.address ∷ []) a → (block : Block) × IsBlockAt s a block × IsBlockAt t a block
  alike a r q =
      let n = named a (all.addresses.all a r) in
      let here : IsBlockAt s a n.0 = subst (λ z. IsBlockAt s z n.0) (sym n.2) (member_all (λ block. IsBlockAt s (name_of name block) block) blocks n.0 all.present n.1) in
      let st = there.stand a q in
      let same : st.0 ≡ n.0 = one_named name blocks all.addresses.once st.0 n.0 (member_from_contains st.0 blocks st.1) n.1 (sym st.2 ∙ n.2) in
      (n.0, here, subst (λ z. IsBlockAt t a z) same st.3)

  along : (x : Address) → IsReached s (all.root.address ∷ []) x → IsReached t (there.root.address ∷ []) x → (path : List Address) (a : Address) → Leads s x path a → IsAlike s t a
  along x r q [] a l =
      let h = alike x r q in
      subst (IsAlike s t) l (record { stored = h.1.stored; present = h.1.present; there = record { stored = h.2.stored; present = h.2.present; bytes = h.2.bytes ∙ sym h.1.bytes; pointers = h.2.pointers ∙ sym h.1.pointers } })
  along x r q (next ∷ path) a l =
      let h = alike x r q in
      let first : pointers_of (block_at s x) ≡ h.0.pointers = ap (λ z. pointers_of z) h.1.present ∙ h.1.pointers in
      let second : pointers_of (block_at t x) ≡ h.0.pointers = ap (λ z. pointers_of z) h.2.present ∙ h.2.pointers in
      let c : Contains (pointers_of (block_at t x)) next = subst (λ z. Contains z next) (first ∙ sym second) l.0 in
      along next (reached_more s all.root.address x next r l.0) (reached_more t there.root.address x next q c) path a l.1

  pub copied_from : IsCopied s t key
  copied_from =
      let same : there.root.address ≡ all.root.address = last_is there.front all.front there.root.address all.root.address (sym there.last ∙ all.last) in
      record {
        root = all.root;
        kept = all.kept;
        copy = there.root;
        kept_there = there.kept;
        same = same;
        blocks = λ a r.
            let start : r.start ≡ all.root.address = elim (member_from_contains r.start (all.root.address ∷ []) r.anchored) [ inl e ↦ e | inr n ↦ absurd n ] in
            along all.root.address
            (record { start = all.root.address; path = []; anchored = contains_from_member all.root.address (all.root.address ∷ []) (inl refl); leads = refl })
            (record { start = there.root.address; path = []; anchored = contains_from_member there.root.address (there.root.address ∷ []) (inl refl); leads = same })
            r.path a (subst (λ z. Leads s z r.path a) start r.leads);
      }
