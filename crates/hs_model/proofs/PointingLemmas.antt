-- What each address points to, in a list and in the store of it.
use Rattle.std.proofs.Common.{◌≡◌, ◌↔◌, ◌⊎◌, inl, inr, ◌+◌, ◌<◌, arith, length, sum_by, List, [], ◌∷◌, ◌++◌, Option, Some, None, Bool, true, false, cond, refl, sym, ap, ◌∙◌, subst, Contains, IsTrue}
use Rattle.std.proofs.lemmas.Grind.{common_steps}
use Rattle.std.proofs.lemmas.Map.Entries.{sum_by-remove_entry}
use Rattle.std.proofs.lemmas.Map.Made.{lookup-map_values}
use Rattle.std.specs.BTreeMap.{is_at}
use Rattle.std.specs.Map.{lookup, remove_entry, values_of}
use Rattle.std.specs.Option.{option_map}
use Rattle.hs_limits.specs.declared.address.Address.{Address}
use Rattle.hs_model.specs.declared.store.StoredBlock.{StoredBlock}
use Rattle.hs_model.specs.Listed.{IsListOf}
use Rattle.hs_model.specs.Pointing.{Pointing, pointing_store, pointers_in}
use Rattle.hs_model.specs.Reach.{is_same, is_among, Leads, IsReached, pointers_of}
use Rattle.hs_model.specs.Store.{Store, address_cmp, block_at}
use Rattle.hs_model.proofs.Members.{same-refl, same_from, at_is_same}
use Rattle.hs_model.proofs.ReachLemmas.{reached_from_is, is_from_reached}
use Rattle.hs_model.proofs.StepLemmas.{Follows, Without, follow_in, follow_out, follow_none}

-- ---- reached in another store with the same pointers

leads_through : (s t : Store) → ((a : Address) → pointers_of (block_at s a) ≡ pointers_of (block_at t a)) → (a : Address) (path : List Address) (b : Address) → Leads s a path b → Leads t a path b
leads_through s t same a [] b l = l
leads_through s t same a (next ∷ path) b l = (subst (λ z. Contains z next) (same a) l.0, leads_through s t same next path b l.1)

pub reached_through : (s t : Store) → ((a : Address) → pointers_of (block_at s a) ≡ pointers_of (block_at t a)) → (from : List Address) (b : Address) → IsReached s from b → IsReached t from b
reached_through s t same from b r = record { start = r.start; path = r.path; anchored = r.anchored; leads = leads_through s t same r.start r.path b r.leads }

-- ---- what an address points to

abbrev pub at : Pointing → Address → List Address
at entries a = pointers_of (block_at (pointing_store entries) a)

abbrev pub found : Option (List Address) → List Address
found None = []
found (Some pointers) = pointers

pub at_is : (entries : Pointing) (a : Address) → at entries a ≡ found (lookup (is_at (address_cmp a)) entries)
at_is entries a = rw (lookup-map_values (λ (pointers : List Address). let b : StoredBlock = record { pointers = pointers; bytes = []; born = 0 } in b) (is_at (address_cmp a)) entries) (go (lookup (is_at (address_cmp a)) entries))
  where
    go : (o : Option (List Address)) → pointers_of (option_map (λ (pointers : List Address). let b : StoredBlock = record { pointers = pointers; bytes = []; born = 0 } in b) o) ≡ found o
    go None = refl
    go (Some pointers) = refl

pub at_pointers : (s : Store) (a : Address) → at (pointers_in s.blocks) a ≡ pointers_of (block_at s a)
at_pointers s a = at_is (pointers_in s.blocks) a ∙ rw (lookup-map_values (λ (b : StoredBlock). b.pointers) (is_at (address_cmp a)) s.blocks) (go (block_at s a))
  where
    go : (o : Option StoredBlock) → found (option_map (λ (b : StoredBlock). b.pointers) o) ≡ pointers_of o
    go None = refl
    go (Some b) = refl

pub pointing_reached : (s : Store) (from : List Address) (b : Address) → IsReached (pointing_store (pointers_in s.blocks)) from b ↔ IsReached s from b
pointing_reached s from b =
    (reached_through (pointing_store (pointers_in s.blocks)) s (at_pointers s) from b, reached_through s (pointing_store (pointers_in s.blocks)) (λ a. sym (at_pointers s a)) from b)

-- ---- one block is followed

pub removed : (m n : Pointing) (a : Address) → ((q : Address) → lookup (is_at (address_cmp q)) n ≡ cond (is_at (address_cmp a) q) None (lookup (is_at (address_cmp q)) m)) → Without (at m) a (at n)
removed m n a u q = at_is n q ∙ ap (λ o. found o) (u q) ∙ rw (at_is_same a q) (go (is_same a q)) ∙ ap (λ z. cond (is_same a q) [] z) (sym (at_is m q))
  where
    go : (b : Bool) → found (cond b None (lookup (is_at (address_cmp q)) m)) ≡ cond b [] (found (lookup (is_at (address_cmp q)) m))
    go true = refl
    go false = refl

-- what was seen, and what is still reached, make up what is reached
abbrev pub Covers : (Address → Bool) → Pointing → List Address → (Address → Type 0) → Type 0
Covers seen left work Goal = (b : Address) → (IsTrue (seen b) ⊎ Follows (at left) work b) ↔ Goal b

pub covers_more : (seen now : Address → Bool) (m n : Pointing) (work : List Address) (a : Address) (Goal : Address → Type 0) → ((q : Address) → now q ≡ cond (is_at (address_cmp a) q) true (seen q)) → Without (at m) a (at n) → Covers seen m (work ++ a ∷ []) Goal → Covers now n (work ++ at m a) Goal
covers_more seen now m n work a Goal s w c b = (out, back)
  where
    seen_now : (t : Bool) → is_same a b ≡ t → IsTrue (now b) → IsTrue (seen b) ⊎ (b ≡ a)
    seen_now true t h = inr (sym (same_from a b t))
    seen_now false t h = inl (subst (λ z. IsTrue z) (s b ∙ rw (at_is_same a b, t)) h)

    was_seen : (t : Bool) → is_same a b ≡ t → IsTrue (seen b) → IsTrue (now b)
    was_seen true t h = subst (λ z. IsTrue z) (sym (s b ∙ rw (at_is_same a b, t))) refl
    was_seen false t h = subst (λ z. IsTrue z) (sym (s b ∙ rw (at_is_same a b, t))) h

    is_seen : b ≡ a → IsTrue (now b)
    is_seen e = s b ∙ rw (at_is_same a b) (subst (λ z. cond (is_same a z) true (seen z) ≡ true) (sym e) (rw (same-refl a)))

    out : IsTrue (now b) ⊎ Follows (at n) (work ++ at m a) b → Goal b
    out (inl h) = elim (seen_now (is_same a b) refl h) [ inl k ↦ (c b).0 (inl k) | inr e ↦ (c b).0 (inr (follow_out (at m) (at n) work a w b (inl e))) ]
    out (inr r) = (c b).0 (inr (follow_out (at m) (at n) work a w b (inr r)))

    back : Goal b → IsTrue (now b) ⊎ Follows (at n) (work ++ at m a) b
    back h = elim ((c b).1 h) [ inl k ↦ inl (was_seen (is_same a b) refl k) | inr r ↦ elim (follow_in (at m) (at n) work a w b r) [ inl e ↦ inl (is_seen e) | inr q ↦ inr q ] ]

-- at the end what was seen is what is reached
pub covers_all : (seen : Address → Bool) (left : Pointing) (Goal : Address → Type 0) → Covers seen left [] Goal → (b : Address) → IsTrue (seen b) ↔ Goal b
covers_all seen left Goal c b = (λ h. (c b).0 (inl h), λ h. elim ((c b).1 h) [ inl k ↦ k | inr r ↦ absurd (follow_none (at left) b r) ])

-- at the start nothing was seen
pub covers_none : (seen : Address → Bool) (left : Pointing) (from : List Address) → ((b : Address) → seen b ≡ false) → Covers seen left from (λ b. IsReached (pointing_store left) from b)
covers_none seen left from n b = (out, λ r. inr (reached_from_is (pointing_store left) from b r))
  where
    out : IsTrue (seen b) ⊎ Follows (at left) from b → IsReached (pointing_store left) from b
    out (inl h) = cc (h, n b)
    out (inr r) = is_from_reached (pointing_store left) from b r

-- ---- the work grows by no more than what the rest loses

pub work_shrinks : (m n : Pointing) (a : Address) (pointers old new rest : List Address) → n ≡ remove_entry (is_at (address_cmp a)) m → Some pointers ≡ lookup (is_at (address_cmp a)) m → old ≡ rest ++ a ∷ [] → new ≡ rest ++ pointers → length new + sum_by (λ (p : List Address). length p) (values_of n) < length old + sum_by (λ (p : List Address). length p) (values_of m)
work_shrinks m n a pointers old new rest e f g h =
    let gone = rw (← e, ← f) at (sum_by-remove_entry (λ (p : List Address). length p) (is_at (address_cmp a)) m) in
    let o : length old ≡ length rest + 1 = ap (λ z. length z) g ∙ grind (arith, common_steps) in
    let w : length new ≡ length rest + length pointers = ap (λ z. length z) h ∙ grind (arith, common_steps) in
    omega (arith, gone, o, w)

-- ---- what is listed as reached over what a store points to is reached in the store

pub reached_by_pointing : (s : Store) (from : List Address) (left : Pointing) (list : List Address) → left ≡ pointers_in s.blocks → IsListOf list (IsReached (pointing_store left) from) → IsListOf list (IsReached s from)
reached_by_pointing s from left list e h a =
    let g = pointing_reached s from a in
    let k = subst (λ z. IsTrue (is_among list a) ↔ IsReached (pointing_store z) from a) e (h a) in
    (λ t. g.0 (k.0 t), λ r. k.1 (g.1 r))
