-- What is missing, by what was seen from the retained roots.
use Rattle.std.proofs.Common.{◌≡◌, ◌∙◌, ◌+◌, ◌<◌, ℕ, List, [], ◌∷◌, Bool, true, false, not, ◌&&◌, ◌||◌, cond, refl, sym, ap, map, filter, length, take, is_none, arith, Some}
use Rattle.std.proofs.lemmas.List.{get_or-map, length-map}
use Rattle.std.proofs.lemmas.List.Kept.{IsStrictlySortedBy-filter}
use Rattle.std.specs.BTreeMap.{is_at}
use Rattle.std.specs.List.{IsDistinct, list_any}
use Rattle.std.specs.List.Sorted.{IsStrictlySortedBy}
use Rattle.std.specs.Map.{keys_of, lookup}
use Rattle.std.specs.Prelude.{slice_index_or}
use Rattle.hs_audit.proofs.AscendingLemmas.{among-ascending, sorted-ascending, sorted_alike}
use Rattle.hs_audit.specs.Missing.{ascending, kept_by_roots, missing}
use Rattle.hs_limits.specs.declared.address.Address.{Address}
use Rattle.hs_model.proofs.Members.{at_is_same, same_from}
use Rattle.hs_model.proofs.SetLemmas.{add_step, keys_more}
use Rattle.hs_model.proofs.SweptLemmas.{seen_is_listed}
use Rattle.hs_model.specs.declared.plain.PlainBlock.{PlainBlock}
use Rattle.hs_model.specs.declared.store.StoredBlock.{StoredBlock}
use Rattle.hs_model.specs.Listed.{IsListOf}
use Rattle.hs_model.specs.Plain.{entry_of}
use Rattle.hs_model.specs.Reach.{IsReached, is_among, is_same, reached_from}
use Rattle.hs_model.specs.Store.{Store, address_cmp, block_at}

-- a block is looked up exactly where its address is among those of the blocks
pub absent_is : (es : List (Address × StoredBlock)) (a : Address) → is_none (lookup (is_at (address_cmp a)) es) ≡ not (is_among (keys_of es) a)
absent_is [] a = refl
absent_is (e ∷ es) a = rw (at_is_same a e.0) (go (is_same a e.0) (absent_is es a))
  where
    go : (b : Bool) → is_none (lookup (is_at (address_cmp a)) es) ≡ not (is_among (keys_of es) a) → is_none (cond b (Some e.1) (lookup (is_at (address_cmp a)) es)) ≡ not (b || is_among (keys_of es) a)
    go true ih = refl
    go false ih = ih

-- a filter keeps what is among a list and passes
pub among-filter : (p : Address → Bool) (xs : List Address) (a : Address) → is_among (filter p xs) a ≡ (p a && is_among xs a)
among-filter p [] a = none (p a)
  where
    none : (b : Bool) → false ≡ (b && false)
    none true = refl
    none false = refl
among-filter p (x ∷ xs) a = go (p x) refl (is_same a x) refl (among-filter p xs a)
  where
    go : (b : Bool) → p x ≡ b → (c : Bool) → is_same a x ≡ c → is_among (filter p xs) a ≡ (p a && is_among xs a) → is_among (cond b (x ∷ filter p xs) (filter p xs)) a ≡ (p a && (is_same a x || is_among xs a))
    go true e true f ih = let t : p a ≡ true = ap p (same_from a x f) ∙ e in rw (f, t) refl
    go true e false f ih = rw f ih
    go false e true f ih = let t : p a ≡ false = ap p (same_from a x f) ∙ e in ih ∙ rw t refl
    go false e false f ih = rw f ih

pub missing_is : (s : Store) (seen present list : List Address) → IsDistinct is_same (keys_of s.blocks) → IsListOf seen (IsReached s (kept_by_roots s)) → IsStrictlySortedBy address_cmp seen
    → ((a : Address) → is_among present a ≡ is_among (keys_of s.blocks) a) → list ≡ filter (λ a. not (is_among present a)) seen → list ≡ missing s
unfolding missing
missing_is s seen present list d h sorted same e =
    let p : Address → Bool = λ a. not (is_among present a) in
    let q : Address → Bool = λ a. is_none (block_at s a) in
    let tests : (a : Address) → p a ≡ q a = λ a. ap not (same a) ∙ sym (absent_is s.blocks a) in
    let all : List Address = reached_from s (kept_by_roots s) in
    e ∙ sorted_alike (filter p seen) (ascending (filter q all)) (IsStrictlySortedBy-filter address_cmp p seen sorted) (sorted-ascending (filter q all))
    (λ a. among-filter p seen a ∙ ap (λ b. b && is_among seen a) (tests a) ∙ ap (λ b. q a && b) (seen_is_listed s (kept_by_roots s) seen d h a)
    ∙ sym (among-filter q all a) ∙ sym (among-ascending (filter q all) a))

-- ---- the addresses of the first blocks are in a set

abbrev pub addresses_of : List PlainBlock → List Address
addresses_of blocks = map (λ block. block.address) blocks

pub one_present : (old now : List Address) (blocks : List PlainBlock) (i : ℕ) (x : PlainBlock) → i < length blocks → x ≡ slice_index_or blocks i x
    → ((q : Address) → list_any (is_at (address_cmp q)) now ≡ cond (is_at (address_cmp x.address) q) true (list_any (is_at (address_cmp q)) old))
    → ((q : Address) → is_among old q ≡ is_among (take i (addresses_of blocks)) q) → (a : Address) → is_among now a ≡ is_among (take (i + 1) (addresses_of blocks)) a
one_present old now blocks i x low is updates so_far a =
    let long : length (addresses_of blocks) ≡ length blocks = length-map blocks (λ (block : PlainBlock). block.address) in
    let there : x.address ≡ slice_index_or (addresses_of blocks) i x.address = ap (λ (b : PlainBlock). b.address) is ∙ sym (get_or-map (λ (block : PlainBlock). block.address) blocks i x x.address low) in
    add_step (is_among old) (λ q. false) (is_among now) (addresses_of blocks) i x.address (omega (arith, low, long)) there (keys_more old now x.address updates) so_far a

pub keys_are : (blocks : List PlainBlock) → keys_of (map entry_of blocks) ≡ addresses_of blocks
keys_are [] = refl
keys_are (block ∷ blocks) = ap (λ z. block.address ∷ z) (keys_are blocks)
