-- Counts of addresses, as deltas: ascending, and each of at least 1.
use Rattle.std.proofs.Common.{arith, ◌≡◌, ◌≤◌, ◌<◌, ◌+◌, ◌∙◌, ℕ, List, [], ◌∷◌, ◌++◌, drop, length, refl, ap, sym, subst, map, Option, Some, unwrap_or, Ordering, Less, Equal, Greater}
use Rattle.std.proofs.Math.ListN.{get_or}
use Rattle.std.proofs.lemmas.List.{at_drop_more}
use Rattle.std.proofs.lemmas.List.Elements.{All-cons, All-nil}
use Rattle.std.specs.BTreeMap.{insert_entry, is_at}
use Rattle.std.specs.List.{All, AllByRecursion}
use Rattle.std.specs.List.Sorted.{IsStrictlySortedBy}
use Rattle.std.specs.Map.{keys_of, lookup, set_value}
use Rattle.std.specs.Option.{option_map_or}
use Rattle.std.specs.Ordering.{match_ordering}
use Rattle.hs_limits.specs.declared.address.Address.{Address}
use Rattle.hs_limits.specs.declared.delta.Delta.{Delta}
use Rattle.hs_model.specs.Store.{address_cmp}
use Rattle.hs_model.proofs.MapLemmas.{insert-present}
use Rattle.hs_model.proofs.SetLemmas.{address_total}
use Rattle.hs_rounds.specs.Changes.{AreChanges}
use Rattle.hs_shard.specs.Facts.{BlockList, facts_in}
use Rattle.hs_shard.specs.Listed.{pointers_each}
use Rattle.hs_shard.specs.Tally.{count_all, deltas_of, one_more}

abbrev pub Some1 : List (Address × ℕ) → Type 0
Some1 es = AllByRecursion (λ e. 1 ≤ e.1) es

pub some_insert : (a : Address) (n : ℕ) (es : List (Address × ℕ)) → 1 ≤ n → Some1 es → Some1 (insert_entry address_cmp es a n)
some_insert a n [] le h = (le, tt)
some_insert a n (e ∷ es) le h = go (some_insert a n es le h.1) (address_cmp a e.0)
  where
    go : Some1 (insert_entry address_cmp es a n) → (o : Ordering) → Some1 (match_ordering o ((a, n) ∷ e ∷ es) ((e.0, n) ∷ es) (e ∷ insert_entry address_cmp es a n))
    go ih Less = (le, h)
    go ih Equal = (le, h.1)
    go ih Greater = (h.0, ih)

-- an address that has a count, counted once more
pub raised : (a : Address) (n more : ℕ) (es : List (Address × ℕ)) → IsStrictlySortedBy address_cmp (keys_of es) → Some n ≡ lookup (is_at (address_cmp a)) es → more ≡ n + 1 → set_value (is_at (address_cmp a)) es more ≡ one_more a es
raised a n more es d h e =
    sym (insert-present address_cmp address_total es a n more d (sym h)) ∙ ap (λ k. insert_entry address_cmp es a k) (e ∙ ap (λ (o : Option ℕ). unwrap_or o 0 + 1) h)

pub some_more : (a : Address) (es : List (Address × ℕ)) → Some1 es → Some1 (one_more a es)
some_more a es h = some_insert a (unwrap_or (lookup (is_at (address_cmp a)) es) 0 + 1) es (omega arith) h

some_deltas : (es : List (Address × ℕ)) → Some1 es → All (λ (d : Delta). 1 ≤ d.amount) (deltas_of es)
some_deltas [] h = All-nil (λ (d : Delta). 1 ≤ d.amount)
some_deltas (e ∷ es) h = All-cons (λ (d : Delta). 1 ≤ d.amount) (record { address = e.0; amount = e.1 }) (deltas_of es) h.0 (some_deltas es h.1)

addresses_of_deltas : (es : List (Address × ℕ)) → map (λ (d : Delta). d.address) (deltas_of es) ≡ keys_of es
addresses_of_deltas [] = refl
addresses_of_deltas (e ∷ es) = ap (λ as'. e.0 ∷ as') (addresses_of_deltas es)

pub are_changes : (es : List (Address × ℕ)) → IsStrictlySortedBy address_cmp (keys_of es) → Some1 es → AreChanges (deltas_of es)
are_changes es d h = record { ascend = subst (λ ks. IsStrictlySortedBy address_cmp ks) (sym (addresses_of_deltas es)) d; some = some_deltas es h }

-- some and then others
pub count_more : (xs ys : List Address) (counts : List (Address × ℕ)) → count_all (xs ++ ys) counts ≡ count_all ys (count_all xs counts)
count_more [] ys counts = refl
count_more (x ∷ xs) ys counts = count_more xs ys (one_more x counts)

-- one block more
pub tell_more : (as' : List Address) (i : ℕ) (blocks : BlockList) (before now : List (Address × ℕ)) (d : Address) → i < length as'
    → now ≡ count_all (option_map_or (λ f. f.pointers) (facts_in (get_or as' i d) blocks) []) before
    → count_all (pointers_each (drop (i + 1) as') blocks) now ≡ count_all (pointers_each (drop i as') blocks) before
tell_more as' i blocks before now d lt e =
    let pointers : List Address = option_map_or (λ f. f.pointers) (facts_in (get_or as' i d) blocks) [] in
    let rest : List Address = pointers_each (drop (i + 1) as') blocks in
    ap (λ counts. count_all rest counts) e ∙ sym (count_more pointers rest before) ∙ sym (at_drop_more (λ bs. count_all (pointers_each bs blocks) before) as' i d lt)
