-- What a catalogue sends tells for each address what the machine's shard sends.
use Rattle.std.proofs.Common.{◌≡◌, ℕ, ◌+◌, List, [], ◌∷◌, ◌++◌, map, filter, flat_map, Bool, true, false, cond, if◌then◌else◌, Some, None, unwrap_or, refl, sym, ap, ◌∙◌, subst, arith, count_by, Less}
use Rattle.std.proofs.lemmas.Map.Keys.{sorted_head, sorted_tail}
use Rattle.std.specs.BTreeMap.{insert_entry, is_at}
use Rattle.std.specs.List.{AllByRecursion}
use Rattle.std.specs.List.Sorted.{IsStrictlySortedBy}
use Rattle.std.specs.Map.{lookup, keys_of}
use Rattle.hs_limits.specs.declared.address.Address.{Address}
use Rattle.hs_limits.specs.declared.delta.Delta.{Delta}
use Rattle.hs_model.specs.Reach.{is_same}
use Rattle.hs_model.specs.Store.{address_cmp}
use Rattle.hs_model.proofs.CountLemmas.{count-cons}
use Rattle.hs_model.proofs.Members.{Member, at_is_same, same_from}
use Rattle.hs_model.proofs.SetLemmas.{same-sym}
use Rattle.hs_laws.proofs.InsertLemmas.{lookup-insert_same, lookup-insert_other}
use Rattle.hs_laws.proofs.OrderLemmas.{address_total, insert-sorted, none-sorted}
use Rattle.hs_deletion.specs.Records.{BlockRecord, RootRecord, begins, root_begins, is_found, is_released}
use Rattle.hs_deletion.specs.Rounds.{times, pointers_where, addresses_where}
use Rattle.hs_deletion.specs.Catalogue.{ShardCatalogue, sends_first, sends_next}
use Rattle.hs_fold.specs.Runs.Counts.{amount_at}
use Rattle.hs_fold.specs.Runs.Facts.{Facts, RootFacts, Catalogue}
use Rattle.hs_fold.specs.Runs.Rounds.{is_new, is_new_root, first_deltas, settled, is_new_zero, next_total, next_deltas}
use Rattle.hs_fold.specs.Runs.Rounds.{is_released as is_released_here}
use Rattle.hs_fold.specs.Runs.Told.{tally, counted_up, pointers_of, addresses_of}
use Rattle.hs_joint.specs.Seen.{repeated, seen_block, seen_root, seen}
use Rattle.hs_joint.proofs.AmountLemmas.{times_repeated}
use Rattle.hs_joint.proofs.EndLikeLemmas.{settled_seen}
use Rattle.hs_joint.proofs.LikeLemmas.{IsWithin}

-- ---- a tally

pub counted_sorted : (xs : List Address) → IsStrictlySortedBy address_cmp (keys_of (counted_up xs))
counted_sorted [] = none-sorted address_cmp
counted_sorted (a ∷ xs) = insert-sorted address_cmp address_total (counted_up xs) a (unwrap_or (lookup (is_at (address_cmp a)) (counted_up xs)) 0 + 1) (counted_sorted xs)

counted_look : (xs : List Address) (a : Address) → unwrap_or (lookup (is_at (address_cmp a)) (counted_up xs)) 0 ≡ times a xs
unfolding times
counted_look [] a = refl
counted_look (x ∷ xs) a = go (counted_look xs) (is_same a x) refl ∙ sym (count-cons (is_same a) x xs)
  where
    v : ℕ
    v = unwrap_or (lookup (is_at (address_cmp x)) (counted_up xs)) 0 + 1

    go : ((b : Address) → unwrap_or (lookup (is_at (address_cmp b)) (counted_up xs)) 0 ≡ times b xs) → (t : Bool) → is_same a x ≡ t → unwrap_or (lookup (is_at (address_cmp a)) (insert_entry address_cmp (counted_up xs) x v)) 0 ≡ cond (is_same a x) 1 0 + count_by (is_same a) xs
    go ih true e =
        let is : a ≡ x = same_from a x e in
        let here : unwrap_or (lookup (is_at (address_cmp a)) (insert_entry address_cmp (counted_up xs) x v)) 0 ≡ v = ap (λ b. unwrap_or (lookup (is_at (address_cmp b)) (insert_entry address_cmp (counted_up xs) x v)) 0) is ∙ ap (λ o. unwrap_or o 0) (lookup-insert_same (counted_up xs) x v) in
        let old : unwrap_or (lookup (is_at (address_cmp x)) (counted_up xs)) 0 ≡ count_by (is_same x) xs = ih x in
        let moved : count_by (is_same x) xs ≡ count_by (is_same a) xs = ap (λ (b : Address). count_by (is_same b) xs) (sym is) in
        here ∙ rw e (omega (arith, old, moved))
    go ih false e =
        let here = ap (λ o. unwrap_or o 0) (lookup-insert_other (counted_up xs) x v a e) in
        let old : unwrap_or (lookup (is_at (address_cmp a)) (counted_up xs)) 0 ≡ count_by (is_same a) xs = ih a in
        here ∙ old ∙ rw e (omega arith)

abbrev deltas_of : List (Address × ℕ) → List Delta
deltas_of es = map (λ (e : Address × ℕ). record { address = e.0; amount = e.1 }) es

amount_look : (es : List (Address × ℕ)) (a : Address) → IsStrictlySortedBy address_cmp (keys_of es) → amount_at a (deltas_of es) ≡ unwrap_or (lookup (is_at (address_cmp a)) es) 0
amount_look [] a d = refl
amount_look (x ∷ es) a d = go (is_same a x.0) refl (amount_look es a (sorted_tail address_cmp x.0 (keys_of es) d))
  where
    above : (ys : List (Address × ℕ)) → AllByRecursion (λ y. address_cmp a y ≡ Less) (keys_of ys) → lookup (is_at (address_cmp a)) ys ≡ None
    above [] h = refl
    above (y ∷ ys) h = rw h.0 (above ys h.1)

    go : (t : Bool) → is_same a x.0 ≡ t → amount_at a (deltas_of es) ≡ unwrap_or (lookup (is_at (address_cmp a)) es) 0 → (if is_same x.0 a then x.1 else 0) + amount_at a (deltas_of es) ≡ unwrap_or (cond (is_at (address_cmp a) x.0) (Some x.1) (lookup (is_at (address_cmp a)) es)) 0
    go true e ih =
        let none = above es (subst (λ k. AllByRecursion (λ y. address_cmp k y ≡ Less) (keys_of es)) (sym (same_from a x.0 e)) (sorted_head address_cmp x.0 (keys_of es) d)) in
        let left : amount_at a (deltas_of es) ≡ 0 = ih ∙ ap (λ o. unwrap_or o 0) none in
        rw (same-sym x.0 a, at_is_same a x.0, e) (omega (arith, left))
    go false e ih = rw (same-sym x.0 a, at_is_same a x.0, e) (omega (arith, ih))

-- it tells each address as often as it stands there
pub times_tally : (a : Address) (xs : List Address) → times a (repeated (tally xs)) ≡ times a xs
times_tally a xs = times_repeated a (tally xs) ∙ amount_look (counted_up xs) a (counted_sorted xs) ∙ counted_look xs a

-- ---- what blocks and roots name

pub pointers_seen : (test : Facts → Bool) (there : BlockRecord → Bool) → ((e : Address × Facts) → there (seen_block e) ≡ test e.1) → (es : List (Address × Facts)) → pointers_of test es ≡ pointers_where there (map seen_block es)
unfolding pointers_where
pointers_seen test there h [] = refl
pointers_seen test there h (e ∷ es) = rw (h e, pointers_seen test there h es) (go (test e.1))
  where
    go : (b : Bool) → (if b then e.1.present.stored.pointers else []) ++ flat_map (λ (x : BlockRecord). x.pointers) (filter there (map seen_block es)) ≡ flat_map (λ (x : BlockRecord). x.pointers) (cond b (seen_block e ∷ filter there (map seen_block es)) (filter there (map seen_block es)))
    go true = refl
    go false = refl

pub addresses_seen : (shard : ℕ) (test : RootFacts → Bool) (there : RootRecord → Bool) → ((r : RootFacts) → there (seen_root shard r) ≡ test r) → (rs : List RootFacts) → addresses_of test rs ≡ addresses_where there (map (seen_root shard) rs)
unfolding addresses_where
addresses_seen shard test there h [] = refl
addresses_seen shard test there h (r ∷ rs) = rw (h r, addresses_seen shard test there h rs) (go (test r))
  where
    go : (b : Bool) → (if b then r.root.address ∷ [] else []) ++ flat_map (λ (x : RootRecord). x.addresses) (filter there (map (seen_root shard) rs)) ≡ flat_map (λ (x : RootRecord). x.addresses) (cond b (seen_root shard r ∷ filter there (map (seen_root shard) rs)) (filter there (map (seen_root shard) rs)))
    go true = refl
    go false = refl

numbers_seen : {X Y : Type 0} (f : X → Y) (test : X → Bool) (there : Y → Bool) → ((x : X) → there (f x) ≡ test x) → (xs : List X) → count_by test xs ≡ count_by there (map f xs)
numbers_seen f test there h [] = refl
numbers_seen f test there h (x ∷ xs) = count-cons test x xs ∙ (let rest = numbers_seen f test there h xs in let one : Bool → ℕ = λ b. cond b 1 0 in let same : one (test x) ≡ one (there (f x)) = ap one (sym (h x)) in omega (arith, rest, same)) ∙ sym (count-cons there (f x) (map f xs))

module _ (n shard : ℕ) (c : Catalogue) where
  abbrev C : ShardCatalogue
  C = seen shard c

  pub first_named : pointers_of (is_new (c.epoch + 1)) c.blocks ++ addresses_of (is_new_root (c.epoch + 1)) c.roots ≡ (sends_first C).raises
  first_named = rw (pointers_seen (is_new (c.epoch + 1)) (begins (c.epoch + 1)) (λ e. refl) c.blocks, addresses_seen shard (is_new_root (c.epoch + 1)) (root_begins (c.epoch + 1)) (λ r. refl) c.roots) refl

  pub first_told : (a : Address) → times a (repeated (first_deltas (c.epoch + 1) c)) ≡ times a (sends_first C).raises
  first_told a = times_tally a (pointers_of (is_new (c.epoch + 1)) c.blocks ++ addresses_of (is_new_root (c.epoch + 1)) c.roots) ∙ ap (times a) first_named

  module _ (w : (e : Address × Facts) → Member e c.blocks → IsWithin shard c n e) where
    pub next_named : pointers_of (is_new_zero c.epoch) (settled n c).blocks ++ addresses_of (is_released_here (settled n c)) c.roots ≡ (sends_next n C).lowers
    next_named = rw (pointers_seen (is_new_zero c.epoch) (is_found c.epoch) (λ e. refl) (settled n c).blocks, settled_seen n shard c c.blocks w, addresses_seen shard (is_released_here (settled n c)) (is_released c.round c.epoch) (λ r. refl) c.roots) refl

    pub next_told : (a : Address) → times a (repeated (next_deltas (settled n c))) ≡ times a (sends_next n C).lowers
    next_told a = times_tally a (pointers_of (is_new_zero c.epoch) (settled n c).blocks ++ addresses_of (is_released_here (settled n c)) c.roots) ∙ ap (times a) next_named

    pub next_total_told : next_total (settled n c) ≡ (sends_next n C).total
    next_total_told = rw (numbers_seen seen_block (λ e. is_new_zero c.epoch e.1) (is_found c.epoch) (λ e. refl) (settled n c).blocks, settled_seen n shard c c.blocks w, numbers_seen (seen_root shard) (is_released_here (settled n c)) (is_released c.round c.epoch) (λ r. refl) c.roots) refl
