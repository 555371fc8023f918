-- The list of a kind has the addresses of its blocks, in order.
use Rattle.std.proofs.Common.{◌≡◌, ℕ, ◌+◌, ◌==◌, ◌&&◌, ◌||◌, not, nat_le, nat_lt, List, [], ◌∷◌, Bool, true, false, cond, Option, Some, None, refl, sym, ap, subst, ◌∙◌, filter, is_eq, Less}
use Rattle.std.proofs.lemmas.Map.Keys.{sorted_head, sorted_tail}
use Rattle.std.proofs.lemmas.Map.Lookups.{btree_set_from_contains, CmpEqualImpliesEq}
use Rattle.std.specs.BTreeMap.{is_at}
use Rattle.std.specs.BTreeSet.{BTreeSet, contains}
use Rattle.std.specs.List.{AllByRecursion, list_any}
use Rattle.std.specs.List.Sorted.{IsStrictlySortedBy}
use Rattle.std.specs.Map.{keys_of}
use Rattle.std.specs.Option.{option_map_or}
use Rattle.hs_limits.specs.declared.address.Address.{Address}
use Rattle.hs_model.specs.Store.{address_cmp}
use Rattle.hs_model.proofs.SetLemmas.{address_total}
use Rattle.hs_shard.specs.declared.facts.Facts.{Facts}
use Rattle.hs_shard.specs.Facts.{BlockList, facts_in}
use Rattle.hs_shard.specs.declared.listed.Kind.TheVariants.{Uncounted, Idle, Zero, Other}
use Rattle.hs_shard.specs.declared.listed.Listed.{Listed}
use Rattle.hs_shard.specs.Listed.{AreKept, NumberList, goes_in, is_sound, kind_of, picked}
use Rattle.hs_shard.specs.Rounds.{is_gone, is_new, is_new_zero}
use Rattle.hs_shard.proofs.EachLemmas.{picked_among}
use Rattle.hs_shard.proofs.FoundLemmas.{all_found, same_at}

address_exact : CmpEqualImpliesEq address_cmp
address_exact a b e = same_at a b (ap is_eq e)

-- an address below some is not among them
below_all : (a : Address) (test : Facts → Bool) (es : BlockList) → AllByRecursion (λ q. address_cmp a q ≡ Less) (keys_of es) → list_any (is_at (address_cmp a)) (picked test es) ≡ false
below_all a test [] below = refl
below_all a test (e ∷ es) below = go (below_all a test es below.1) (test e.1)
  where
    go : list_any (is_at (address_cmp a)) (picked test es) ≡ false → (b : Bool)
        → list_any (is_at (address_cmp a)) (keys_of (cond b (e ∷ filter (λ e. test e.1) es) (filter (λ e. test e.1) es))) ≡ false
    go ih true = ap (λ o. is_eq o || list_any (is_at (address_cmp a)) (picked test es)) below.0 ∙ ih
    go ih false = ih

-- whether an address is among those of the blocks that pass a test
pub among_picked : (test : Facts → Bool) (q : Address) (es : BlockList) → IsStrictlySortedBy address_cmp (keys_of es) → list_any (is_at (address_cmp q)) (picked test es) ≡ option_map_or test (facts_in q es) false
among_picked test q [] d = refl
among_picked test q (e ∷ es) d = go (among_picked test q es (sorted_tail address_cmp e.0 (keys_of es) d)) (is_at (address_cmp q) e.0) refl (test e.1) refl
  where
    go : list_any (is_at (address_cmp q)) (picked test es) ≡ option_map_or test (facts_in q es) false → (b : Bool) → is_at (address_cmp q) e.0 ≡ b → (c : Bool) → test e.1 ≡ c
        → list_any (is_at (address_cmp q)) (keys_of (cond c (e ∷ filter (λ e. test e.1) es) (filter (λ e. test e.1) es))) ≡ option_map_or test (cond b (Some e.1) (facts_in q es)) false
    go rest true t true s = ap (λ (b : Bool). b || list_any (is_at (address_cmp q)) (picked test es)) t ∙ sym s
    go rest true t false s =
        subst (λ z. list_any (is_at (address_cmp z)) (picked test es) ≡ false) (sym (same_at q e.0 t)) (below_all e.0 test es (sorted_head address_cmp e.0 (keys_of es) d)) ∙ sym s
    go rest false t true s = ap (λ (b : Bool). b || list_any (is_at (address_cmp q)) (picked test es)) t ∙ rest
    go rest false t false s = rest

filter_all : (P : Address → Type 0) (test : Facts → Bool) (es : BlockList) → AllByRecursion P (keys_of es) → AllByRecursion P (picked test es)
filter_all P test [] h = tt
filter_all P test (e ∷ es) h = go (filter_all P test es h.1) (test e.1)
  where
    go : AllByRecursion P (picked test es) → (b : Bool) → AllByRecursion P (keys_of (cond b (e ∷ filter (λ e. test e.1) es) (filter (λ e. test e.1) es)))
    go ih true = (h.0, ih)
    go ih false = ih

sorted_cons : (k : Address) (ks : List Address) → AllByRecursion (λ y. address_cmp k y ≡ Less) ks → IsStrictlySortedBy address_cmp ks → IsStrictlySortedBy address_cmp (k ∷ ks)
unfolding IsStrictlySortedBy
sorted_cons k ks h d = (h, d)

picked_sorted : (test : Facts → Bool) (es : BlockList) → IsStrictlySortedBy address_cmp (keys_of es) → IsStrictlySortedBy address_cmp (picked test es)
picked_sorted test [] d = d
picked_sorted test (e ∷ es) d = go (picked_sorted test es (sorted_tail address_cmp e.0 (keys_of es) d)) (test e.1)
  where
    go : IsStrictlySortedBy address_cmp (picked test es) → (b : Bool) → IsStrictlySortedBy address_cmp (keys_of (cond b (e ∷ filter (λ e. test e.1) es) (filter (λ e. test e.1) es)))
    go ih true = sorted_cons e.0 (picked test es) (filter_all (λ y. address_cmp e.0 y ≡ Less) test es (sorted_head address_cmp e.0 (keys_of es) d)) ih
    go ih false = ih

-- a set that has the addresses of the blocks that pass a test has them in order
pub set_is_picked : (test : Facts → Bool) (blocks : BlockList) (set : BTreeSet Address) → IsStrictlySortedBy address_cmp set.keys → IsStrictlySortedBy address_cmp (keys_of blocks)
    → ((q : Address) → contains address_cmp set q ≡ option_map_or test (facts_in q blocks) false) → set.keys ≡ picked test blocks
set_is_picked test blocks set d ordered has =
    btree_set_from_contains address_total set (record { keys = picked test blocks }) d (picked_sorted test blocks ordered) (λ q. has q ∙ sym (among_picked test q blocks ordered)) address_exact

-- and of them those that pass a stronger test
pub set_filtered : (listed test : Facts → Bool) (blocks : BlockList) (set : BTreeSet Address) → IsStrictlySortedBy address_cmp set.keys → IsStrictlySortedBy address_cmp (keys_of blocks)
    → ((q : Address) → contains address_cmp set q ≡ option_map_or listed (facts_in q blocks) false) → ((f : Facts) → test f ≡ true → listed f ≡ true)
    → filter (λ a. option_map_or test (facts_in a blocks) false) set.keys ≡ picked test blocks
set_filtered listed test blocks set d ordered has less =
    ap (λ ks. filter (λ a. option_map_or test (facts_in a blocks) false) ks) (set_is_picked listed blocks set d ordered has) ∙ picked_among listed test blocks blocks (all_found blocks ordered) less

-- ---- the kinds

uncounted_is : (f : Facts) → goes_in Uncounted (kind_of f) ≡ not f.counted
uncounted_is f = go f.counted f.zero (f.count == 0)
  where
    go : (counted zero none : Bool) → goes_in Uncounted (cond (not counted) Uncounted (cond zero Zero (cond none Idle Other))) ≡ not counted
    go false zero none = refl
    go true true none = refl
    go true false true = refl
    go true false false = refl

idle_is : (f : Facts) → goes_in Idle (kind_of f) ≡ (f.counted && (not f.zero && f.count == 0))
idle_is f = go f.counted f.zero (f.count == 0)
  where
    go : (counted zero none : Bool) → goes_in Idle (cond (not counted) Uncounted (cond zero Zero (cond none Idle Other))) ≡ (counted && (not zero && none))
    go false zero none = refl
    go true true none = refl
    go true false true = refl
    go true false false = refl

zero_is : (f : Facts) → is_sound f ≡ true → goes_in Zero (kind_of f) ≡ f.zero
zero_is f = go f.counted f.zero (f.count == 0)
  where
    go : (counted zero none : Bool) → (counted || not zero) ≡ true → goes_in Zero (cond (not counted) Uncounted (cond zero Zero (cond none Idle Other))) ≡ zero
    go false true none h = h
    go false false none h = refl
    go true true none h = refl
    go true false true h = refl
    go true false false h = refl

new_is_uncounted : (epoch : ℕ) (f : Facts) → is_new epoch f ≡ true → goes_in Uncounted (kind_of f) ≡ true
new_is_uncounted epoch f h = uncounted_is f ∙ go (not f.counted) (nat_lt f.born epoch) h
  where
    go : (a b : Bool) → (a && b) ≡ true → a ≡ true
    go true b e = refl
    go false b e = e

new_zero_is_idle : (epoch : ℕ) (f : Facts) → is_new_zero epoch f ≡ true → goes_in Idle (kind_of f) ≡ true
new_zero_is_idle epoch f h = idle_is f ∙ go f.counted (not f.zero) (f.count == 0) (nat_le (f.mark + 2) epoch) h
  where
    go : (a b c d : Bool) → (a && (b && (c && d))) ≡ true → (a && (b && c)) ≡ true
    go true true true d e = refl
    go true true false d e = e
    go true false c d e = e
    go false b c d e = e

gone_is_zero : (epoch : ℕ) (f : Facts) → is_gone epoch f ≡ true → f.zero ≡ true
gone_is_zero epoch f h = go f.zero (nat_lt f.mark epoch) h
  where
    go : (a b : Bool) → (a && b) ≡ true → a ≡ true
    go true b e = refl
    go false b e = e

-- ---- what the lists give

pub new_listed : (epoch : ℕ) (blocks : BlockList) (numbers : NumberList) (listed : Listed) → AreKept blocks numbers listed → IsStrictlySortedBy address_cmp listed.uncounted.keys
    → filter (λ a. option_map_or (is_new epoch) (facts_in a blocks) false) listed.uncounted.keys ≡ picked (is_new epoch) blocks
new_listed epoch blocks numbers listed kept d =
    set_filtered (λ f. goes_in Uncounted (kind_of f)) (is_new epoch) blocks listed.uncounted d kept.ordered (λ q. kept.lists Uncounted q) (λ f h. new_is_uncounted epoch f h)

pub new_zeros_listed : (epoch : ℕ) (blocks : BlockList) (numbers : NumberList) (listed : Listed) → AreKept blocks numbers listed → IsStrictlySortedBy address_cmp listed.idle.keys
    → filter (λ a. option_map_or (is_new_zero epoch) (facts_in a blocks) false) listed.idle.keys ≡ picked (is_new_zero epoch) blocks
new_zeros_listed epoch blocks numbers listed kept d =
    set_filtered (λ f. goes_in Idle (kind_of f)) (is_new_zero epoch) blocks listed.idle d kept.ordered (λ q. kept.lists Idle q) (λ f h. new_zero_is_idle epoch f h)

-- the list of zero blocks has each of them
has_zeros : (blocks : BlockList) (numbers : NumberList) (listed : Listed) → AreKept blocks numbers listed → (q : Address) → contains address_cmp listed.zeros q ≡ option_map_or (λ f. f.zero) (facts_in q blocks) false
has_zeros blocks numbers listed kept q = kept.lists Zero q ∙ go (facts_in q blocks) (kept.sound q)
  where
    go : (o : Option Facts) → option_map_or is_sound o true ≡ true → option_map_or (λ f. goes_in Zero (kind_of f)) o false ≡ option_map_or (λ f. f.zero) o false
    go None h = refl
    go (Some f) h = zero_is f h

pub zeros_listed : (blocks : BlockList) (numbers : NumberList) (listed : Listed) → AreKept blocks numbers listed → IsStrictlySortedBy address_cmp listed.zeros.keys → listed.zeros.keys ≡ picked (λ f. f.zero) blocks
zeros_listed blocks numbers listed kept d = set_is_picked (λ f. f.zero) blocks listed.zeros d kept.ordered (has_zeros blocks numbers listed kept)

pub gone_listed : (epoch : ℕ) (blocks : BlockList) (numbers : NumberList) (listed : Listed) → AreKept blocks numbers listed → IsStrictlySortedBy address_cmp listed.zeros.keys
    → filter (λ a. option_map_or (is_gone epoch) (facts_in a blocks) false) listed.zeros.keys ≡ picked (is_gone epoch) blocks
gone_listed epoch blocks numbers listed kept d =
    set_filtered (λ f. f.zero) (is_gone epoch) blocks listed.zeros d kept.ordered (has_zeros blocks numbers listed kept) (λ f h. gone_is_zero epoch f h)
