-- Some blocks at once: those that pass a test, by their addresses in order, and all in one pass.
use Rattle.std.proofs.Common.{◌≡◌, ℕ, ◌+◌, ◌==◌, ◌&&◌, ◌||◌, not, nat_le, nat_lt, length, count_by, List, [], ◌∷◌, ◌++◌, Bool, true, false, cond, Option, Some, None, refl, sym, ap, ◌∙◌, filter, Less}
use Rattle.std.proofs.lemmas.Bool.{false≢true}
use Rattle.std.proofs.lemmas.List.Sums.{length-filter}
use Rattle.std.proofs.lemmas.Map.Entries.{length-keys_of}
use Rattle.std.proofs.lemmas.Map.Keys.{sorted_head, sorted_tail}
use Rattle.std.specs.BTreeMap.{is_at}
use Rattle.std.specs.List.{AllByRecursion}
use Rattle.std.specs.List.Sorted.{IsStrictlySortedBy}
use Rattle.std.specs.Map.{keys_of, set_value}
use Rattle.std.specs.Option.{option_map, option_map_or}
use Rattle.hs_limits.specs.declared.address.Address.{Address}
use Rattle.hs_model.specs.Store.{address_cmp}
use Rattle.hs_shard.specs.declared.facts.Facts.{Facts}
use Rattle.hs_shard.specs.Clients.{change_at, put_facts}
use Rattle.hs_shard.specs.Facts.{BlockList, facts_in}
use Rattle.hs_shard.specs.Listed.{is_sound, picked, pointers_each, remove_at, remove_each, stand, stand_each}
use Rattle.hs_shard.specs.Rounds.{count_block, each_block, find_zero, is_new, is_new_zero, pointers_of, spare}
use Rattle.hs_shard.proofs.FoundLemmas.{AreFound, all_found, at_itself, not_above}

-- none of some addresses is at this one
abbrev Misses : Address → List Address → Type 0
Misses a ks = AllByRecursion (λ k. is_at (address_cmp k) a ≡ false) ks

misses_picked : (test : Facts → Bool) (a : Address) (es : BlockList) → AllByRecursion (λ q. address_cmp a q ≡ Less) (keys_of es) → Misses a (picked test es)
misses_picked test a [] below = tt
misses_picked test a (e ∷ es) below = go (misses_picked test a es below.1) (test e.1)
  where
    go : Misses a (picked test es) → (b : Bool) → Misses a (keys_of (cond b (e ∷ filter (λ e. test e.1) es) (filter (λ e. test e.1) es)))
    go ih true = (not_above a e.0 below.0, ih)
    go ih false = ih

-- ---- changed at some

change_behind : (k : Address) (change : Facts → Facts) (e : Address × Facts) (es : BlockList) → is_at (address_cmp k) e.0 ≡ false → change_at k change (e ∷ es) ≡ e ∷ change_at k change es
change_behind k change e es m =
    ap (λ (b : Bool). put_facts k (option_map change (cond b (Some e.1) (facts_in k es))) (e ∷ es)) m ∙ go (facts_in k es)
  where
    go : (o : Option Facts) → put_facts k (option_map change o) (e ∷ es) ≡ e ∷ put_facts k (option_map change o) es
    go None = refl
    go (Some f) = ap (λ (b : Bool). cond b ((e.0, change f) ∷ es) (e ∷ set_value (is_at (address_cmp k)) es (change f))) m

change_first : (change : Facts → Facts) (e : Address × Facts) (es : BlockList) → change_at e.0 change (e ∷ es) ≡ (e.0, change e.1) ∷ es
change_first change e es =
    ap (λ (b : Bool). put_facts e.0 (option_map change (cond b (Some e.1) (facts_in e.0 es))) (e ∷ es)) (at_itself e.0)
    ∙ ap (λ (b : Bool). cond b ((e.0, change e.1) ∷ es) (e ∷ set_value (is_at (address_cmp e.0)) es (change e.1))) (at_itself e.0)

stand_behind : (counted zero : Bool) (ks : List Address) (e : Address × Facts) (es : BlockList) → Misses e.0 ks → stand_each counted zero ks (e ∷ es) ≡ e ∷ stand_each counted zero ks es
stand_behind counted zero [] e es m = refl
stand_behind counted zero (k ∷ ks) e es m =
    ap (λ bs. stand_each counted zero ks bs) (change_behind k (stand counted zero) e es m.0) ∙ stand_behind counted zero ks e (change_at k (stand counted zero) es) m.1

pub stand_picked : (counted zero : Bool) (test : Facts → Bool) (es : BlockList) → IsStrictlySortedBy address_cmp (keys_of es)
    → stand_each counted zero (picked test es) es ≡ each_block (λ f. cond (test f) (stand counted zero f) f) es
stand_picked counted zero test [] d = refl
stand_picked counted zero test (e ∷ es) d = go (stand_picked counted zero test es (sorted_tail address_cmp e.0 (keys_of es) d)) (test e.1) refl
  where
    misses : Misses e.0 (picked test es)
    misses = misses_picked test e.0 es (sorted_head address_cmp e.0 (keys_of es) d)

    go : stand_each counted zero (picked test es) es ≡ each_block (λ f. cond (test f) (stand counted zero f) f) es → (b : Bool) → test e.1 ≡ b
        → stand_each counted zero (keys_of (cond b (e ∷ filter (λ e. test e.1) es) (filter (λ e. test e.1) es))) (e ∷ es)
        ≡ (e.0, cond b (stand counted zero e.1) e.1) ∷ each_block (λ f. cond (test f) (stand counted zero f) f) es
    go rest true t =
        ap (λ bs. stand_each counted zero (picked test es) bs) (change_first (stand counted zero) e es)
        ∙ stand_behind counted zero (picked test es) (e.0, stand counted zero e.1) es misses
        ∙ ap (λ bs. (e.0, stand counted zero e.1) ∷ bs) rest
    go rest false t = stand_behind counted zero (picked test es) e es misses ∙ ap (λ bs. e ∷ bs) rest

-- ---- taken away

remove_behind : (ks : List Address) (e : Address × Facts) (es : BlockList) → Misses e.0 ks → remove_each ks (e ∷ es) ≡ e ∷ remove_each ks es
remove_behind [] e es m = refl
remove_behind (k ∷ ks) e es m = ap (λ (b : Bool). remove_each ks (cond b es (e ∷ remove_at k es))) m.0 ∙ remove_behind ks e (remove_at k es) m.1

pub remove_picked : (test : Facts → Bool) (es : BlockList) → IsStrictlySortedBy address_cmp (keys_of es) → remove_each (picked test es) es ≡ filter (λ e. not (test e.1)) es
remove_picked test [] d = refl
remove_picked test (e ∷ es) d = go (remove_picked test es (sorted_tail address_cmp e.0 (keys_of es) d)) (test e.1)
  where
    go : remove_each (picked test es) es ≡ filter (λ e. not (test e.1)) es → (b : Bool) → remove_each (keys_of (cond b (e ∷ filter (λ e. test e.1) es) (filter (λ e. test e.1) es))) (e ∷ es)
        ≡ cond (not b) (e ∷ filter (λ e. not (test e.1)) es) (filter (λ e. not (test e.1)) es)
    go rest true = ap (λ (b : Bool). remove_each (picked test es) (cond b es (e ∷ remove_at e.0 es))) (at_itself e.0) ∙ rest
    go rest false = remove_behind (picked test es) e es (misses_picked test e.0 es (sorted_head address_cmp e.0 (keys_of es) d)) ∙ ap (λ bs. e ∷ bs) rest

-- ---- what they point to

pointers_picked_of : (test : Facts → Bool) (blocks es : BlockList) → AreFound blocks es → pointers_each (picked test es) blocks ≡ pointers_of test es
pointers_picked_of test blocks [] found = refl
pointers_picked_of test blocks (e ∷ es) found = go (pointers_picked_of test blocks es found.1) (test e.1)
  where
    go : pointers_each (picked test es) blocks ≡ pointers_of test es → (b : Bool)
        → pointers_each (keys_of (cond b (e ∷ filter (λ e. test e.1) es) (filter (λ e. test e.1) es))) blocks ≡ cond b e.1.pointers [] ++ pointers_of test es
    go ih true = ap (λ o. option_map_or (λ f. f.pointers) o [] ++ pointers_each (picked test es) blocks) found.0 ∙ ap (λ more. e.1.pointers ++ more) ih
    go ih false = ih

pub pointers_picked : (test : Facts → Bool) (blocks : BlockList) → IsStrictlySortedBy address_cmp (keys_of blocks) → pointers_each (picked test blocks) blocks ≡ pointers_of test blocks
pointers_picked test blocks d = pointers_picked_of test blocks blocks (all_found blocks d)

-- ---- those of a kind, and of them those that pass a test

-- the addresses of a kind's list that pass the stronger test
pub picked_among : (listed test : Facts → Bool) (blocks es : BlockList) → AreFound blocks es → ((f : Facts) → test f ≡ true → listed f ≡ true)
    → filter (λ a. option_map_or test (facts_in a blocks) false) (picked listed es) ≡ picked test es
picked_among listed test blocks [] found less = refl
picked_among listed test blocks (e ∷ es) found less = go (picked_among listed test blocks es found.1 less) (listed e.1) refl (test e.1) refl
  where
    go : filter (λ a. option_map_or test (facts_in a blocks) false) (picked listed es) ≡ picked test es → (b : Bool) → listed e.1 ≡ b → (c : Bool) → test e.1 ≡ c
        → filter (λ a. option_map_or test (facts_in a blocks) false) (keys_of (cond b (e ∷ filter (λ e. listed e.1) es) (filter (λ e. listed e.1) es)))
        ≡ keys_of (cond c (e ∷ filter (λ e. test e.1) es) (filter (λ e. test e.1) es))
    go ih false l true t = absurd (false≢true (sym l ∙ less e.1 t))
    go ih false l false t = ih
    go ih true l c t =
        ap (λ o. cond (option_map_or test o false) (e.0 ∷ filter (λ a. option_map_or test (facts_in a blocks) false) (picked listed es)) (filter (λ a. option_map_or test (facts_in a blocks) false) (picked listed es))) found.0
        ∙ ap (λ (b : Bool). cond b (e.0 ∷ filter (λ a. option_map_or test (facts_in a blocks) false) (picked listed es)) (filter (λ a. option_map_or test (facts_in a blocks) false) (picked listed es))) t
        ∙ further c
      where
        further : (c : Bool) → cond c (e.0 ∷ filter (λ a. option_map_or test (facts_in a blocks) false) (picked listed es)) (filter (λ a. option_map_or test (facts_in a blocks) false) (picked listed es))
            ≡ keys_of (cond c (e ∷ filter (λ e. test e.1) es) (filter (λ e. test e.1) es))
        further true = ap (λ ks. e.0 ∷ ks) ih
        further false = ih

-- ---- what the steps of a run do

-- two changes that agree on sound blocks are one
each_alike : (f g : Facts → Facts) (blocks es : BlockList) → AreFound blocks es → ((a : Address) → option_map_or is_sound (facts_in a blocks) true ≡ true) → ((x : Facts) → is_sound x ≡ true → f x ≡ g x) → each_block f es ≡ each_block g es
each_alike f g blocks [] found sound same = refl
each_alike f g blocks (e ∷ es) found sound same =
    let one : is_sound e.1 ≡ true = ap (λ o. option_map_or is_sound o true) (sym found.0) ∙ sound e.0 in
    ap (λ x. (e.0, x) ∷ each_block f es) (same e.1 one) ∙ ap (λ rest. (e.0, g e.1) ∷ rest) (each_alike f g blocks es found.1 sound same)

count_alike : (epoch : ℕ) (f : Facts) → is_sound f ≡ true → cond (is_new epoch f) (stand true false f) f ≡ count_block epoch f
count_alike epoch f sound = go f.counted refl f.zero refl sound
  where
    go : (c : Bool) → f.counted ≡ c → (z : Bool) → f.zero ≡ z → (c || not z) ≡ true → cond (is_new epoch f) (stand true false f) f ≡ count_block epoch f
    go true c z zero s = ap (λ (b : Bool). cond (not b && nat_lt f.born epoch) (stand true false f) f) c ∙ ap (λ (b : Bool). cond (not b && nat_lt f.born epoch) (record f { counted = true }) f) (sym c)
    go false c true zero s = absurd (false≢true s)
    go false c false zero s = ap (λ (z : Bool). cond (is_new epoch f) (record f { counted = true; zero = z }) f) (sym zero)

pub counted_picked : (epoch : ℕ) (blocks : BlockList) → IsStrictlySortedBy address_cmp (keys_of blocks) → ((a : Address) → option_map_or is_sound (facts_in a blocks) true ≡ true)
    → stand_each true false (picked (is_new epoch) blocks) blocks ≡ each_block (count_block epoch) blocks
counted_picked epoch blocks d sound =
    stand_picked true false (is_new epoch) blocks d ∙ each_alike (λ f. cond (is_new epoch f) (stand true false f) f) (count_block epoch) blocks blocks (all_found blocks d) sound (count_alike epoch)

zero_alike : (epoch : ℕ) (f : Facts) → cond (is_new_zero epoch f) (stand true true f) f ≡ find_zero epoch f
zero_alike epoch f = go f.counted refl
  where
    go : (c : Bool) → f.counted ≡ c → cond (is_new_zero epoch f) (stand true true f) f ≡ find_zero epoch f
    go true c = ap (λ (b : Bool). cond (is_new_zero epoch f) (record f { counted = b; zero = true }) f) (sym c)
    go false c = ap (λ (b : Bool). cond (b && (not f.zero && (f.count == 0 && nat_le (f.mark + 2) epoch))) (stand true true f) f) c
        ∙ ap (λ (b : Bool). cond (b && (not f.zero && (f.count == 0 && nat_le (f.mark + 2) epoch))) (record f { zero = true }) f) (sym c)

each_same : (f g : Facts → Facts) (es : BlockList) → ((x : Facts) → f x ≡ g x) → each_block f es ≡ each_block g es
each_same f g [] same = refl
each_same f g (e ∷ es) same = ap (λ x. (e.0, x) ∷ each_block f es) (same e.1) ∙ ap (λ rest. (e.0, g e.1) ∷ rest) (each_same f g es same)

pub zeros_picked : (epoch : ℕ) (blocks : BlockList) → IsStrictlySortedBy address_cmp (keys_of blocks) → stand_each true true (picked (is_new_zero epoch) blocks) blocks ≡ each_block (find_zero epoch) blocks
zeros_picked epoch blocks d =
    stand_picked true true (is_new_zero epoch) blocks d ∙ each_same (λ f. cond (is_new_zero epoch f) (stand true true f) f) (find_zero epoch) blocks (zero_alike epoch)

pub spared_picked : (blocks : BlockList) → IsStrictlySortedBy address_cmp (keys_of blocks) → stand_each false false (picked (λ f. f.zero) blocks) blocks ≡ each_block spare blocks
spared_picked blocks d = stand_picked false false (λ f. f.zero) blocks d

-- as many blocks as their addresses
pub length_picked : (test : Facts → Bool) (es : BlockList) → length (picked test es) ≡ count_by (λ e. test e.1) es
length_picked test es = length-keys_of (filter (λ e. test e.1) es) ∙ length-filter (λ e. test e.1) es
