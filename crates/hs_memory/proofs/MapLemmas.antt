-- Blocks and roots as they are kept in memory, changed one by one.
use Rattle.std.proofs.Common.{◌≡◌, ℕ, suc, ◌&&◌, ◌||◌, not, nat_lt, List, [], ◌∷◌, ◌++◌, length, map, filter, count_by, Bool, true, false, cond, Option, Some, None, refl, sym, ap, subst, ◌∙◌, Less, is_eq}
use Rattle.std.proofs.lemmas.List.Sums.{length-filter}
use Rattle.std.proofs.lemmas.Map.Keys.{sorted_head, sorted_tail}
use Rattle.std.specs.BTreeMap.{is_at}
use Rattle.std.specs.List.{AllByRecursion}
use Rattle.std.specs.List.Sorted.{IsStrictlySortedBy}
use Rattle.std.specs.Map.{keys_of, set_value}
use Rattle.std.specs.Option.{option_map}
use Rattle.hs_limits.specs.declared.address.Address.{Address}
use Rattle.hs_limits.specs.declared.delta.Delta.{Delta}
use Rattle.hs_model.specs.Reach.{is_same}
use Rattle.hs_model.specs.Store.{address_cmp}
use Rattle.hs_model.proofs.Members.{at_is_same}
use Rattle.hs_model.proofs.SetLemmas.{map_of_filter}
use Rattle.hs_roots.specs.declared.root.RootRecord.{RootRecord}
use Rattle.hs_roots.specs.Roots.{counting, count_new, is_released, kept_by, release, released_count}
use Rattle.hs_fold.specs.Runs.Facts.{Facts as FoldedFacts, RootFacts}
use Rattle.hs_fold.specs.Runs.Facts.{each_block as fold_each}
use Rattle.hs_fold.specs.Runs.Rounds.{count_block as fold_count, count_root, find_zero as fold_zero, is_gone as fold_gone, is_new as fold_new, is_new_zero as fold_new_zero, moved_by, spare as fold_spare}
use Rattle.hs_fold.specs.Runs.Told.{addresses_of}
use Rattle.hs_fold.specs.Runs.Told.{pointers_of as fold_pointers}
use Rattle.hs_memory.specs.Forget.{known_of, record_of}
use Rattle.hs_shard.specs.declared.facts.Facts.{Facts}
use Rattle.hs_shard.specs.Clients.{change_at, put_facts}
use Rattle.hs_shard.specs.Facts.{BlockList, facts_in}
use Rattle.hs_shard.specs.Rounds.{count_block, each_block, find_zero, is_gone, is_new, is_new_zero, move_count, moved, pointers_of, settle, spare, sweep_blocks}
use Rattle.hs_shard.proofs.FoundLemmas.{same_at}

abbrev pub FoldedList : Type 0
FoldedList = List (Address × FoldedFacts)

abbrev pub known : FoldedList → BlockList
known es = map (λ e. (e.0, known_of e.1)) es

-- ---- blocks

each_known : (f : FoldedFacts → FoldedFacts) (g : Facts → Facts) → ((x : FoldedFacts) → g (known_of x) ≡ known_of (f x)) → (es : FoldedList) → each_block g (known es) ≡ known (fold_each f es)
each_known f g same [] = refl
each_known f g same (e ∷ es) = ap (λ x. (e.0, x) ∷ each_block g (known es)) (same e.1) ∙ ap (λ rest. (e.0, known_of (f e.1)) ∷ rest) (each_known f g same es)

pub counted_known : (epoch : ℕ) (es : FoldedList) → each_block (count_block epoch) (known es) ≡ known (fold_each (fold_count epoch) es)
counted_known epoch es = each_known (fold_count epoch) (count_block epoch) one es
  where
    one : (x : FoldedFacts) → count_block epoch (known_of x) ≡ known_of (fold_count epoch x)
    one x = go (fold_new epoch x)
      where
        go : (b : Bool) → cond b (record (known_of x) { counted = true }) (known_of x) ≡ known_of (cond b (record x { counted = true }) x)
        go true = refl
        go false = refl

pub zeros_known : (epoch : ℕ) (es : FoldedList) → each_block (find_zero epoch) (known es) ≡ known (fold_each (fold_zero epoch) es)
zeros_known epoch es = each_known (fold_zero epoch) (find_zero epoch) one es
  where
    one : (x : FoldedFacts) → find_zero epoch (known_of x) ≡ known_of (fold_zero epoch x)
    one x = go (fold_new_zero epoch x)
      where
        go : (b : Bool) → cond b (record (known_of x) { zero = true }) (known_of x) ≡ known_of (cond b (record x { zero = true }) x)
        go true = refl
        go false = refl

pub swept_known : (epoch : ℕ) (es : FoldedList) → sweep_blocks epoch (known es) ≡ known (fold_each fold_spare (filter (λ e. not (fold_gone epoch e.1)) es))
swept_known epoch es =
    ap (λ bs. each_block spare bs) (sym (map_of_filter (λ (e : Address × Facts). not (is_gone epoch e.1)) (λ (e : Address × FoldedFacts). (e.0, known_of e.1)) es))
    ∙ each_known fold_spare spare one (filter (λ e. not (fold_gone epoch e.1)) es)
  where
    one : (x : FoldedFacts) → spare (known_of x) ≡ known_of (fold_spare x)
    one x = go x.zero
      where
        go : (b : Bool) → cond b (record (known_of x) { counted = false; zero = false }) (known_of x) ≡ known_of (cond b (record x { counted = false; zero = false }) x)
        go true = refl
        go false = refl

pub pointers_new : (epoch : ℕ) (es : FoldedList) → pointers_of (is_new epoch) (known es) ≡ fold_pointers (fold_new epoch) es
pointers_new epoch [] = refl
pointers_new epoch (e ∷ es) = ap (λ rest. cond (fold_new epoch e.1) e.1.present.stored.pointers [] ++ rest) (pointers_new epoch es)

pub pointers_zero : (epoch : ℕ) (es : FoldedList) → pointers_of (is_new_zero epoch) (known es) ≡ fold_pointers (fold_new_zero epoch) es
pointers_zero epoch [] = refl
pointers_zero epoch (e ∷ es) = ap (λ rest. cond (fold_new_zero epoch e.1) e.1.present.stored.pointers [] ++ rest) (pointers_zero epoch es)

pub length_map : {X Y : Type 0} (f : X → Y) (xs : List X) → length (map f xs) ≡ length xs
length_map f [] = refl
length_map f (x ∷ xs) = ap suc (length_map f xs)

-- as many of the mapped pass as pass when they are mapped
pub count_map : {X Y : Type 0} (p : Y → Bool) (h : X → Y) (xs : List X) → count_by p (map h xs) ≡ count_by (λ x. p (h x)) xs
count_map p h xs = sym (length-filter p (map h xs)) ∙ ap (λ ys. length ys) (sym (map_of_filter p h xs)) ∙ length_map h (filter (λ x. p (h x)) xs) ∙ length-filter (λ x. p (h x)) xs

pub zero_count_known : (epoch : ℕ) (es : FoldedList) → count_by (λ e. is_new_zero epoch e.1) (known es) ≡ count_by (λ e. fold_new_zero epoch e.1) es
zero_count_known epoch es = count_map (λ (e : Address × Facts). is_new_zero epoch e.1) (λ (e : Address × FoldedFacts). (e.0, known_of e.1)) es

-- ---- counts that move

-- the facts at an address changed
abbrev at : Address → (FoldedFacts → FoldedFacts) → Address × FoldedFacts → Address × FoldedFacts
at a h e = (e.0, cond (is_same a e.0) (h e.1) e.1)

none_at : (a : Address) (h : FoldedFacts → FoldedFacts) (es : FoldedList) → AllByRecursion (λ q. address_cmp a q ≡ Less) (keys_of es) → map (at a h) es ≡ es
none_at a h [] below = refl
none_at a h (e ∷ es) below =
    let other : is_same a e.0 ≡ false = sym (at_is_same a e.0) ∙ ap is_eq below.0 in
    ap (λ (b : Bool). (e.0, cond b (h e.1) e.1) ∷ map (at a h) es) other ∙ ap (λ rest. e ∷ rest) (none_at a h es below.1)

change_known : (a : Address) (g : Facts → Facts) (h : FoldedFacts → FoldedFacts) → ((x : FoldedFacts) → g (known_of x) ≡ known_of (h x)) → (es : FoldedList) → IsStrictlySortedBy address_cmp (keys_of es)
    → change_at a g (known es) ≡ known (map (at a h) es)
change_known a g h same [] d = refl
change_known a g h same (e ∷ es) d = go (change_known a g h same es (sorted_tail address_cmp e.0 (keys_of es) d)) (is_at (address_cmp a) e.0) refl
  where
    go : change_at a g (known es) ≡ known (map (at a h) es) → (b : Bool) → is_at (address_cmp a) e.0 ≡ b → change_at a g (known (e ∷ es)) ≡ known (map (at a h) (e ∷ es))
    go ih true t =
        let here : a ≡ e.0 = same_at a e.0 t in
        let rest : map (at a h) es ≡ es = none_at a h es (subst (λ z. AllByRecursion (λ q. address_cmp z q ≡ Less) (keys_of es)) (sym here) (sorted_head address_cmp e.0 (keys_of es) d)) in
        ap (λ (b : Bool). put_facts a (option_map g (cond b (Some (known_of e.1)) (facts_in a (known es)))) (known (e ∷ es))) t
        ∙ ap (λ (b : Bool). cond b ((e.0, g (known_of e.1)) ∷ known es) ((e.0, known_of e.1) ∷ set_value (is_at (address_cmp a)) (known es) (g (known_of e.1)))) t
        ∙ ap (λ x. (e.0, x) ∷ known es) (same e.1)
        ∙ ap (λ es'. (e.0, known_of (h e.1)) ∷ known es') (sym rest)
        ∙ sym (ap (λ (b : Bool). (e.0, known_of (cond b (h e.1) e.1)) ∷ known (map (at a h) es)) (sym (at_is_same a e.0) ∙ t))
    go ih false t =
        ap (λ (b : Bool). put_facts a (option_map g (cond b (Some (known_of e.1)) (facts_in a (known es)))) (known (e ∷ es))) t
        ∙ behind (facts_in a (known es))
        ∙ ap (λ rest. (e.0, known_of e.1) ∷ rest) ih
        ∙ sym (ap (λ (b : Bool). (e.0, known_of (cond b (h e.1) e.1)) ∷ known (map (at a h) es)) (sym (at_is_same a e.0) ∙ t))
      where
        behind : (o : Option Facts) → put_facts a (option_map g o) (known (e ∷ es)) ≡ (e.0, known_of e.1) ∷ put_facts a (option_map g o) (known es)
        behind None = refl
        behind (Some f) = ap (λ (b : Bool). cond b ((e.0, g f) ∷ known es) ((e.0, known_of e.1) ∷ set_value (is_at (address_cmp a)) (known es) (g f))) t

keys_at : (a : Address) (h : FoldedFacts → FoldedFacts) (es : FoldedList) → keys_of (map (at a h) es) ≡ keys_of es
keys_at a h [] = refl
keys_at a h (e ∷ es) = ap (λ ks. e.0 ∷ ks) (keys_at a h es)

-- the counts moved by some deltas
abbrev pub moving : ℕ → List Delta → FoldedList → FoldedList
moving round ds es = map (λ e. (e.0, record e.1 { count = moved_by round e.0 ds e.1.count })) es

moving_none : (round : ℕ) (es : FoldedList) → moving round [] es ≡ es
moving_none round [] = refl
moving_none round (e ∷ es) = ap (λ rest. e ∷ rest) (moving_none round es)

-- the count of a block moved by one delta
abbrev moving_one : ℕ → ℕ → FoldedFacts → FoldedFacts
moving_one round amount x = record x { count = moved round x.count amount }

moving_more : (round : ℕ) (d : Delta) (ds : List Delta) (es : FoldedList) → moving round ds (map (at d.address (moving_one round d.amount)) es) ≡ moving round (d ∷ ds) es
moving_more round d ds [] = refl
moving_more round d ds (e ∷ es) = ap (λ x. (e.0, x) ∷ moving round ds (map (at d.address (moving_one round d.amount)) es)) (go (is_same d.address e.0)) ∙ ap (λ rest. (e.0, record e.1 { count = moved_by round e.0 (d ∷ ds) e.1.count }) ∷ rest) (moving_more round d ds es)
  where
    go : (b : Bool) → record (cond b (moving_one round d.amount e.1) e.1) { count = moved_by round e.0 ds (cond b (moving_one round d.amount e.1) e.1).count }
        ≡ record e.1 { count = moved_by round e.0 ds (cond b (moved round e.1.count d.amount) e.1.count) }
    go true = refl
    go false = refl

pub settled_known : (round : ℕ) (ds : List Delta) (es : FoldedList) → IsStrictlySortedBy address_cmp (keys_of es) → settle round ds (known es) ≡ known (moving round ds es)
settled_known round [] es d = ap known (sym (moving_none round es))
settled_known round (x ∷ ds) es d =
    ap (λ bs. settle round ds bs) (change_known x.address (move_count round x.amount) (moving_one round x.amount) (λ f. refl) es d)
    ∙ settled_known round ds (map (at x.address (moving_one round x.amount)) es) (subst (λ ks. IsStrictlySortedBy address_cmp ks) (sym (keys_at x.address (moving_one round x.amount) es)) d)
    ∙ ap known (moving_more round x ds es)

-- ---- roots

pub counted_records : (epoch : ℕ) (rs : List RootFacts) → count_new epoch (map record_of rs) ≡ map record_of (map (count_root epoch) rs)
counted_records epoch [] = refl
counted_records epoch (r ∷ rs) = ap (λ x. x ∷ count_new epoch (map record_of rs)) (go r.counted refl (nat_lt r.created epoch) refl) ∙ ap (λ rest. record_of (count_root epoch r) ∷ rest) (counted_records epoch rs)
  where
    go : (c : Bool) → r.counted ≡ c → (t : Bool) → nat_lt r.created epoch ≡ t → counting epoch (record_of r) ≡ record_of (count_root epoch r)
    go true c t s =
        ap (λ (b : Bool). record (record_of r) { counted = b || nat_lt r.created epoch }) c ∙ sym (ap (λ (b : Bool). record (record_of r) { counted = b }) c)
        ∙ sym (ap (λ (b : Bool). record_of (cond (not b && nat_lt r.created epoch) (record r { counted = true }) r)) c)
    go false c true s =
        ap (λ (b : Bool). record (record_of r) { counted = r.counted || b }) s ∙ ap (λ (b : Bool). record (record_of r) { counted = b || true }) c
        ∙ sym (ap (λ (b : Bool). record_of (cond (not b && nat_lt r.created epoch) (record r { counted = true }) r)) c ∙ ap (λ (b : Bool). record_of (cond b (record r { counted = true }) r)) s)
    go false c false s =
        ap (λ (b : Bool). record (record_of r) { counted = r.counted || b }) s ∙ ap (λ (b : Bool). record (record_of r) { counted = b || false }) c ∙ sym (ap (λ (b : Bool). record (record_of r) { counted = b }) c)
        ∙ sym (ap (λ (b : Bool). record_of (cond (not b && nat_lt r.created epoch) (record r { counted = true }) r)) c ∙ ap (λ (b : Bool). record_of (cond b (record r { counted = true }) r)) s)

pub kept_records : (p : RootRecord → Bool) (rs : List RootFacts) → kept_by p (map record_of rs) ≡ addresses_of (λ r. p (record_of r)) rs
kept_records p [] = refl
kept_records p (r ∷ rs) = go (kept_records p rs) (p (record_of r))
  where
    go : kept_by p (map record_of rs) ≡ addresses_of (λ r. p (record_of r)) rs → (b : Bool)
        → map (λ (root : RootRecord). root.address) (cond b (record_of r ∷ filter p (map record_of rs)) (filter p (map record_of rs))) ≡ cond b (r.root.address ∷ []) [] ++ addresses_of (λ r. p (record_of r)) rs
    go ih true = ap (λ rest. r.root.address ∷ rest) ih
    go ih false = ih

no_addresses : (rs : List RootFacts) → addresses_of (λ r. false) rs ≡ []
no_addresses [] = refl
no_addresses (r ∷ rs) = no_addresses rs

all_stay : (rs : List RootFacts) → filter (λ r. true) rs ≡ rs
all_stay [] = refl
all_stay (r ∷ rs) = ap (λ rest. r ∷ rest) (all_stay rs)

none_count : (rs : List RootFacts) → 0 ≡ count_by (λ (r : RootFacts). false) rs
none_count rs = ap (λ (xs : List RootFacts). length xs) (sym (none_pass rs)) ∙ length-filter (λ (r : RootFacts). false) rs
  where
    none_pass : (rs : List RootFacts) → filter (λ r. false) rs ≡ []
    none_pass [] = refl
    none_pass (r ∷ rs) = none_pass rs

-- a root counts and was dropped long ago
abbrev pub old : ℕ → RootFacts → Bool
old epoch r = is_released epoch (record_of r)

pub let_go_records : (b : Bool) (epoch : ℕ) (rs : List RootFacts) → cond b (kept_by (is_released epoch) (map record_of rs)) [] ≡ addresses_of (λ r. b && old epoch r) rs
let_go_records true epoch rs = kept_records (is_released epoch) rs
let_go_records false epoch rs = sym (no_addresses rs)

pub still_kept_records : (b : Bool) (epoch : ℕ) (rs : List RootFacts) → cond b (release epoch (map record_of rs)) (map record_of rs) ≡ map record_of (filter (λ r. not (b && old epoch r)) rs)
still_kept_records true epoch rs = sym (map_of_filter (λ (r : RootRecord). not (is_released epoch r)) record_of rs)
still_kept_records false epoch rs = ap (λ rs'. map record_of rs') (sym (all_stay rs))

pub let_go_count : (b : Bool) (epoch : ℕ) (rs : List RootFacts) → cond b (released_count epoch (map record_of rs)) 0 ≡ count_by (λ r. b && old epoch r) rs
let_go_count true epoch rs = count_map (is_released epoch) record_of rs
let_go_count false epoch rs = none_count rs
