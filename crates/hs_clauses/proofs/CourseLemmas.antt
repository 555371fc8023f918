-- The course of a run begins with a Good and a Took of each shard that has a log: what it tells of peers and shards.
use Rattle.std.proofs.Common.{◌≡◌, ◌∙◌, ◌⊎◌, inl, inr, ap, sym, ℕ, zero, suc, ◌+◌, ◌<◌, ◌≤◌, ◌==◌, ◌++◌, ◌||◌, ◌&&◌, Bool, true, false, List, [], ◌∷◌, Option, Some, None, refl, take, map, length, nat_lt, arith}
use Rattle.std.proofs.lemmas.Bool.{and_from, and_left, cases_eq, eq-eqb, false≢true, lt-ltb, ne_eqb, true≢false}
use Rattle.std.proofs.lemmas.Bool.Decides.{nat_tests}
use Rattle.std.proofs.lemmas.List.Elements.{All-contains, All-from_recursion}
use Rattle.std.specs.List.{AllByRecursion, list_any, range_with_len}
use Rattle.std.specs.Prelude.{filter, flat_map, if◌then◌else◌}
use Rattle.hs_entry.specs.Entries.{rank_of}
use Rattle.hs_events.specs.Course.{change_item}
use Rattle.hs_events.specs.Taken.{taken_items, taken_list, taken_peer}
use Rattle.hs_fold.specs.Good.{IsBegun, good_from, taken_after, taken_from}
use Rattle.hs_fold.specs.Shards.Course.{is_good_of}
use Rattle.hs_fold.specs.Shards.Setting.{Numbered}
use Rattle.hs_limits.specs.declared.shape.Shape.{Shape}
use Rattle.hs_model.specs.declared.course.CourseItem.{CourseItem}
use Rattle.hs_model.specs.declared.course.CourseItem.TheVariants as item
use Rattle.hs_moments.proofs.CourseLemmas.{good-append, taken-append}

-- ---- a Good and a Took of each shard that has a log

-- of one shard
abbrev pub pair : Bool → ℕ → ℕ → ℕ → List CourseItem
pair true k number moment = item.Good k moment ∷ item.Took k number moment ∷ []
pair false k number moment = []

-- of so many, from one on
abbrev pub pairs : (ℕ → Bool) → (ℕ → ℕ) → ℕ → ℕ → ℕ → List CourseItem
pairs there number moment k zero = []
pairs there number moment k (suc n) = pair (there k) k (number k) moment ++ pairs there number moment (k + 1) n

-- the items of the taken log of a shard
abbrev pub items_for : Shape → List (Option Numbered) → ℕ → ℕ → Option ℕ → List CourseItem
items_for shape logs moment shard None = []
items_for shape logs moment shard (Some peer) = item.Good peer moment ∷ item.Took shard (rank_of (taken_list shape logs shard)).number moment ∷ []

module _ (shape : Shape) (logs : List (Option Numbered)) (moment : ℕ) (there : ℕ → Bool) where
  abbrev number_of : ℕ → ℕ
  number_of k = (rank_of (taken_list shape logs k)).number

  one_pair : (k : ℕ) (b : Bool) → items_for shape logs moment k (if b then Some k else None) ≡ pair b k (number_of k) moment
  one_pair k true = refl
  one_pair k false = refl

  pairs_are : (k n : ℕ) → ((j : ℕ) → k ≤ j → j < k + n → taken_peer shape logs j ≡ (if there j then Some j else None))
      → flat_map (λ s. items_for shape logs moment s (taken_peer shape logs s)) (range_with_len k n) ≡ pairs there (λ j. number_of j) moment k n
  pairs_are k zero h = refl
  pairs_are k (suc n) h =
      ap (λ ys. ys ++ flat_map (λ s. items_for shape logs moment s (taken_peer shape logs s)) (range_with_len (k + 1) n)) (ap (items_for shape logs moment k) (h k (omega arith) (omega arith)) ∙ one_pair k (there k))
      ∙ ap (λ ys. pair (there k) k (number_of k) moment ++ ys) (pairs_are (k + 1) n (λ j low high. h j (omega (arith, low)) (omega (arith, high))))

  pub taken_pairs : ((j : ℕ) → j < shape.shards → taken_peer shape logs j ≡ (if there j then Some j else None)) → taken_items shape logs moment ≡ pairs there (λ j. number_of j) moment 0 shape.shards
  taken_pairs h = pairs_are 0 shape.shards (λ j low high. h j (omega (arith, high)))

-- ---- what they tell of a peer

module _ (there : ℕ → Bool) (number : ℕ → ℕ) (moment m p : ℕ) where
  both_true : (b : Bool) → (if b then true else true) ≡ true
  both_true true = refl
  both_true false = refl

  good_on : (k : ℕ) (b : Bool) → good_from true (pair b k (number k) moment) m p ≡ true
  good_on k true = both_true (k == p && nat_lt moment m)
  good_on k false = refl

  -- who is good stays so
  good_still : (k n : ℕ) → good_from true (pairs there number moment k n) m p ≡ true
  good_still k zero = refl
  good_still k (suc n) =
      good-append true (pair (there k) k (number k) moment) (pairs there number moment (k + 1) n) m p
      ∙ ap (λ x. good_from x (pairs there number moment (k + 1) n) m p) (good_on k (there k))
      ∙ good_still (k + 1) n

  -- who has a log is good behind them
  pub good_there : (k n : ℕ) (x : Bool) → moment < m → there p ≡ true → k ≤ p → p < k + n → good_from x (pairs there number moment k n) m p ≡ true
  good_there k zero x below is low high = absurd (omega (arith, low, high))
  good_there k (suc n) x below is low high =
      good-append x (pair (there k) k (number k) moment) (pairs there number moment (k + 1) n) m p
      ∙ go (λ up y. good_there (k + 1) n y below is up (omega (arith, high))) (cases_eq k p)
    where
      go : (k + 1 ≤ p → (y : Bool) → good_from y (pairs there number moment (k + 1) n) m p ≡ true) → (k ≡ p) ⊎ (k ≡ p → ⊥)
          → good_from (good_from x (pair (there k) k (number k) moment) m p) (pairs there number moment (k + 1) n) m p ≡ true
      go again (inl same) =
          let has : there k ≡ true = ap there same ∙ is in
          let both : (k == p && nat_lt moment m) ≡ true = and_from (k == p) (nat_lt moment m) (eq-eqb k p same) (lt-ltb moment m below) in
          let here : good_from x (pair (there k) k (number k) moment) m p ≡ true = ap (λ b. good_from x (pair b k (number k) moment) m p) has ∙ ap (λ b. if b then true else x) both in
          ap (λ y. good_from y (pairs there number moment (k + 1) n) m p) here ∙ good_still (k + 1) n
      go again (inr differs) = again (omega (arith, low, differs)) (good_from x (pair (there k) k (number k) moment) m p)

  -- who has none is as before
  other_pair : (k : ℕ) (x b : Bool) → (k ≡ p → ⊥) → good_from x (pair b k (number k) moment) m p ≡ x
  other_pair k x true differs = ap (λ b. if b then true else x) (and_left (k == p) (nat_lt moment m) (ne_eqb k p differs))
  other_pair k x false differs = refl

  gone_pair : (k : ℕ) (x : Bool) → there p ≡ false → (k ≡ p) ⊎ (k ≡ p → ⊥) → good_from x (pair (there k) k (number k) moment) m p ≡ x
  gone_pair k x lacks (inl same) = ap (λ b. good_from x (pair b k (number k) moment) m p) (ap there same ∙ lacks)
  gone_pair k x lacks (inr differs) = other_pair k x (there k) differs

  pub good_gone : (k n : ℕ) (x : Bool) → there p ≡ false → good_from x (pairs there number moment k n) m p ≡ x
  good_gone k zero x lacks = refl
  good_gone k (suc n) x lacks =
      good-append x (pair (there k) k (number k) moment) (pairs there number moment (k + 1) n) m p
      ∙ ap (λ y. good_from y (pairs there number moment (k + 1) n) m p) (gone_pair k x lacks (cases_eq k p))
      ∙ good_gone (k + 1) n x lacks

  -- ---- and of a shard

  past_pair : (k x : ℕ) (b : Bool) → (k ≡ p → ⊥) → taken_from x (pair b k (number k) moment) m p ≡ x
  past_pair k x true differs = ap (λ b. if b then number k else x) (and_left (k == p) (nat_lt moment m) (ne_eqb k p differs))
  past_pair k x false differs = refl

  took_past : (k n x : ℕ) → p < k → taken_from x (pairs there number moment k n) m p ≡ x
  took_past k zero x low = refl
  took_past k (suc n) x low =
      taken-append x (pair (there k) k (number k) moment) (pairs there number moment (k + 1) n) m p
      ∙ ap (λ y. taken_from y (pairs there number moment (k + 1) n) m p) (past_pair k x (there k) (λ same. omega (arith, same, low)))
      ∙ took_past (k + 1) n x (omega (arith, low))

  pub took_there : (k n x : ℕ) → moment < m → there p ≡ true → k ≤ p → p < k + n → taken_from x (pairs there number moment k n) m p ≡ number p
  took_there k zero x below is low high = absurd (omega (arith, low, high))
  took_there k (suc n) x below is low high =
      taken-append x (pair (there k) k (number k) moment) (pairs there number moment (k + 1) n) m p
      ∙ go (λ up y. took_there (k + 1) n y below is up (omega (arith, high))) (cases_eq k p)
    where
      go : (k + 1 ≤ p → (y : ℕ) → taken_from y (pairs there number moment (k + 1) n) m p ≡ number p) → (k ≡ p) ⊎ (k ≡ p → ⊥)
          → taken_from (taken_from x (pair (there k) k (number k) moment) m p) (pairs there number moment (k + 1) n) m p ≡ number p
      go again (inl same) =
          let has : there k ≡ true = ap there same ∙ is in
          let both : (k == p && nat_lt moment m) ≡ true = and_from (k == p) (nat_lt moment m) (eq-eqb k p same) (lt-ltb moment m below) in
          let here : taken_from x (pair (there k) k (number k) moment) m p ≡ number k = ap (λ b. taken_from x (pair b k (number k) moment) m p) has ∙ ap (λ b. if b then number k else x) both in
          ap (λ y. taken_from y (pairs there number moment (k + 1) n) m p) here ∙ took_past (k + 1) n (number k) (omega (arith, same)) ∙ ap number same
      go again (inr differs) = again (omega (arith, low, differs)) (taken_from x (pair (there k) k (number k) moment) m p)

-- ---- who begins the course

pub pairs_begin : (there : ℕ → Bool) (number : ℕ → ℕ) (moment p k n : ℕ) (rest : List CourseItem) (c : ℕ) → there p ≡ true → k ≤ p → p < k + n → n + n ≤ c
    → list_any (is_good_of p) (take c (pairs there number moment k n ++ rest)) ≡ true
pairs_begin there number moment p k zero rest c is low high room = absurd (omega (arith, low, high))
pairs_begin there number moment p k (suc n) rest c is low high room =
    go (λ d fits up. pairs_begin there number moment p (k + 1) n rest d is up (omega (arith, high)) fits) (there k) refl c room
  where
    Again : Type 0
    Again = (d : ℕ) → n + n ≤ d → k + 1 ≤ p → list_any (is_good_of p) (take d (pairs there number moment (k + 1) n ++ rest)) ≡ true

    by_peer : Again → (d : ℕ) → n + n ≤ d → (b : Bool) → (k == p) ≡ b → ((k == p) || list_any (is_good_of p) (take d (pairs there number moment (k + 1) n ++ rest))) ≡ true
    by_peer again d fits true e = ap (λ b. b || list_any (is_good_of p) (take d (pairs there number moment (k + 1) n ++ rest))) e
    by_peer again d fits false e =
        let next : k + 1 ≤ p = grind (arith, nat_tests, e, low) in
        ap (λ b. b || list_any (is_good_of p) (take d (pairs there number moment (k + 1) n ++ rest))) e
        ∙ again d fits next

    go : Again → (b : Bool) → there k ≡ b → (d : ℕ) → suc n + suc n ≤ d → list_any (is_good_of p) (take d ((pair b k (number k) moment ++ pairs there number moment (k + 1) n) ++ rest)) ≡ true
    go again true e zero fits = absurd (omega (arith, fits))
    go again true e (suc zero) fits = absurd (omega (arith, fits))
    go again true e (suc (suc d)) fits = by_peer again d (omega (arith, fits)) (k == p) refl
    go again false e d fits =
        let differs : k ≡ p → ⊥ = λ same. false≢true (sym e ∙ ap there same ∙ is) in
        again d (omega (arith, fits)) (omega (arith, low, differs))

-- a course that somebody begins is not empty
pub some_course : (c p : ℕ) (items : List CourseItem) → list_any (is_good_of p) (take c items) ≡ true → (length items == 0) ≡ false
some_course zero p [] h = absurd (false≢true h)
some_course (suc c) p [] h = absurd (false≢true h)
some_course c p (i ∷ items) h = ne_eqb (length (i ∷ items)) 0 (λ n. omega (arith, n))

-- ---- the peers that were lost, and what changes as the core opens

both_false : (b : Bool) → (if b then false else false) ≡ false
both_false true = refl
both_false false = refl

or_parts : (a b : Bool) → (a || b) ≡ false → (a ≡ false) × (b ≡ false)
or_parts true b h = absurd (true≢false h)
or_parts false b h = (refl, h)

-- a Bad makes nobody good
pub bads_false : (lost : List (ℕ × ℕ)) (m p : ℕ) → good_from false (map (λ peer. item.Bad peer.0 peer.1) lost) m p ≡ false
bads_false [] m p = refl
bads_false (x ∷ lost) m p = ap (λ y. good_from y (map (λ peer. item.Bad peer.0 peer.1) lost) m p) (both_false (x.0 == p && nat_lt x.1 m)) ∙ bads_false lost m p

-- nor does it make bad who is none of them
pub bads_other : (lost : List (ℕ × ℕ)) (m p : ℕ) (x : Bool) → list_any (λ (l : ℕ × ℕ). l.0 == p) lost ≡ false → good_from x (map (λ peer. item.Bad peer.0 peer.1) lost) m p ≡ x
bads_other [] m p x none = refl
bads_other (l ∷ lost) m p x none =
    let both : ((l.0 == p) ≡ false) × (list_any (λ (y : ℕ × ℕ). y.0 == p) lost ≡ false) = or_parts (l.0 == p) (list_any (λ (y : ℕ × ℕ). y.0 == p) lost) none in
    ap (λ y. good_from y (map (λ peer. item.Bad peer.0 peer.1) lost) m p) (ap (λ b. if b then false else x) (and_left (l.0 == p) (nat_lt l.1 m) both.0))
    ∙ bads_other lost m p x both.1

-- of no shard anything took effect by it
pub bads_took : (lost : List (ℕ × ℕ)) (m g x : ℕ) → taken_from x (map (λ peer. item.Bad peer.0 peer.1) lost) m g ≡ x
bads_took [] m g x = refl
bads_took (l ∷ lost) m g x = bads_took lost m g x

module _ (was is : ℕ → Bool) (moment m p : ℕ) where
  pub change_other : (q : ℕ) (a b x : Bool) → (q ≡ p → ⊥) → good_from x (change_item a b q moment) m p ≡ x
  change_other q true true x differs = refl
  change_other q true false x differs = ap (λ b. if b then false else x) (and_left (q == p) (nat_lt moment m) (ne_eqb q p differs))
  change_other q false true x differs = ap (λ b. if b then true else x) (and_left (q == p) (nat_lt moment m) (ne_eqb q p differs))
  change_other q false false x differs = refl

  change_none : (a x : Bool) → good_from x (change_item a a p moment) m p ≡ x
  change_none true x = refl
  change_none false x = refl

  change_one : (q : ℕ) (x : Bool) → was p ≡ is p → (q ≡ p) ⊎ (q ≡ p → ⊥) → good_from x (change_item (was q) (is q) q moment) m p ≡ x
  change_one q x same (inl here) = ap (λ k. good_from x (change_item (was k) (is k) k moment) m p) here ∙ ap (λ b. good_from x (change_item (was p) b p moment) m p) (sym same) ∙ change_none (was p) x
  change_one q x same (inr differs) = change_other q (was q) (is q) x differs

  -- a peer that does not change is as before
  pub changes_good : (peers : List ℕ) (x : Bool) → was p ≡ is p → good_from x (flat_map (λ peer. change_item (was peer) (is peer) peer moment) peers) m p ≡ x
  changes_good [] x same = refl
  changes_good (q ∷ peers) x same =
      good-append x (change_item (was q) (is q) q moment) (flat_map (λ peer. change_item (was peer) (is peer) peer moment) peers) m p
      ∙ ap (λ y. good_from y (flat_map (λ peer. change_item (was peer) (is peer) peer moment) peers) m p) (change_one q x same (cases_eq q p))
      ∙ changes_good peers x same

  change_took : (q x : ℕ) (a b : Bool) → taken_from x (change_item a b q moment) m p ≡ x
  change_took q x true true = refl
  change_took q x true false = refl
  change_took q x false true = refl
  change_took q x false false = refl

  pub changes_took : (peers : List ℕ) (x : ℕ) → taken_from x (flat_map (λ peer. change_item (was peer) (is peer) peer moment) peers) m p ≡ x
  changes_took [] x = refl
  changes_took (q ∷ peers) x =
      taken-append x (change_item (was q) (is q) q moment) (flat_map (λ peer. change_item (was peer) (is peer) peer moment) peers) m p
      ∙ ap (λ y. taken_from y (flat_map (λ peer. change_item (was peer) (is peer) peer moment) peers) m p) (change_took q x (was q) (is q))
      ∙ changes_took peers x

-- ---- items that are left out

-- nobody is good without a Good
pub none_good : (m p : ℕ) (items : List CourseItem) → list_any (is_good_of p) items ≡ false → good_from false items m p ≡ false
none_good m p [] none = refl
none_good m p (item.Good q k ∷ items) none =
    let both : ((q == p) ≡ false) × (list_any (is_good_of p) items ≡ false) = or_parts (q == p) (list_any (is_good_of p) items) none in
    ap (λ b. good_from (if b then true else false) items m p) (and_left (q == p) (nat_lt k m) both.0) ∙ none_good m p items both.1
none_good m p (item.Bad q k ∷ items) none = ap (λ y. good_from y items m p) (both_false (q == p && nat_lt k m)) ∙ none_good m p items none
none_good m p (item.Begun line k ∷ items) none = none_good m p items none
none_good m p (item.Took shard number k ∷ items) none = none_good m p items none

-- among the first items there is none of a peer without a log
pub pairs_none : (there : ℕ → Bool) (number : ℕ → ℕ) (moment p k n : ℕ) → there p ≡ false → list_any (is_good_of p) (pairs there number moment k n) ≡ false
pairs_none there number moment p k zero lacks = refl
pairs_none there number moment p k (suc n) lacks = go (pairs_none there number moment p (k + 1) n lacks) (there k) refl
  where
    go : list_any (is_good_of p) (pairs there number moment (k + 1) n) ≡ false → (b : Bool) → there k ≡ b → list_any (is_good_of p) (pair b k (number k) moment ++ pairs there number moment (k + 1) n) ≡ false
    go rest true e =
        let other : (k == p) ≡ false = ne_eqb k p (λ same. true≢false (sym e ∙ ap there same ∙ lacks)) in
        ap (λ b. b || list_any (is_good_of p) (pairs there number moment (k + 1) n)) other ∙ rest
    go rest false e = rest

pub filter_none : (still : CourseItem → Bool) (p : ℕ) (items : List CourseItem) → list_any (is_good_of p) items ≡ false → list_any (is_good_of p) (filter still items) ≡ false
filter_none still p [] none = refl
filter_none still p (i ∷ items) none =
    let both : (is_good_of p i ≡ false) × (list_any (is_good_of p) items ≡ false) = or_parts (is_good_of p i) (list_any (is_good_of p) items) none in
    go both.0 (filter_none still p items both.1) (still i)
  where
    go : is_good_of p i ≡ false → list_any (is_good_of p) (filter still items) ≡ false → (b : Bool) → list_any (is_good_of p) (if b then i ∷ filter still items else filter still items) ≡ false
    go own rest true = ap (λ b. b || list_any (is_good_of p) (filter still items)) own ∙ rest
    go own rest false = rest

-- where each Took stays, as much took effect by the rest
skip_took : (still : CourseItem → Bool) (m g x : ℕ) (i : CourseItem) (items : List CourseItem) → taken_after x m g i ≡ x → taken_from x (filter still items) m g ≡ taken_from x items m g
    → (b : Bool) → taken_from x (if b then i ∷ filter still items else filter still items) m g ≡ taken_from x (i ∷ items) m g
skip_took still m g x i items same rest true = ap (λ y. taken_from y (filter still items) m g) same ∙ rest ∙ ap (λ y. taken_from y items m g) (sym same)
skip_took still m g x i items same rest false = rest ∙ ap (λ y. taken_from y items m g) (sym same)

pub filter_took : (still : CourseItem → Bool) (m g : ℕ) → ((shard number k : ℕ) → still (item.Took shard number k) ≡ true) → (items : List CourseItem) (x : ℕ) → taken_from x (filter still items) m g ≡ taken_from x items m g
filter_took still m g stays [] x = refl
filter_took still m g stays (item.Good q k ∷ items) x = skip_took still m g x (item.Good q k) items refl (filter_took still m g stays items x) (still (item.Good q k))
filter_took still m g stays (item.Bad q k ∷ items) x = skip_took still m g x (item.Bad q k) items refl (filter_took still m g stays items x) (still (item.Bad q k))
filter_took still m g stays (item.Begun line k ∷ items) x = skip_took still m g x (item.Begun line k) items refl (filter_took still m g stays items x) (still (item.Begun line k))
filter_took still m g stays (item.Took shard number k ∷ items) x =
    ap (λ b. taken_from x (if b then item.Took shard number k ∷ filter still items else filter still items) m g) (stays shard number k)
    ∙ filter_took still m g stays items (taken_after x m g (item.Took shard number k))

-- ---- no line is begun by the first items

abbrev pub BeginsNone : CourseItem → Type 0
BeginsNone (item.Good peer k) = Unit {0}
BeginsNone (item.Bad peer k) = Unit {0}
BeginsNone (item.Begun line k) = ⊥
BeginsNone (item.Took shard number k) = Unit {0}

pub pairs_begin_none : (there : ℕ → Bool) (number : ℕ → ℕ) (moment k n : ℕ) → AllByRecursion BeginsNone (pairs there number moment k n)
pairs_begin_none there number moment k zero = tt
pairs_begin_none there number moment k (suc n) = go (pairs_begin_none there number moment (k + 1) n) (there k)
  where
    go : AllByRecursion BeginsNone (pairs there number moment (k + 1) n) → (b : Bool) → AllByRecursion BeginsNone (pair b k (number k) moment ++ pairs there number moment (k + 1) n)
    go rest true = (tt, (tt, rest))
    go rest false = rest

pub none_begun : (items : List CourseItem) (line moment : ℕ) → AllByRecursion BeginsNone items → IsBegun items line moment → ⊥
none_begun items line moment none begun = All-contains BeginsNone items (item.Begun line begun.at) (All-from_recursion BeginsNone items none) begun.begun
