-- The course of a run whose core goes on begins with a Good and a Took for each shard, with any number of copies: whose Good stands there, and whose below a moment.
use Rattle.std.proofs.Common.{◌≡◌, ◌∙◌, inl, inr, ap, ℕ, zero, suc, ◌+◌, ◌<◌, ◌≤◌, ◌==◌, ◌&&◌, ◌||◌, Bool, true, false, List, [], ◌∷◌, ◌++◌, Option, Some, None, refl, length, map, take, nat_lt, arith}
use Rattle.std.proofs.lemmas.Bool.{cases_eq, eq-eqb, ne_eqb}
use Rattle.std.proofs.lemmas.Bool.Decides.{nat_tests}
use Rattle.std.specs.List.{AllByRecursion, list_any, range_with_len}
use Rattle.std.specs.Option.{option_map_or}
use Rattle.std.specs.Prelude.{flat_map, if◌then◌else◌}
use Rattle.hs_clauses.proofs.CourseLemmas.{items_for}
use Rattle.hs_core_words.specs.Calls.{begun_line}
use Rattle.hs_core_words.specs.Looking.{front_of, shape_of, shards_of, status_of}
use Rattle.hs_core_words.specs.State.{Core}
use Rattle.hs_core_words.specs.Step.{step}
use Rattle.hs_core_words.specs.declared.event.Event.{Event}
use Rattle.hs_entry.specs.Entries.{rank_of}
use Rattle.hs_events.specs.Course.{change_item, event_items, is_refused, items_between, items_of, took_items}
use Rattle.hs_events.specs.Due.{Events, MomentsRise}
use Rattle.hs_events.specs.Taken.{taken_items, taken_list, taken_peer}
use Rattle.hs_fold.specs.Shards.Course.{is_good_below, is_good_of}
use Rattle.hs_fold.specs.Shards.Setting.{Numbered}
use Rattle.hs_limits.specs.declared.shape.Shape.{Shape}
use Rattle.hs_members.specs.Members.{all_peers, is_good_status}
use Rattle.hs_model.specs.declared.course.CourseItem.{CourseItem}
use Rattle.hs_model.specs.declared.course.CourseItem.TheVariants as item
use Rattle.hs_standing.proofs.AllLemmas.{all_append}

-- ---- the items of the taken logs

-- a Good and a Took of each of so many shards, from one on
abbrev pub rows : (ℕ → ℕ) → (ℕ → ℕ) → ℕ → ℕ → ℕ → List CourseItem
rows peer number moment k zero = []
rows peer number moment k (suc n) = item.Good (peer k) moment ∷ item.Took k (number k) moment ∷ rows peer number moment (k + 1) n

module _ (shape : Shape) (logs : List (Option Numbered)) (moment : ℕ) (peer : ℕ → ℕ) where
  abbrev pub number_of : ℕ → ℕ
  number_of k = (rank_of (taken_list shape logs k)).number

  rows_are : (k n : ℕ) → ((j : ℕ) → k ≤ j → j < k + n → taken_peer shape logs j ≡ Some (peer j)) → flat_map (λ s. items_for shape logs moment s (taken_peer shape logs s)) (range_with_len k n) ≡ rows peer (λ j. number_of j) moment k n
  rows_are k zero h = refl
  rows_are k (suc n) h =
      ap (λ (o : Option ℕ). items_for shape logs moment k o ++ flat_map (λ s. items_for shape logs moment s (taken_peer shape logs s)) (range_with_len (k + 1) n)) (h k (omega arith) (omega arith))
      ∙ ap (λ (ys : List CourseItem). item.Good (peer k) moment ∷ item.Took k (number_of k) moment ∷ ys) (rows_are (k + 1) n (λ j low high. h j (omega (arith, low)) (omega (arith, high))))

  pub taken_rows : ((j : ℕ) → j < shape.shards → taken_peer shape logs j ≡ Some (peer j)) → taken_items shape logs moment ≡ rows peer (λ j. number_of j) moment 0 shape.shards
  taken_rows h = rows_are 0 shape.shards (λ j low high. h j (omega (arith, high)))

module _ (peer number : ℕ → ℕ) (moment : ℕ) where
  pub rows_long : (k n : ℕ) → length (rows peer number moment k n) ≡ n + n
  rows_long k zero = refl
  rows_long k (suc n) = let rest = rows_long (k + 1) n in omega (arith, rest)

  front_is : (xs ys : List CourseItem) (c : ℕ) → length xs ≡ c → take c (xs ++ ys) ≡ xs
  front_is [] ys zero e = refl
  front_is [] ys (suc c) e = absurd (omega (arith, e))
  front_is (x ∷ xs) ys zero e = absurd (omega (arith, e))
  front_is (x ∷ xs) ys (suc c) e = ap (λ (zs : List CourseItem). x ∷ zs) (front_is xs ys c (omega (arith, e)))

  -- they begin a course
  pub rows_begin : (n : ℕ) (rest : List CourseItem) → take (n + n) (rows peer number moment 0 n ++ rest) ≡ rows peer number moment 0 n
  rows_begin n rest = front_is (rows peer number moment 0 n) rest (n + n) (rows_long 0 n)

  -- whose Good stands there
  pub rows_good : (p k n j : ℕ) → k ≤ j → j < k + n → peer j ≡ p → list_any (is_good_of p) (rows peer number moment k n) ≡ true
  rows_good p k zero j low high is = absurd (omega (arith, low, high))
  rows_good p k (suc n) j low high is = elim (cases_eq k j) [
    | inl here ↦ ap (λ b. b || (false || list_any (is_good_of p) (rows peer number moment (k + 1) n))) (eq-eqb (peer k) p (ap peer here ∙ is))
    | inr other ↦ or_right (peer k == p) (rows_good p (k + 1) n j (omega (arith, low, other)) (omega (arith, high)) is)
  ]
    where
      or_right : (b : Bool) → list_any (is_good_of p) (rows peer number moment (k + 1) n) ≡ true → (b || (false || list_any (is_good_of p) (rows peer number moment (k + 1) n))) ≡ true
      or_right true e = refl
      or_right false e = e

  -- and whose doesn't
  pub rows_other : (p k n : ℕ) → ((j : ℕ) → k ≤ j → j < k + n → peer j ≡ p → ⊥) → AllByRecursion (λ i. is_good_of p i ≡ false) (rows peer number moment k n)
  rows_other p k zero h = tt
  rows_other p k (suc n) h = (ne_eqb (peer k) p (h k (omega arith) (omega arith)), (refl, rows_other p (k + 1) n (λ j low high. h j (omega (arith, low)) (omega (arith, high)))))

-- ---- a Good below a moment

pub none_of : {X : Type 0} (p : X → Bool) (xs : List X) → AllByRecursion (λ x. p x ≡ false) xs → list_any p xs ≡ false
none_of p [] h = refl
none_of p (x ∷ xs) h = ap (λ b. b || list_any p xs) h.0 ∙ none_of p xs h.1

not_below : (m p : ℕ) (i : CourseItem) → is_good_of p i ≡ false → is_good_below m p i ≡ false
not_below m p (item.Good q at) none = ap (λ b. b && nat_lt at m) none
not_below m p (item.Bad q at) none = refl
not_below m p (item.Begun line at) none = refl
not_below m p (item.Took shard number at) none = refl

pub others_below : (m p : ℕ) (items : List CourseItem) → AllByRecursion (λ i. is_good_of p i ≡ false) items → AllByRecursion (λ i. is_good_below m p i ≡ false) items
others_below m p [] h = tt
others_below m p (i ∷ items) h = (not_below m p i h.0, others_below m p items h.1)

-- a Bad is none
pub bads_others : (p : ℕ) (lost : List (ℕ × ℕ)) → AllByRecursion (λ i. is_good_of p i ≡ false) (map (λ (l : ℕ × ℕ). item.Bad l.0 l.1) lost)
bads_others p [] = tt
bads_others p (l ∷ lost) = (refl, bads_others p lost)

pub all_flat : (P : CourseItem → Type 0) (f : ℕ → List CourseItem) (ks : List ℕ) → ((k : ℕ) → AllByRecursion P (f k)) → AllByRecursion P (flat_map f ks)
all_flat P f [] h = tt
all_flat P f (k ∷ ks) h = all_append P (f k) (flat_map f ks) (h k) (all_flat P f ks h)

-- what changes as the core opens
pub change_others : (p q at : ℕ) (taken good : Bool) → (q ≡ p → good ≡ true → ⊥) → AllByRecursion (λ i. is_good_of p i ≡ false) (change_item taken (taken || good) q at)
change_others p q at true good h = tt
change_others p q at false true h = (ne_eqb q p (λ same. h same refl), tt)
change_others p q at false false h = tt

-- ---- of events from a moment on none is below it

module _ (m p : ℕ) where
  late_good : (q at : ℕ) → m ≤ at → (q == p && nat_lt at m) ≡ false
  late_good q at up = grind (arith, nat_tests, up)

  pub late_change : (q at : ℕ) (a b : Bool) → m ≤ at → AllByRecursion (λ i. is_good_below m p i ≡ false) (change_item a b q at)
  late_change q at true true up = tt
  late_change q at true false up = (refl, tt)
  late_change q at false true up = (late_good q at up, tt)
  late_change q at false false up = tt

  late_took : (shard before after at : ℕ) → AllByRecursion (λ i. is_good_below m p i ≡ false) (took_items shard before after at)
  late_took shard before after at = go (nat_lt before after)
    where
      go : (b : Bool) → AllByRecursion (λ i. is_good_below m p i ≡ false) (if b then item.Took shard after at ∷ [] else [])
      go true = (refl, tt)
      go false = tt

  late_begun : (line : Option ℕ) (at : ℕ) → AllByRecursion (λ i. is_good_below m p i ≡ false) (option_map_or (λ l. item.Begun l at ∷ []) line [])
  late_begun None at = tt
  late_begun (Some l) at = (refl, tt)

  late_event : (c : Core) (e : Event × ℕ) → m ≤ e.1 → AllByRecursion (λ i. is_good_below m p i ≡ false) (event_items c e)
  late_event c e up = go (is_refused (step e.0 e.1 c).ended)
    where
      after : Core
      after = step e.0 e.1 c

      go : (b : Bool) → AllByRecursion (λ i. is_good_below m p i ≡ false) (if b then [] else items_between (begun_line e.0) c (step e.0 e.1 c) e.1)
      go true = tt
      go false =
          all_append (λ i. is_good_below m p i ≡ false) (option_map_or (λ l. item.Begun l e.1 ∷ []) (begun_line e.0) []) _ (late_begun (begun_line e.0) e.1)
          (all_append (λ i. is_good_below m p i ≡ false) (flat_map (λ q. change_item (is_good_status (status_of q c)) (is_good_status (status_of q after)) q e.1) (all_peers (shape_of c))) _
          (all_flat (λ i. is_good_below m p i ≡ false) (λ q. change_item (is_good_status (status_of q c)) (is_good_status (status_of q after)) q e.1) (all_peers (shape_of c))
          (λ q. late_change q e.1 (is_good_status (status_of q c)) (is_good_status (status_of q after)) up))
          (all_flat (λ i. is_good_below m p i ≡ false) (λ g. took_items g (front_of g c) (front_of g after) e.1) (shards_of c) (λ g. late_took g (front_of g c) (front_of g after) e.1)))

  pub late_items : (from to : ℕ) (c : Core) (es : Events) → m ≤ from → MomentsRise from es to → AllByRecursion (λ i. is_good_below m p i ≡ false) (items_of c es)
  late_items from to c [] low rise = tt
  late_items from to c (e ∷ es) low rise =
      let up = rise.0 in
      all_append (λ i. is_good_below m p i ≡ false) (event_items c e) (items_of (step e.0 e.1 c) es) (late_event c e (omega (arith, low, up)))
      (late_items e.1 to (step e.0 e.1 c) es (omega (arith, low, up)) rise.1)
