-- What the items with which a course begins tell of a peer that is good as the core opens: its Good, and no Bad; and that lines are begun behind them.
use Rattle.std.proofs.Common.{◌≡◌, ◌≢◌, ◌⊎◌, inl, inr, ◌∙◌, ap, sym, ℕ, zero, suc, ◌+◌, ◌*◌, ◌<◌, ◌≤◌, ◌==◌, ◌&&◌, ◌||◌, ◌++◌, Bool, true, false, List, [], ◌∷◌, Option, Some, None, refl, arith, map, nat_lt}
use Rattle.std.proofs.lemmas.Bool.{cases_eq, eq-eqb, ne_eqb}
use Rattle.std.proofs.lemmas.Bool.Decides.{nat_tests}
use Rattle.std.proofs.lemmas.List.Elements.{All-contains, All-from_recursion, recursion_from_All}
use Rattle.std.proofs.Math.Bool.{and-false}
use Rattle.std.specs.List.{AllByRecursion, list_any, range_with_len}
use Rattle.std.specs.Option.{option_map_or}
use Rattle.std.specs.Prelude.{flat_map, if◌then◌else◌}
use Rattle.hs_settled.proofs.CausesListLemmas.{flat_all, not_both, range_all}
use Rattle.hs_settled.proofs.CourseLemmas.{any_left, any_right, which_peer}
use Rattle.hs_settled.proofs.NotingLemmas.{all_append}
use Rattle.hs_core_words.specs.Calls.{begun_line}
use Rattle.hs_core_words.specs.declared.event.Event.{Event}
use Rattle.hs_core_words.specs.Looking.{front_of, shape_of, shards_of, status_of}
use Rattle.hs_core_words.specs.State.{Core}
use Rattle.hs_core_words.specs.Step.{step}
use Rattle.hs_events.specs.Beginning.{first_items}
use Rattle.hs_events.specs.Course.{change_item, event_items, is_refused, items_between, items_of, took_items}
use Rattle.hs_events.specs.Due.{Events, MomentsRise}
use Rattle.hs_events.specs.Found.{Found, starts_good}
use Rattle.hs_events.specs.Taken.{is_taken, taken_items, taken_peer}
use Rattle.hs_fold.specs.Good.{IsBegun, good_from}
use Rattle.hs_fold.specs.Shards.Course.{is_good_below}
use Rattle.hs_limits.specs.declared.shape.Shape.{Shape}
use Rattle.hs_members.specs.Members.{all_peers, home_of, is_good_status}
use Rattle.hs_model.specs.declared.course.CourseItem.{CourseItem}
use Rattle.hs_model.specs.declared.course.CourseItem.TheVariants as item
use Rattle.hs_promise.specs.Found.{HasFound, IsLostBefore}
use Rattle.hs_promise.specs.Run.{Ran, Script}
use Rattle.hs_promise.specs.Story.{Story}

-- ---- a Good below a moment, and no Bad

abbrev is_bad_of : ℕ → CourseItem → Bool
is_bad_of peer (item.Good p m) = false
is_bad_of peer (item.Bad p m) = p == peer
is_bad_of peer (item.Begun line m) = false
is_bad_of peer (item.Took shard number m) = false

abbrev NotBad : ℕ → CourseItem → Type 0
NotBad peer i = is_bad_of peer i ≡ false

good_kept : (items : List CourseItem) (m p : ℕ) → AllByRecursion (NotBad p) items → good_from true items m p ≡ true
good_kept [] m p h = refl
good_kept (item.Good q at ∷ items) m p h = ap (λ b. good_from b items m p) (either (q == p && nat_lt at m)) ∙ good_kept items m p h.1
  where
    either : (b : Bool) → (if b then true else true) ≡ true
    either true = refl
    either false = refl
good_kept (item.Bad q at ∷ items) m p h = ap (λ t. good_from (if t && nat_lt at m then false else true) items m p) h.0 ∙ good_kept items m p h.1
good_kept (item.Begun line at ∷ items) m p h = good_kept items m p h.1
good_kept (item.Took shard number at ∷ items) m p h = good_kept items m p h.1

good_there : (good : Bool) (items : List CourseItem) (m p : ℕ) → AllByRecursion (NotBad p) items → list_any (is_good_below m p) items ≡ true → good_from good items m p ≡ true
good_there good [] m p h e = absurd (cc e)
good_there good (item.Good q at ∷ items) m p h e = go (λ k. good_there good items m p h.1 k) (q == p && nat_lt at m) e
  where
    go : (list_any (is_good_below m p) items ≡ true → good_from good items m p ≡ true) → (t : Bool) → (t || list_any (is_good_below m p) items) ≡ true → good_from (if t then true else good) items m p ≡ true
    go ih true k = good_kept items m p h.1
    go ih false k = ih k
good_there good (item.Bad q at ∷ items) m p h e = ap (λ t. good_from (if t && nat_lt at m then false else good) items m p) h.0 ∙ good_there good items m p h.1 e
good_there good (item.Begun line at ∷ items) m p h e = good_there good items m p h.1 e
good_there good (item.Took shard number at ∷ items) m p h e = good_there good items m p h.1 e

-- ---- pieces

any_flat : (q : CourseItem → Bool) (f : ℕ → List CourseItem) (n from g : ℕ) → from ≤ g → g < from + n → list_any q (f g) ≡ true → list_any q (flat_map f (range_with_len from n)) ≡ true
any_flat q f zero from g low high e = absurd (omega (arith, low, high))
any_flat q f (suc n) from g low high e = by_place (λ apart. any_flat q f n (from + 1) g apart (omega (arith, high)) e) (cases_eq g from)
  where
    by_place : (from + 1 ≤ g → list_any q (flat_map f (range_with_len (from + 1) n)) ≡ true) → (g ≡ from) ⊎ (g ≢ from) → list_any q (f from ++ flat_map f (range_with_len (from + 1) n)) ≡ true
    by_place ih (inl same) = any_left q (f from) (flat_map f (range_with_len (from + 1) n)) (ap (λ k. list_any q (f k)) (sym same) ∙ e)
    by_place ih (inr apart) = any_right q (f from) (flat_map f (range_with_len (from + 1) n)) (ih (omega (arith, low, apart)))

-- ---- the items behind those of the taken logs

abbrev changes : Shape → Found → List CourseItem
changes shape found = flat_map (λ peer. change_item (is_taken shape found.logs peer) (is_taken shape found.logs peer || starts_good found peer) peer found.opened) (all_peers shape)

abbrev lost_items : Found → List CourseItem
lost_items found = map (λ (peer : ℕ × ℕ). item.Bad peer.0 peer.1) found.lost

-- ---- the taken logs

taken_not_bad : (shape : Shape) (found : Found) (entry p : ℕ) → AllByRecursion (NotBad p) (taken_items shape found.logs entry)
taken_not_bad shape found entry p =
    flat_all (NotBad p) _ (range_with_len 0 shape.shards) (range_all _ shape.shards 0 (λ shard from to.
    elim (which_peer (taken_peer shape found.logs shard)) [
      | inl nobody ↦ rw nobody tt
      | inr taken ↦ rw taken.1 (refl, (refl, tt))
    ]))

taken_there : (shape : Shape) (found : Found) (entry m p g : ℕ) → g < shape.shards → taken_peer shape found.logs g ≡ Some p → entry < m → list_any (is_good_below m p) (taken_items shape found.logs entry) ≡ true
taken_there shape found entry m p g low is below =
    any_flat (is_good_below m p) _ shape.shards 0 g (omega arith) (omega (arith, low))
    (rw is (ap (λ b. (b && nat_lt entry m) || false) (eq-eqb p p refl) ∙ ap (λ b. b || false) early))
  where
    early : nat_lt entry m ≡ true
    early = grind (arith, nat_tests, below)

-- ---- the others

change_not_bad : (t g : Bool) (p x at : ℕ) → AllByRecursion (NotBad p) (change_item t (t || g) x at)
change_not_bad true g p x at = tt
change_not_bad false true p x at = (refl, tt)
change_not_bad false false p x at = tt

changes_not_bad : (shape : Shape) (found : Found) (p : ℕ) → AllByRecursion (NotBad p) (changes shape found)
changes_not_bad shape found p =
    flat_all (NotBad p) (λ x. change_item (is_taken shape found.logs x) (is_taken shape found.logs x || starts_good found x) x found.opened) (all_peers shape)
    (range_all (λ x. AllByRecursion (NotBad p) (change_item (is_taken shape found.logs x) (is_taken shape found.logs x || starts_good found x) x found.opened)) (shape.shards * shape.copies) 0
    (λ x from to. change_not_bad (is_taken shape found.logs x) (starts_good found x) p x found.opened))

changes_there : (shape : Shape) (found : Found) (q : CourseItem → Bool) (p : ℕ) → p < shape.shards * shape.copies → is_taken shape found.logs p ≡ false → starts_good found p ≡ true → q (item.Good p found.opened) ≡ true
    → list_any q (changes shape found) ≡ true
changes_there shape found q p low untaken good is =
    any_flat q (λ x. change_item (is_taken shape found.logs x) (is_taken shape found.logs x || starts_good found x) x found.opened) (shape.shards * shape.copies) 0 p (omega arith) (omega (arith, low))
    (ap (λ b. list_any q (change_item b (b || starts_good found p) p found.opened)) untaken ∙ ap (λ b. list_any q (change_item false b p found.opened)) good ∙ ap (λ b. b || false) is)

taken_is : (o : Option ℕ) (q : ℕ) → option_map_or (λ p. p == q) o false ≡ true → o ≡ Some q
taken_is None q e = absurd (cc e)
taken_is (Some p) q e = go (cases_eq p q)
  where
    go : (p ≡ q) ⊎ (p ≢ q) → Some p ≡ Some q
    go (inl same) = ap (λ k. Some k) same
    go (inr apart) = absurd (not_both (sym e ∙ ne_eqb p q apart))

-- ---- a peer that is good as the core opens

module _ (S : Script) (r : Ran) (story : Story) (found : HasFound S r story) (p : ℕ) (low : p < S.set.shape.shards * S.set.shape.copies) (home : home_of S.set.shape p < S.set.shape.shards) (good : starts_good story.found p ≡ true) where
  lost_not_bad : (lost : List (ℕ × ℕ)) → AllByRecursion (IsLostBefore S r story) lost → AllByRecursion (NotBad p) (map (λ (peer : ℕ × ℕ). item.Bad peer.0 peer.1) lost)
  lost_not_bad [] h = tt
  lost_not_bad (l ∷ lost) h = (ne_eqb l.0 p (λ same. not_both (sym good ∙ ap (λ q. starts_good story.found q) (sym same) ∙ h.0.bad)), lost_not_bad lost h.1)

  first_not_bad : AllByRecursion (NotBad p) (first_items S.set.shape story.found r.old.moment)
  first_not_bad =
      all_append (NotBad p) (taken_items S.set.shape story.found.logs r.old.moment) (lost_items story.found ++ changes S.set.shape story.found) (taken_not_bad S.set.shape story.found r.old.moment p)
      (all_append (NotBad p) (lost_items story.found) (changes S.set.shape story.found) (lost_not_bad story.found.lost (recursion_from_All (IsLostBefore S r story) story.found.lost found.lost))
      (changes_not_bad S.set.shape story.found p))

  -- it is good below a moment where its Good is
  pub first_good_there : (m : ℕ) → list_any (is_good_below m p) (first_items S.set.shape story.found r.old.moment) ≡ true → good_from false (first_items S.set.shape story.found r.old.moment) m p ≡ true
  first_good_there m there = good_there false (first_items S.set.shape story.found r.old.moment) m p first_not_bad there

  -- from entry on where its log was the taken one
  pub taken_good : (m : ℕ) → is_taken S.set.shape story.found.logs p ≡ true → r.old.moment < m → good_from false (first_items S.set.shape story.found r.old.moment) m p ≡ true
  taken_good m taken below = first_good_there m
      (any_left (is_good_below m p) (taken_items S.set.shape story.found.logs r.old.moment) (lost_items story.found ++ changes S.set.shape story.found)
      (taken_there S.set.shape story.found r.old.moment m p (home_of S.set.shape p) home (taken_is (taken_peer S.set.shape story.found.logs (home_of S.set.shape p)) p taken) below))

  -- and from the opening of the core on wherever
  pub opened_good_from : (m : ℕ) → story.found.opened < m → good_from false (first_items S.set.shape story.found r.old.moment) m p ≡ true
  opened_good_from m later = go (is_taken S.set.shape story.found.logs p) refl
    where
      early : nat_lt story.found.opened m ≡ true
      early = grind (arith, nat_tests, later)

      go : (b : Bool) → is_taken S.set.shape story.found.logs p ≡ b → good_from false (first_items S.set.shape story.found r.old.moment) m p ≡ true
      go true taken = taken_good m taken (let up = found.later in omega (arith, up, later))
      go false untaken = first_good_there m
          (any_right (is_good_below m p) (taken_items S.set.shape story.found.logs r.old.moment) (lost_items story.found ++ changes S.set.shape story.found)
          (any_right (is_good_below m p) (lost_items story.found) (changes S.set.shape story.found)
          (changes_there S.set.shape story.found (is_good_below m p) p low untaken good (ap (λ b. b && nat_lt story.found.opened m) (eq-eqb p p refl) ∙ early))))

-- ---- items of events

-- no Good of events from a moment on is below it
change_late : (m p x at : ℕ) (t g : Bool) → nat_lt at m ≡ false → AllByRecursion (λ i. is_good_below m p i ≡ false) (change_item t g x at)
change_late m p x at true true late = tt
change_late m p x at true false late = (refl, tt)
change_late m p x at false true late = (ap (λ b. (x == p) && b) late ∙ and-false (x == p), tt)
change_late m p x at false false late = tt

took_late : (m p shard before after at : ℕ) → AllByRecursion (λ i. is_good_below m p i ≡ false) (took_items shard before after at)
took_late m p shard before after at = go (nat_lt before after)
  where
    go : (b : Bool) → AllByRecursion (λ i. is_good_below m p i ≡ false) (if b then item.Took shard after at ∷ [] else [])
    go true = (refl, tt)
    go false = tt

begun_late : (m p at : ℕ) (o : Option ℕ) → AllByRecursion (λ i. is_good_below m p i ≡ false) (option_map_or (λ line. item.Begun line at ∷ []) o [])
begun_late m p at None = tt
begun_late m p at (Some line) = (refl, tt)

event_late : (m p : ℕ) (c : Core) (e : Event × ℕ) → m ≤ e.1 → AllByRecursion (λ i. is_good_below m p i ≡ false) (event_items c e)
event_late m p c e low = go (is_refused (step e.0 e.1 c).ended)
  where
    late : nat_lt e.1 m ≡ false
    late = grind (arith, nat_tests, low)

    after : Core
    after = step e.0 e.1 c

    between : AllByRecursion (λ i. is_good_below m p i ≡ false) (items_between (begun_line e.0) c (step e.0 e.1 c) e.1)
    between =
        all_append (λ i. is_good_below m p i ≡ false) (option_map_or (λ line. item.Begun line e.1 ∷ []) (begun_line e.0) []) _ (begun_late m p e.1 (begun_line e.0))
        (all_append (λ i. is_good_below m p i ≡ false) (flat_map (λ peer. change_item (is_good_status (status_of peer c)) (is_good_status (status_of peer (step e.0 e.1 c))) peer e.1) (all_peers (shape_of c))) _
        (flat_all (λ i. is_good_below m p i ≡ false) (λ peer. change_item (is_good_status (status_of peer c)) (is_good_status (status_of peer (step e.0 e.1 c))) peer e.1) (all_peers (shape_of c))
        (range_all (λ peer. AllByRecursion (λ i. is_good_below m p i ≡ false) (change_item (is_good_status (status_of peer c)) (is_good_status (status_of peer (step e.0 e.1 c))) peer e.1)) ((shape_of c).shards * (shape_of c).copies) 0
        (λ peer from to. change_late m p peer e.1 (is_good_status (status_of peer c)) (is_good_status (status_of peer (step e.0 e.1 c))) late)))
        (flat_all (λ i. is_good_below m p i ≡ false) (λ shard. took_items shard (front_of shard c) (front_of shard (step e.0 e.1 c)) e.1) (shards_of c)
        (range_all (λ shard. AllByRecursion (λ i. is_good_below m p i ≡ false) (took_items shard (front_of shard c) (front_of shard (step e.0 e.1 c)) e.1)) (shape_of c).shards 0
        (λ shard from to. took_late m p shard (front_of shard c) (front_of shard (step e.0 e.1 c)) e.1))))

    go : (b : Bool) → AllByRecursion (λ i. is_good_below m p i ≡ false) (if b then [] else items_between (begun_line e.0) c (step e.0 e.1 c) e.1)
    go true = tt
    go false = between

pub none_below_of : (m p from to : ℕ) (c : Core) (es : Events) → MomentsRise from es to → m ≤ from → AllByRecursion (λ i. is_good_below m p i ≡ false) (items_of c es)
none_below_of m p from to c [] rises low = tt
none_below_of m p from to c (e ∷ es) rises low =
    let up : from ≤ e.1 = rises.0 in
    all_append (λ i. is_good_below m p i ≡ false) (event_items c e) (items_of (step e.0 e.1 c) es) (event_late m p c e (omega (arith, up, low)))
    (none_below_of m p e.1 to (step e.0 e.1 c) es rises.1 (omega (arith, up, low)))

-- ---- a client's line

-- an item tells of no line that was begun before a moment
abbrev BegunFrom : ℕ → CourseItem → Type 0
BegunFrom from (item.Good p at) = Unit {0}
BegunFrom from (item.Bad p at) = Unit {0}
BegunFrom from (item.Begun line at) = from ≤ at
BegunFrom from (item.Took shard number at) = Unit {0}

change_from : (from p at : ℕ) (t g : Bool) → AllByRecursion (BegunFrom from) (change_item t g p at)
change_from from p at true true = tt
change_from from p at true false = (tt, tt)
change_from from p at false true = (tt, tt)
change_from from p at false false = tt

took_from : (from shard before after at : ℕ) → AllByRecursion (BegunFrom from) (took_items shard before after at)
took_from from shard before after at = go (nat_lt before after)
  where
    go : (b : Bool) → AllByRecursion (BegunFrom from) (if b then item.Took shard after at ∷ [] else [])
    go true = (tt, tt)
    go false = tt

begun_from : (from at : ℕ) → from ≤ at → (o : Option ℕ) → AllByRecursion (BegunFrom from) (option_map_or (λ line. item.Begun line at ∷ []) o [])
begun_from from at low None = tt
begun_from from at low (Some line) = (low, tt)

event_from : (from : ℕ) (c : Core) (e : Event × ℕ) → from ≤ e.1 → AllByRecursion (BegunFrom from) (event_items c e)
event_from from c e low = go (is_refused (step e.0 e.1 c).ended)
  where
    between : AllByRecursion (BegunFrom from) (items_between (begun_line e.0) c (step e.0 e.1 c) e.1)
    between =
        all_append (BegunFrom from) (option_map_or (λ line. item.Begun line e.1 ∷ []) (begun_line e.0) []) _ (begun_from from e.1 low (begun_line e.0))
        (all_append (BegunFrom from) (flat_map (λ peer. change_item (is_good_status (status_of peer c)) (is_good_status (status_of peer (step e.0 e.1 c))) peer e.1) (all_peers (shape_of c))) _
        (flat_all (BegunFrom from) (λ peer. change_item (is_good_status (status_of peer c)) (is_good_status (status_of peer (step e.0 e.1 c))) peer e.1) (all_peers (shape_of c))
        (range_all (λ peer. AllByRecursion (BegunFrom from) (change_item (is_good_status (status_of peer c)) (is_good_status (status_of peer (step e.0 e.1 c))) peer e.1)) ((shape_of c).shards * (shape_of c).copies) 0
        (λ peer low to. change_from from peer e.1 (is_good_status (status_of peer c)) (is_good_status (status_of peer (step e.0 e.1 c))))))
        (flat_all (BegunFrom from) (λ shard. took_items shard (front_of shard c) (front_of shard (step e.0 e.1 c)) e.1) (shards_of c)
        (range_all (λ shard. AllByRecursion (BegunFrom from) (took_items shard (front_of shard c) (front_of shard (step e.0 e.1 c)) e.1)) (shape_of c).shards 0
        (λ shard low to. took_from from shard (front_of shard c) (front_of shard (step e.0 e.1 c)) e.1))))

    go : (b : Bool) → AllByRecursion (BegunFrom from) (if b then [] else items_between (begun_line e.0) c (step e.0 e.1 c) e.1)
    go true = tt
    go false = between

events_from : (from later to : ℕ) (c : Core) (es : Events) → MomentsRise later es to → from ≤ later → AllByRecursion (BegunFrom from) (items_of c es)
events_from from later to c [] rises low = tt
events_from from later to c (e ∷ es) rises low =
    let up : later ≤ e.1 = rises.0 in
    all_append (BegunFrom from) (event_items c e) (items_of (step e.0 e.1 c) es) (event_from from c e (omega (arith, up, low)))
    (events_from from e.1 to (step e.0 e.1 c) es rises.1 (omega (arith, up, low)))

lost_from : (from : ℕ) (lost : List (ℕ × ℕ)) → AllByRecursion (BegunFrom from) (map (λ (peer : ℕ × ℕ). item.Bad peer.0 peer.1) lost)
lost_from from [] = tt
lost_from from (l ∷ lost) = (tt, lost_from from lost)

first_from : (shape : Shape) (found : Found) (entry from : ℕ) → AllByRecursion (BegunFrom from) (first_items shape found entry)
first_from shape found entry from =
    all_append (BegunFrom from) (taken_items shape found.logs entry) (lost_items found ++ changes shape found)
    (flat_all (BegunFrom from) _ (range_with_len 0 shape.shards) (range_all _ shape.shards 0 (λ shard low to.
    elim (which_peer (taken_peer shape found.logs shard)) [
      | inl nobody ↦ rw nobody tt
      | inr taken ↦ rw taken.1 (tt, (tt, tt))
    ])))
    (all_append (BegunFrom from) (lost_items found) (changes shape found) (lost_from from found.lost)
    (flat_all (BegunFrom from) (λ x. change_item (is_taken shape found.logs x) (is_taken shape found.logs x || starts_good found x) x found.opened) (all_peers shape)
    (range_all (λ x. AllByRecursion (BegunFrom from) (change_item (is_taken shape found.logs x) (is_taken shape found.logs x || starts_good found x) x found.opened)) (shape.shards * shape.copies) 0
    (λ x low to. change_from from x found.opened (is_taken shape found.logs x) (is_taken shape found.logs x || starts_good found x)))))

-- a client's line was begun behind the opening of the core
pub begun_behind : (shape : Shape) (found : Found) (entry from to : ℕ) (c : Core) (es : Events) → MomentsRise from es to → (line m : ℕ) → IsBegun (first_items shape found entry ++ items_of c es) line m → from < m
begun_behind shape found entry from to c es rises line m its =
    let all : AllByRecursion (BegunFrom from) (first_items shape found entry ++ items_of c es)
    = all_append (BegunFrom from) (first_items shape found entry) (items_of c es) (first_from shape found entry from) (events_from from from to c es rises (omega arith)) in
    let here : from ≤ its.at = All-contains (BegunFrom from) (first_items shape found entry ++ items_of c es) (item.Begun line its.at) (All-from_recursion (BegunFrom from) (first_items shape found entry ++ items_of c es) all) its.begun in
    let below : its.at < m = its.below in
    omega (arith, here, below)
