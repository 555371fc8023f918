-- A disk that does not count is of a peer that was not good as the core opened, and no Good of it is in the course since.
use Rattle.std.proofs.Common.{◌≡◌, ◌⊎◌, ◌∙◌, ap, sym, inl, inr, arith, ℕ, ◌<◌, ◌≤◌, ◌==◌, ◌&&◌, ◌||◌, not, Bool, true, false, List, [], ◌∷◌, Option, None, Some, nat_lt, refl}
use Rattle.std.proofs.lemmas.Bool.{cases_eq, cases_lt, le-ltb, lt-ltb, ne_eqb}
use Rattle.std.specs.List.{AllByRecursion, list_any}
use Rattle.std.specs.Option.{option_map_or}
use Rattle.std.specs.Prelude.{flat_map, if◌then◌else◌}
use Rattle.hs_core_words.specs.Calls.{begun_line}
use Rattle.hs_core_words.specs.declared.event.Event.{Event}
use Rattle.hs_core_words.specs.Looking.{front_of, shape_of, shards_of, status_of}
use Rattle.hs_core_words.specs.State.{Core}
use Rattle.hs_core_words.specs.Step.{step}
use Rattle.hs_events.specs.Course.{change_item, event_items, happened, is_refused, items_between, items_of, took_items}
use Rattle.hs_events.specs.Due.{Events, MomentsRise}
use Rattle.hs_events.specs.Found.{Found, first_core, starts_good}
use Rattle.hs_events.specs.Whole.{Whole, counts, open_whole, step_whole}
use Rattle.hs_fold.specs.Shards.Course.{is_good_below, was_good}
use Rattle.hs_fold.specs.Shards.Setting.{Setting}
use Rattle.hs_members.specs.Members.{all_peers, is_good_status}
use Rattle.hs_model.specs.declared.course.CourseItem.{CourseItem}
use Rattle.hs_model.specs.declared.course.CourseItem.TheVariants as item
use Rattle.hs_moments.proofs.HappenedLemmas.{happened_rise, items_happened}
use Rattle.hs_moments.specs.Machine.{runs, state_at, until}
use Rattle.hs_moments.specs.WholeMachine.{whole_machine}
use Rattle.hs_standing.proofs.AllLemmas.{all_append}

none_of : (q : CourseItem → Bool) (xs : List CourseItem) → AllByRecursion (λ x. q x ≡ false) xs → list_any q xs ≡ false
none_of q [] h = refl
none_of q (x ∷ xs) h = ap (λ b. b || list_any q xs) h.0 ∙ none_of q xs h.1

all_flat : (P : CourseItem → Type 0) (f : ℕ → List CourseItem) (ks : List ℕ) → ((k : ℕ) → AllByRecursion P (f k)) → AllByRecursion P (flat_map f ks)
all_flat P f [] h = tt
all_flat P f (k ∷ ks) h = all_append P (f k) (flat_map f ks) (h k) (all_flat P f ks h)

both : (a b : Bool) → (a && not b) ≡ true → (a ≡ true) × (b ≡ false)
both true true e = absurd (cc e)
both true false e = (refl, refl)
both false b e = absurd (cc e)

turned : (b : Bool) → not b ≡ false → b ≡ true
turned true e = refl
turned false e = absurd (cc e)

turned_back : (b : Bool) → not b ≡ true → b ≡ false
turned_back true e = absurd (cc e)
turned_back false e = refl

module _ (m p : ℕ) where
  abbrev Never : List CourseItem → Type 0
  Never items = AllByRecursion (λ i. is_good_below m p i ≡ false) items

  late_good : (q at : ℕ) → m ≤ at → (q == p && nat_lt at m) ≡ false
  late_good q at up = ap (λ b. q == p && b) (le-ltb at m up) ∙ none (q == p)
    where
      none : (b : Bool) → (b && false) ≡ false
      none true = refl
      none false = refl

  -- an item of a peer that is not this one, or that is not good behind it, or that is late
  change : (q at : ℕ) (a b : Bool) → (q ≡ p → b ≡ false) ⊎ (m ≤ at) → Never (change_item a b q at)
  change q at true true h = tt
  change q at true false h = (refl, tt)
  change q at false true (inr up) = (late_good q at up, tt)
  change q at false true (inl bad) = elim (cases_eq q p) [
    | inl same ↦ (let wrong : true ≡ false = bad same in absurd (cc wrong))
    | inr differs ↦ (ap (λ b. b && nat_lt at m) (ne_eqb q p differs), tt)
  ]
  change q at false false h = tt

  took : (shard before after at : ℕ) → Never (took_items shard before after at)
  took shard before after at = go (nat_lt before after)
    where
      go : (b : Bool) → Never (if b then item.Took shard after at ∷ [] else [])
      go true = (refl, tt)
      go false = tt

  begun : (line : Option ℕ) (at : ℕ) → Never (option_map_or (λ l. item.Begun l at ∷ []) line [])
  begun None at = tt
  begun (Some l) at = (refl, tt)

  event : (c : Core) (e : Event × ℕ) → (is_good_status (status_of p (step e.0 e.1 c)) ≡ false) ⊎ (m ≤ e.1) → Never (event_items c e)
  event c e h = go (is_refused (step e.0 e.1 c).ended)
    where
      each : (q : ℕ) → (is_good_status (status_of p (step e.0 e.1 c)) ≡ false) ⊎ (m ≤ e.1) → (q ≡ p → is_good_status (status_of q (step e.0 e.1 c)) ≡ false) ⊎ (m ≤ e.1)
      each q (inl bad) = inl (λ same. ap (λ k. is_good_status (status_of k (step e.0 e.1 c))) same ∙ bad)
      each q (inr up) = inr up

      go : (b : Bool) → Never (if b then [] else items_between (begun_line e.0) c (step e.0 e.1 c) e.1)
      go true = tt
      go false =
          all_append (λ i. is_good_below m p i ≡ false) (option_map_or (λ l. item.Begun l e.1 ∷ []) (begun_line e.0) []) _ (begun (begun_line e.0) e.1)
          (all_append (λ i. is_good_below m p i ≡ false) (flat_map (λ q. change_item (is_good_status (status_of q c)) (is_good_status (status_of q (step e.0 e.1 c))) q e.1) (all_peers (shape_of c))) _
          (all_flat (λ i. is_good_below m p i ≡ false) (λ q. change_item (is_good_status (status_of q c)) (is_good_status (status_of q (step e.0 e.1 c))) q e.1) (all_peers (shape_of c))
          (λ q. change q e.1 (is_good_status (status_of q c)) (is_good_status (status_of q (step e.0 e.1 c))) (each q h)))
          (all_flat (λ i. is_good_below m p i ≡ false) (λ g. took_items g (front_of g c) (front_of g (step e.0 e.1 c)) e.1) (shards_of c) (λ g. took g (front_of g c) (front_of g (step e.0 e.1 c)) e.1)))

  late : (from to : ℕ) (c : Core) (es : Events) → m ≤ from → MomentsRise from es to → Never (items_of c es)
  late from to c [] low rise = tt
  late from to c (e ∷ es) low rise =
      let up = rise.0 in
      all_append (λ i. is_good_below m p i ≡ false) (event_items c e) (items_of (step e.0 e.1 c) es) (event c e (inr (omega (arith, low, up))))
      (late e.1 to (step e.0 e.1 c) es (omega (arith, low, up)) rise.1)

  -- behind some events
  never : (from to : ℕ) (c : Whole) (es : Events) → MomentsRise from es to → counts (state_at whole_machine c es m) p ≡ false → (c.aside p ≡ true) × Never (items_of c.core es)
  never from to c [] rise e = (turned (c.aside p) e, tt)
  never from to c (e ∷ es) rise un = go (λ rest. never e.1 to (step_whole e.0 e.1 c) es rise.1 rest) (cases_lt e.1 m)
    where
      after : Core
      after = step e.0 e.1 c.core

      go : (counts (state_at whole_machine (step_whole e.0 e.1 c) es m) p ≡ false → ((c.aside p && not (is_good_status (status_of p (step e.0 e.1 c.core)))) ≡ true) × Never (items_of (step e.0 e.1 c.core) es))
          → (e.1 < m) ⊎ (m ≤ e.1) → (c.aside p ≡ true) × Never (items_of c.core (e ∷ es))
      go later (inl less) =
          let is : until m (e ∷ es) ≡ e ∷ until m es = ap (λ b. if b then e ∷ until m es else []) (lt-ltb e.1 m less) in
          let h = later (sym (ap (λ xs. counts (runs whole_machine c xs) p) is) ∙ un) in
          let two = both (c.aside p) (is_good_status (status_of p after)) h.0 in
          (two.0, all_append (λ i. is_good_below m p i ≡ false) (event_items c.core e) (items_of after es) (event c.core e (inl two.1)) h.1)
      go later (inr up) =
          let is : until m (e ∷ es) ≡ [] = ap (λ b. if b then e ∷ until m es else []) (le-ltb e.1 m up) in (
            turned (c.aside p) (sym (ap (λ xs. counts (runs whole_machine c xs) p) is) ∙ un),
            all_append (λ i. is_good_below m p i ≡ false) (event_items c.core e) (items_of after es) (event c.core e (inr up)) (late e.1 to after es up rise.1),
          )

pub never_was_good : (set : Setting) (found : Found) (events : Events) (to moment peer : ℕ) → MomentsRise found.opened events to
    → counts (state_at whole_machine (open_whole set found) (happened (first_core set found) events) moment) peer ≡ false
    → (starts_good found peer ≡ false) × (was_good (items_of (first_core set found) events) moment peer ≡ false)
never_was_good set found events to moment peer rise e =
    let h = never moment peer found.opened to (open_whole set found) (happened (first_core set found) events) (happened_rise (first_core set found) found.opened to events rise) e in (
      turned_back (starts_good found peer) h.0,
      ap (λ items. was_good items moment peer) (sym (items_happened (first_core set found) events))
          ∙ none_of (is_good_below moment peer) (items_of (first_core set found) (happened (first_core set found) events)) h.1,
    )
