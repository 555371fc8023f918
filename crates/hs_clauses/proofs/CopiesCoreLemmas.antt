-- With any number of copies, of a run whose core goes on behind its opening: what its course and its journal tell of a moment is what its core is then; and a core each of whose shards has a good peer goes on.
use Rattle.std.proofs.Common.{◌≡◌, ◌⊎◌, ◌∙◌, inl, inr, ap, sym, subst, ℕ, ◌+◌, ◌*◌, ◌<◌, ◌≤◌, ◌==◌, ◌&&◌, not, Bool, true, false, List, [], ◌∷◌, ◌++◌, Option, Some, None, refl, length, nat_lt, arith, append-nil}
use Rattle.std.proofs.lemmas.Bool.{le-ltb, lt-ltb, true≢false}
use Rattle.std.proofs.lemmas.List.Elements.{filter-append, recursion_from_All}
use Rattle.std.specs.List.{AllByRecursion}
use Rattle.std.specs.Option.{option_map}
use Rattle.std.specs.Prelude.{filter, if◌then◌else◌}
use Rattle.hs_anatomy.specs.Acts.{begun}
use Rattle.hs_clauses.proofs.AsideLemmas.{EachTaken, each_taken, some_good, status_is, taken_at, taken_begins}
use Rattle.hs_clauses.proofs.CopiesCourseLemmas.{first_good, first_took}
use Rattle.hs_clauses.proofs.CourseLemmas.{some_course}
use Rattle.hs_clauses.proofs.GreatestLemmas.{within}
use Rattle.hs_clauses.proofs.NoteLemmas.{opens_noted}
use Rattle.hs_clauses.proofs.StopLemmas.{some_shard}
use Rattle.hs_cluster.proofs.TakenLemmas.{find_none}
use Rattle.hs_core_words.specs.declared.event.Event.{Event}
use Rattle.hs_core_words.specs.Looking.{front_of, lost_shard, status_of}
use Rattle.hs_core_words.specs.Opening.{begin_views, new_core, note_down}
use Rattle.hs_core_words.specs.State.{Core}
use Rattle.hs_core_words.specs.Step.{do_event, end_event, step}
use Rattle.hs_desk.specs.declared.fault.CoreFault.{CoreFault}
use Rattle.hs_desk.specs.declared.fault.CoreFault.TheVariants as fault
use Rattle.hs_entry.specs.Entries.{rank_of}
use Rattle.hs_events.proofs.FrameLemmas.{Frame, frame_opens}
use Rattle.hs_events.specs.Beginning.{first_items}
use Rattle.hs_events.specs.Course.{happened, is_refused, items_of, steps}
use Rattle.hs_events.specs.Due.{Events, MomentsRise}
use Rattle.hs_events.specs.Found.{first_core, opened_list, opens_with, starts_good}
use Rattle.hs_events.specs.Taken.{peer_count, taken_items, taken_list}
use Rattle.hs_fold.specs.Good.{good_from, is_good, taken_below, taken_from}
use Rattle.hs_fold.specs.Shards.Course.{begins}
use Rattle.hs_fold.specs.Shards.Setting.{Numbered}
use Rattle.hs_journal.specs.declared.entry.JournalEntry.{JournalEntry}
use Rattle.hs_journal.specs.Moments.{below}
use Rattle.hs_limits.specs.Shape.{IsShape}
use Rattle.hs_members.specs.Members.{Members, has_good, is_good_status, status}
use Rattle.hs_model.specs.declared.course.CourseItem.{CourseItem}
use Rattle.hs_moments.proofs.AloneEventLemmas.{ends, step_is}
use Rattle.hs_moments.proofs.CoreLemmas.{good_at as good_by_core, journal_at, shape_at, taken_at as taken_by_core}
use Rattle.hs_moments.proofs.CourseLemmas.{good-append, taken-append}
use Rattle.hs_moments.proofs.HappenedLemmas.{happened_rise}
use Rattle.hs_moments.proofs.JournalLemmas.{added_at, ended_journal, entries_after, journal_after, kept_at, opening_told}
use Rattle.hs_moments.specs.Answers.{added, kept_entries}
use Rattle.hs_moments.specs.CoreMachine.{core_at}
use Rattle.hs_moments.specs.Machine.{until}
use Rattle.hs_promise.specs.Ending.{ending_of}
use Rattle.hs_promise.specs.Entry.{counted_course, entry_logs, still_counts}
use Rattle.hs_promise.specs.Machine.{Went}
use Rattle.hs_promise.specs.Run.{Ran, Script}
use Rattle.hs_promise.specs.Story.{Story, all_events}
use Rattle.hs_standing.proofs.FirstRoomLemmas.{front_first, opens}
use Rattle.hs_standing.proofs.LinesStepLemmas.{step_ended}

-- ---- entries below a moment

abbrev AreAllAt : ℕ → List JournalEntry → Type 0
AreAllAt at xs = AllByRecursion (λ (entry : JournalEntry). entry.moment ≡ at) xs

all_below : (m at : ℕ) (xs : List JournalEntry) → AreAllAt at xs → at < m → below m xs ≡ xs
all_below m at [] h low = refl
all_below m at (x ∷ xs) h low =
    let is = h.0 in
    ap (λ b. if b then x ∷ below m xs else below m xs) (lt-ltb x.moment m (omega (arith, is, low)))
    ∙ ap (λ (ys : List JournalEntry). x ∷ ys) (all_below m at xs h.1 low)

none_below : (m at : ℕ) (xs : List JournalEntry) → AreAllAt at xs → m ≤ at → below m xs ≡ []
none_below m at [] h up = refl
none_below m at (x ∷ xs) h up =
    let is = h.0 in
    ap (λ b. if b then x ∷ below m xs else below m xs) (le-ltb x.moment m (omega (arith, is, up)))
    ∙ none_below m at xs h.1 up

-- what events from a moment on tell is not below it
late_told : (m from to : ℕ) (c : Core) (fs : Events) → m ≤ from → MomentsRise from fs to → c.entries ≡ [] → below m (steps c fs).journal ≡ below m c.journal
late_told m from to c [] low rises none = refl
late_told m from to c (e ∷ fs) low rises none =
    let up = rises.0 in
    late_told m e.1 to (step e.0 e.1 c) fs (omega (arith, low, up)) rises.1 (entries_after e.0 e.1 c none)
    ∙ ap (λ (js : List JournalEntry). below m js) (journal_after e.0 e.1 c)
    ∙ filter-append (λ (entry : JournalEntry). nat_lt entry.moment m) c.journal (added e.0 e.1 c)
    ∙ ap (λ (ys : List JournalEntry). below m c.journal ++ ys)
    (none_below m e.1 (added e.0 e.1 c) (recursion_from_All (λ (entry : JournalEntry). entry.moment ≡ e.1) (added e.0 e.1 c) (added_at e.0 e.1 c none)) (omega (arith, low, up)))
    ∙ append-nil (below m c.journal)

-- nor is there an event
until_none : (m from to : ℕ) (fs : Events) → m ≤ from → MomentsRise from fs to → until m fs ≡ []
until_none m from to [] low rises = refl
until_none m from to (e ∷ fs) low rises = let up = rises.0 in ap (λ b. if b then e ∷ until m fs else []) (le-ltb e.1 m (omega (arith, low, up)))

-- ---- a core each of whose shards has a good peer goes on

abbrev pub EachHasGood : Core → Type 0
EachHasGood c = (g : ℕ) → g < c.members.shape.shards → has_good g c.members ≡ true

good_goes : (c : Core) (e : Event) (at : ℕ) → c.ended ≡ None → is_refused (step e at c).ended ≡ false → EachHasGood (step e at c) → (step e at c).ended ≡ None
good_goes c e at going happened each = by_end (ends (do_event e (begun e at c))).ended
  where
    after_is : step e at c ≡ end_event (do_event e (begun e at c))
    after_is = step_is e at c going

    members_is : (step e at c).members ≡ (do_event e (begun e at c)).members
    members_is = ap (λ (y : Core). y.members) after_is ∙ (ends (do_event e (begun e at c))).members

    has : (g : ℕ) → 0 ≤ g → g < 0 + (do_event e (begun e at c)).members.shape.shards → not (has_good g (do_event e (begun e at c)).members) ≡ false
    has g from low = ap not
        (subst (λ (m : Members). has_good g m ≡ true) members_is
        (each g (let count = ap (λ (m : Members). m.shape.shards) members_is in omega (arith, low, count))))

    none_lost : lost_shard (do_event e (begun e at c)) ≡ None
    none_lost = find_none (λ g. not (has_good g (do_event e (begun e at c)).members)) 0 (do_event e (begun e at c)).members.shape.shards has

    by_end : ((end_event (do_event e (begun e at c))).ended ≡ Some fault.OpsFull) ⊎ ((end_event (do_event e (begun e at c))).ended ≡ option_map fault.ShardLost (lost_shard (do_event e (begun e at c)))) → (step e at c).ended ≡ None
    by_end (inl full) = absurd (true≢false (sym (ap (λ (o : Option CoreFault). is_refused o) (ap (λ (y : Core). y.ended) after_is ∙ full)) ∙ happened))
    by_end (inr told) = ap (λ (y : Core). y.ended) after_is ∙ told ∙ ap (λ (o : Option ℕ). option_map fault.ShardLost o) none_lost

steps_ended : (c : Core) (es : Events) (f : CoreFault) → c.ended ≡ Some f → steps c es ≡ c
steps_ended c [] f over = refl
steps_ended c (e ∷ es) f over =
    let same : step e.0 e.1 c ≡ c = step_ended e.0 e.1 c f over in
    steps_ended (step e.0 e.1 c) es f (ap (λ (y : Core). y.ended) same ∙ over) ∙ same

pub good_then_goes : (m : ℕ) (c : Core) (es : Events) → c.ended ≡ None → EachHasGood (core_at c es m) → (core_at c es m).ended ≡ None
good_then_goes m c [] going each = going
good_then_goes m c (e ∷ es) going each =
    by_refusal (λ on good. good_then_goes m (step e.0 e.1 c) es on good) (is_refused (step e.0 e.1 c).ended) refl each
  where
    after : Core
    after = step e.0 e.1 c

    Rest : Type 0
    Rest = (step e.0 e.1 c).ended ≡ None → EachHasGood (core_at (step e.0 e.1 c) es m) → (core_at (step e.0 e.1 c) es m).ended ≡ None

    by_fault : Rest → is_refused (step e.0 e.1 c).ended ≡ false → (o : Option CoreFault) → (step e.0 e.1 c).ended ≡ o → EachHasGood (core_at (step e.0 e.1 c) es m) → (core_at (step e.0 e.1 c) es m).ended ≡ None
    by_fault rest told None on good = rest on good
    by_fault rest told (Some f) over good =
        let same : core_at (step e.0 e.1 c) es m ≡ step e.0 e.1 c = steps_ended (step e.0 e.1 c) (until m (happened (step e.0 e.1 c) es)) f over in
        let on : (step e.0 e.1 c).ended ≡ None = good_goes c e.0 e.1 going told (subst (λ (x : Core). EachHasGood x) same good) in
        rest on good

    by_moment : Rest → is_refused (step e.0 e.1 c).ended ≡ false → (b : Bool)
        → EachHasGood (steps c (if b then e ∷ until m (happened (step e.0 e.1 c) es) else [])) → (steps c (if b then e ∷ until m (happened (step e.0 e.1 c) es) else [])).ended ≡ None
    by_moment rest told true good = by_fault rest told (step e.0 e.1 c).ended refl good
    by_moment rest told false good = going

    by_refusal : Rest → (b : Bool) → is_refused (step e.0 e.1 c).ended ≡ b
        → EachHasGood (steps c (until m (if b then [] else e ∷ happened (step e.0 e.1 c) es))) → (steps c (until m (if b then [] else e ∷ happened (step e.0 e.1 c) es))).ended ≡ None
    by_refusal rest true told good = going
    by_refusal rest false told good = by_moment rest told (nat_lt e.1 m) good

-- the shape stays
pub steps_shape : (c : Core) (es : Events) → (steps c es).members.shape ≡ c.members.shape
steps_shape c [] = refl
steps_shape c (e ∷ es) = steps_shape (step e.0 e.1 c) es ∙ shape_at c e.0 e.1

-- ---- the course that counts

module _ (S : Script) (r : Ran) (story : Story) (went : Went S r story) (shape : IsShape S.set.shape) (there : EachTaken S story.found) where
  has_shard : 0 < S.set.shape.shards
  has_shard = some_shard S.set.shape.shards shape.shards

  not_empty : (length r.course == 0) ≡ false
  not_empty =
      let t = there 0 has_shard in
      let high = t.to in
      let w = within S.set.shape story.found.logs went.found.logs 0 has_shard in
      some_course (S.set.shape.shards + S.set.shape.shards) t.at r.course
      (ap (λ (items : List CourseItem). begins S.set.shape.shards items t.at) went.course
      ∙ taken_begins S story.found shape there r.old.moment (items_of (first_core S.set story.found) (all_events story)) t.at (omega (arith, high, w))
      (taken_at S story.found shape there 0 has_shard))

  -- is that of the run
  pub counted_by : counted_course S r ≡ r.course
  counted_by =
      ap (λ b. if (ending_of r.ending).wanting && b then filter (still_counts r) (taken_items S.set.shape (entry_logs S r) r.old.moment) else r.course) not_empty
      ∙ none (ending_of r.ending).wanting
    where
      none : (w : Bool) → (if w && false then filter (still_counts r) (taken_items S.set.shape (entry_logs S r) r.old.moment) else r.course) ≡ r.course
      none true = refl
      none false = refl

-- ---- a run

module _ (S : Script) (r : Ran) (story : Story) (went : Went S r story) (shape : IsShape S.set.shape) (going : (first_core S.set story.found).ended ≡ None) where
  abbrev first : Core
  first = first_core S.set story.found

  abbrev es : Events
  es = all_events story

  abbrev fresh : Core
  fresh = new_core S.set.shape S.set.limits (opens_with S.set story.found) story.found.opened

  there : EachTaken S story.found
  there = each_taken S story.found shape went.found.logs went.found.kept going

  pub counted_is : counted_course S r ≡ r.course
  counted_is = counted_by S r story went shape there

  -- ---- as it opens

  pub good_first : (p : ℕ) → is_good_status (status_of p (first_core S.set story.found)) ≡ starts_good story.found p
  good_first p = ap (λ (m : Members). is_good_status (status p m)) (opens S.set story.found).members ∙ status_is S story.found p

  peer_first : (p : ℕ) → p < peer_count S.set.shape → p < (first_core S.set story.found).members.shape.shards * (first_core S.set story.found).members.shape.copies
  peer_first p low = subst (λ (m : Members). p < m.shape.shards * m.shape.copies) (sym (opens S.set story.found).members) low

  shard_first : (g : ℕ) → g < S.set.shape.shards → g < (first_core S.set story.found).members.shape.shards
  shard_first g low = subst (λ (m : Members). g < m.shape.shards) (sym (opens S.set story.found).members) low

  pub shape_then : (m : ℕ) → (core_at (first_core S.set story.found) (all_events story) m).members.shape ≡ S.set.shape
  shape_then m = steps_shape first (until m (happened first es)) ∙ ap (λ (m : Members). m.shape) (opens S.set story.found).members

  pub opened_taken : (g : ℕ) → g < S.set.shape.shards → opened_list S.set story.found g ≡ taken_list S.set.shape story.found.logs g
  opened_taken g low = ap (λ b. if b then taken_list S.set.shape story.found.logs g else []) (some_good S story.found shape went.found.logs went.found.kept going g low)

  none_kept : (first_core S.set story.found).entries ≡ []
  none_kept = (opens_noted S.set.shape S.set.limits (opens_with S.set story.found) story.found.opened).entries

  -- what it tells then is of that moment
  dated : AreAllAt story.found.opened (first_core S.set story.found).journal
  dated =
      let d : Core = note_down (begin_views fresh) in
      let empty : d.journal ≡ [] = ap (λ (f : Frame). f.journal) (frame_opens fresh) in
      let is : (end_event d).journal ≡ kept_entries d = ended_journal d ∙ ap (λ (js : List JournalEntry). js ++ kept_entries d) empty in
      subst (λ (js : List JournalEntry). AreAllAt story.found.opened js) (sym is)
      (recursion_from_All (λ (entry : JournalEntry). entry.moment ≡ story.found.opened) (kept_entries d) (kept_at story.found.opened d (opening_told fresh refl)))

  -- ---- at a moment

  pub took_then : (m g : ℕ) → r.old.moment < m → g < S.set.shape.shards → taken_below (counted_course S r) m g ≡ front_of g (core_at (first_core S.set story.found) (all_events story) m)
  took_then m g above low =
      ap (λ (items : List CourseItem). taken_from 0 items m g) (counted_is ∙ went.course)
      ∙ taken-append 0 (first_items S.set.shape story.found r.old.moment) (items_of first es) m g
      ∙ ap (λ x. taken_from x (items_of first es) m g)
      (first_took S r story went shape there m g above low ∙ ap (λ (list : Numbered). (rank_of list).number) (sym (opened_taken g low)) ∙ sym (front_first S.set story.found g low))
      ∙ taken_by_core first es story.found.opened r.new.moment m g went.rises (shard_first g low)

  pub good_then : (m p : ℕ) → story.found.opened < m → p < peer_count S.set.shape → is_good (counted_course S r) m p ≡ is_good_status (status_of p (core_at (first_core S.set story.found) (all_events story) m))
  good_then m p later low =
      ap (λ (items : List CourseItem). good_from false items m p) (counted_is ∙ went.course)
      ∙ good-append false (first_items S.set.shape story.found r.old.moment) (items_of first es) m p
      ∙ ap (λ x. good_from x (items_of first es) m p) (first_good S r story went shape there m p later low ∙ sym (good_first p))
      ∙ good_by_core first es story.found.opened r.new.moment m p went.rises (peer_first p low)

  pub answered_then : (m : ℕ) → story.found.opened < m → (core_at (first_core S.set story.found) (all_events story) m).journal ≡ below m r.journal
  answered_then m later =
      journal_at first es story.found.opened r.new.moment m none_kept went.rises (all_below m story.found.opened (first_core S.set story.found).journal dated later)
      ∙ ap (λ (js : List JournalEntry). below m js) (sym went.journal)

  -- up to the opening nothing is answered, and nothing but the lists at entry took effect
  pub silent_early : (m : ℕ) → m ≤ story.found.opened → below m r.journal ≡ []
  silent_early m early =
      ap (λ (js : List JournalEntry). below m js) went.journal
      ∙ late_told m story.found.opened r.new.moment first es early went.rises none_kept
      ∙ none_below m story.found.opened (first_core S.set story.found).journal dated early

  pub took_early : (m g : ℕ) → r.old.moment < m → m ≤ story.found.opened → g < S.set.shape.shards → taken_below (counted_course S r) m g ≡ (rank_of (opened_list S.set story.found g)).number
  took_early m g above early low =
      took_then m g above low
      ∙ ap (λ (fs : Events). front_of g (steps first fs)) (until_none m story.found.opened r.new.moment (happened first es) early (happened_rise first story.found.opened r.new.moment es went.rises))
      ∙ front_first S.set story.found g low
