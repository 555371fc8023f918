-- A run of events is a line as the top call sees it.
use Rattle.std.proofs.Common.{◌≡◌, ◌⊎◌, inl, inr, ℕ, zero, suc, ◌+◌, ◌*◌, ◌-◌, ◌^◌, ◌<◌, ◌≤◌, Bool, true, false, cond, List, [], ◌∷◌, ◌++◌, Option, None, Some, refl, sym, ap, subst, ◌∙◌, arith, nat_lt}
use Rattle.std.specs.Prelude.{All}
use Rattle.std.proofs.lemmas.Bool.{cases_lt}
use Rattle.std.proofs.lemmas.List.{append-nil, append_assoc}
use Rattle.std.proofs.lemmas.List.Elements.{filter-append, All-weaker, All-head, All-tail, All-cons, All-nil, All-append}
use Rattle.hs_limits.specs.declared.shape.Shape.{Shape}
use Rattle.hs_model.specs.declared.course.CourseItem.{CourseItem}
use Rattle.hs_model.specs.declared.course.CourseItem.TheVariants as item
use Rattle.hs_ports.specs.declared.disk.Side.{Side}
use Rattle.hs_ports.specs.Disk.{Standing}
use Rattle.hs_ports.specs.Moments.{disk_at}
use Rattle.hs_journal.specs.declared.entry.JournalEntry.{JournalEntry}
use Rattle.hs_fold.specs.Good.{good_from, taken_from}
use Rattle.hs_events.specs.Course.{change_item}
use Rattle.hs_moments.specs.Course.{begun_items, good_items, front_items, items_of, course_of}
use Rattle.hs_moments.specs.Machine.{Machine, runs, until, state_at, Rises}
use Rattle.hs_moments.specs.Moments.{Keeps, ListsAtMoments}
use Rattle.hs_journal.specs.Moments.{below}
use Rattle.hs_moments.specs.Joint.{moment_of, Tells, Rests, Advances}
use Rattle.hs_moments.specs.Obeys.{Obeys, entries_of}
use Rattle.hs_moments.proofs.MomentLemmas.{lt-is, le-is, until-all}
use Rattle.hs_moments.proofs.CourseLemmas.{good-append, taken-append, good-tells, taken-tells}

-- ---- the items and entries of an event have its moment

begun-at : (line : Option ℕ) (k : ℕ) → All (λ i. k ≤ moment_of i) (begun_items line k)
begun-at None k = All-nil (λ i. k ≤ moment_of i)
begun-at (Some line) k = All-cons (λ i. k ≤ moment_of i) (item.Begun line k) [] (omega arith) (All-nil (λ i. k ≤ moment_of i))

change-at : (b b' : Bool) (n k : ℕ) → All (λ i. k ≤ moment_of i) (change_item b b' n k)
change-at true true n k = All-nil (λ i. k ≤ moment_of i)
change-at true false n k = All-cons (λ i. k ≤ moment_of i) (item.Bad n k) [] (omega arith) (All-nil (λ i. k ≤ moment_of i))
change-at false true n k = All-cons (λ i. k ≤ moment_of i) (item.Good n k) [] (omega arith) (All-nil (λ i. k ≤ moment_of i))
change-at false false n k = All-nil (λ i. k ≤ moment_of i)

goods-at : (was is : ℕ → Bool) (k n : ℕ) → All (λ i. k ≤ moment_of i) (good_items was is k n)
goods-at was is k zero = All-nil (λ i. k ≤ moment_of i)
goods-at was is k (suc n) = All-append (λ i. k ≤ moment_of i) (good_items was is k n) (change_item (was n) (is n) n k) (goods-at was is k n) (change-at (was n) (is n) n k)

took-at : (b : Bool) (n number k : ℕ) → All (λ i. k ≤ moment_of i) (cond b (item.Took n number k ∷ []) [])
took-at true n number k = All-cons (λ i. k ≤ moment_of i) (item.Took n number k) [] (omega arith) (All-nil (λ i. k ≤ moment_of i))
took-at false n number k = All-nil (λ i. k ≤ moment_of i)

tooks-at : (was is : ℕ → ℕ) (k n : ℕ) → All (λ i. k ≤ moment_of i) (front_items was is k n)
tooks-at was is k zero = All-nil (λ i. k ≤ moment_of i)
tooks-at was is k (suc n) = All-append (λ i. k ≤ moment_of i) (front_items was is k n) (cond (nat_lt (was n) (is n)) (item.Took n (is n) k ∷ []) []) (tooks-at was is k n) (took-at (nat_lt (was n) (is n)) n (is n) k)

module _ {State Event : Type 0} (M : Machine State Event) (Sane : State → Type 0) (adds : State → Event → ℕ → List JournalEntry) (shape : Shape) (obeys : Obeys M Sane adds) where
  items-at : (c c' : State) (e : Event) (k : ℕ) → All (λ i. k ≤ moment_of i) (items_of M shape c c' e k)
  items-at c c' e k = All-append (λ i. k ≤ moment_of i) (begun_items (M.begins e) k) (good_items (M.good c) (M.good c') k (shape.shards * shape.copies) ++ front_items (M.front c) (M.front c') k shape.shards) (begun-at (M.begins e) k)
      (All-append (λ i. k ≤ moment_of i) (good_items (M.good c) (M.good c') k (shape.shards * shape.copies)) (front_items (M.front c) (M.front c') k shape.shards) (goods-at (M.good c) (M.good c') k (shape.shards * shape.copies)) (tooks-at (M.front c) (M.front c') k shape.shards))

  course-late : (c : State) (es : List (Event × ℕ)) (from to : ℕ) → Rises M from es to → All (λ i. from ≤ moment_of i) (course_of M shape c es)
  course-late c [] from to r = All-nil (λ i. from ≤ moment_of i)
  course-late c (e ∷ es) from to r =
      let low = r.0 in
      All-append (λ i. from ≤ moment_of i) (items_of M shape c (M.step c e.0 e.1) e.0 e.1) (course_of M shape (M.step c e.0 e.1) es)
      (All-weaker (λ i. e.1 ≤ moment_of i) (λ i. from ≤ moment_of i) (λ i h. omega (arith, low, h)) (items_of M shape c (M.step c e.0 e.1) e.0 e.1) (items-at c (M.step c e.0 e.1) e.0 e.1))
      (All-weaker (λ i. e.1 ≤ moment_of i) (λ i. from ≤ moment_of i) (λ i h. omega (arith, low, h)) (course_of M shape (M.step c e.0 e.1) es) (course-late (M.step c e.0 e.1) es e.1 to r.1))

  entries-late : (c : State) (es : List (Event × ℕ)) (from to : ℕ) → Sane c → Rises M from es to → All (λ entry. from ≤ entry.moment) (entries_of M Sane adds c es)
  entries-late c [] from to sane r = All-nil (λ entry. from ≤ entry.moment)
  entries-late c (e ∷ es) from to sane r =
      let low = r.0 in
      All-append (λ entry. from ≤ entry.moment) (adds c e.0 e.1) (entries_of M Sane adds (M.step c e.0 e.1) es)
      (All-weaker (λ entry. entry.moment ≡ e.1) (λ entry. from ≤ entry.moment) (λ entry h. omega (arith, low, h)) (adds c e.0 e.1) (obeys.moments c e.0 e.1 sane))
      (All-weaker (λ entry. e.1 ≤ entry.moment) (λ entry. from ≤ entry.moment) (λ entry h. omega (arith, low, h)) (entries_of M Sane adds (M.step c e.0 e.1) es) (entries-late (M.step c e.0 e.1) es e.1 to (obeys.sane c e.0 e.1 sane) r.1))

  -- ---- the journal below a moment

  below-all : (m : ℕ) (es : List JournalEntry) → All (λ entry. entry.moment < m) es → below m es ≡ es
  below-all m [] h = refl
  below-all m (e ∷ es) h = rw (lt-is e.moment m (All-head (λ entry. entry.moment < m) e es h)) (ap (λ rest. e ∷ rest) (below-all m es (All-tail (λ entry. entry.moment < m) e es h)))

  below-none : (m : ℕ) (es : List JournalEntry) → All (λ entry. m ≤ entry.moment) es → below m es ≡ []
  below-none m [] h = refl
  below-none m (e ∷ es) h = rw (le-is e.moment m (All-head (λ entry. m ≤ entry.moment) e es h)) (below-none m es (All-tail (λ entry. m ≤ entry.moment) e es h))

  pub journal-tells : (c : State) (es : List (Event × ℕ)) (from to m : ℕ) → Sane c → Rises M from es to → M.journal (state_at M c es m) ≡ M.journal c ++ below m (entries_of M Sane adds c es)
  journal-tells c [] from to m sane r = sym (append-nil (M.journal c))
  journal-tells c (e ∷ es) from to m sane r = go (journal-tells c' es e.1 to m (obeys.sane c e.0 e.1 sane) r.1) (cases_lt e.1 m)
    where
      c' : State
      c' = M.step c e.0 e.1

      here : List JournalEntry
      here = adds c e.0 e.1

      rest : List JournalEntry
      rest = entries_of M Sane adds c' es

      go : M.journal (state_at M c' es m) ≡ M.journal c' ++ below m rest → (e.1 < m) ⊎ (m ≤ e.1) → M.journal (runs M c (cond (nat_lt e.1 m) (e ∷ until m es) [])) ≡ M.journal c ++ below m (here ++ rest)
      go ih (inl lt) = rw (lt-is e.1 m lt)
          (ih ∙ ap (λ js. js ++ below m rest) (obeys.journal c e.0 e.1 sane) ∙ append_assoc (M.journal c) here (below m rest)
          ∙ ap (λ js. M.journal c ++ (js ++ below m rest)) (sym (below-all m here (All-weaker (λ entry. entry.moment ≡ e.1) (λ entry. entry.moment < m) (λ entry h. omega (arith, lt, h)) here (obeys.moments c e.0 e.1 sane))))
          ∙ ap (λ js. M.journal c ++ js) (sym (filter-append (λ entry. nat_lt entry.moment m) here rest)))
      go ih (inr le) = rw (le-is e.1 m le)
          (sym (ap (λ js. M.journal c ++ js) (below-none m (here ++ rest) late) ∙ append-nil (M.journal c)))
        where
          late : All (λ entry. m ≤ entry.moment) (here ++ rest)
          late = All-append (λ entry. m ≤ entry.moment) here rest
              (All-weaker (λ entry. entry.moment ≡ e.1) (λ entry. m ≤ entry.moment) (λ entry h. omega (arith, le, h)) here (obeys.moments c e.0 e.1 sane))
              (All-weaker (λ entry. e.1 ≤ entry.moment) (λ entry. m ≤ entry.moment) (λ entry h. omega (arith, le, h)) rest (entries-late c' es e.1 to (obeys.sane c e.0 e.1 sane) r.1))

  -- ---- a run of events from a core at rest

  steps-sane : (c : State) (es : List (Event × ℕ)) → Sane c → Sane (runs M c es)
  steps-sane c [] h = h
  steps-sane c (e ∷ es) h = steps-sane (M.step c e.0 e.1) es (obeys.sane c e.0 e.1 h)

  tells-at : (course : List CourseItem) (journal : List JournalEntry) (c : State) (es : List (Event × ℕ)) (now to m : ℕ) → Rises M now es to → Tells M Sane shape course journal m c
      → Tells M Sane shape (course ++ course_of M shape c es) (journal ++ entries_of M Sane adds c es) m (state_at M c es m)
  tells-at course journal c es now to m r t = record {
    sane = steps-sane c (until m es) t.sane;
    answered = journal-tells c es now to m t.sane r ∙ ap (λ js. js ++ below m (entries_of M Sane adds c es)) t.answered ∙ sym (filter-append (λ entry. nat_lt entry.moment m) journal (entries_of M Sane adds c es));
    good = λ peer low. good-append false course (course_of M shape c es) m peer ∙ ap (λ x. good_from x (course_of M shape c es) m peer) (t.good peer low) ∙ good-tells M shape c es now to m peer low r;
    taken = λ shard low. taken-append 0 course (course_of M shape c es) m shard ∙ ap (λ x. taken_from x (course_of M shape c es) m shard) (t.taken shard low) ∙ taken-tells M shape obeys.rise c es now to m shard low r;
  }

  -- what a run of events leaves at each moment, with its course and its entries, is a line of the top call
  pub run-advances : (course : List CourseItem) (journal : List JournalEntry) (now to : ℕ) (disks disks' : List Standing) (c : State) (es : List (Event × ℕ)) → now ≤ to → Rises M now es to
      → ((peer m : ℕ) (side : Side) → m ≤ now → m < 2 ^ 64 - 1 → (disk_at disks' peer).past m side ≡ (disk_at disks peer).past m side)
      → Rests M Sane shape course journal now disks c → ListsAtMoments M c es (record { before = now; now = to; disks = disks' }) → Keeps M (runs M c es) to disks'
      → Advances M Sane shape now to course (course ++ course_of M shape c es) journal (journal ++ entries_of M Sane adds c es) disks disks' (runs M c es)
  run-advances course journal now to disks disks' c es le r earlier rests lists keeps = record {
    later = le;
    more = entries_of M Sane adds c es;
    added = refl;
    entered = entries-late c es now to (rests.tells (now + 1) (omega arith)).sane r;
    noted = course_of M shape c es;
    gone_on = refl;
    items = course-late c es now to r;
    earlier = earlier;
    moments = λ m low high fits. record {
      core = state_at M c es m;
      tells = tells-at course journal c es now to m r (rests.tells m low);
      lists = λ peer counted image left. lists.fine m peer low high fits counted image left;
    };
    rests = record {
      keeps = keeps;
      tells = λ m above. subst (λ d. Tells M Sane shape (course ++ course_of M shape c es) (journal ++ entries_of M Sane adds c es) m d) (ap (λ fs. runs M c fs) (until-all M m now to es r above)) (tells-at course journal c es now to m r (rests.tells m (omega (arith, le, above))));
    };
  }
