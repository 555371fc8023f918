-- Of a disk that tells its contents there are at most so many notes more than its count rose by.
use Rattle.std.proofs.Common.{◌≡◌, ◌⊎◌, inl, inr, ◌∙◌, ap, sym, subst, ℕ, zero, suc, ◌+◌, ◌-◌, ◌*◌, ◌^◌, ◌<◌, ◌≤◌, ◌==◌, ◌&&◌, ◌||◌, ◌++◌, Bool, true, false, cond, not, List, [], ◌∷◌, Option, Some, None, refl, arith, append-nil, is_none, min}
use Rattle.std.proofs.lemmas.Bool.{cases_eq, cases_lt, eq-eqb, eqb-true}
use Rattle.std.proofs.lemmas.List.{append_assoc}
use Rattle.std.proofs.lemmas.Nat.{div_below}
use Rattle.std.proofs.lemmas.Bool.Decides.{nat_tests}
use Rattle.std.proofs.lemmas.List.Elements.{All-contains, All-from_recursion}
use Rattle.std.proofs.lemmas.List.Sums.{sum_by-cons}
use Rattle.std.proofs.Math.Nat.{le-min, min-le_left, min-le_right}
use Rattle.std.specs.List.{AllByRecursion, list_any, range_with_len, slice_get}
use Rattle.std.specs.Option.{option_map_or}
use Rattle.std.specs.Prelude.{Contains, count_by, if◌then◌else◌}
use Rattle.hs_settled.proofs.CourseLemmas.{InRange, any_left, find_in, never_good, no_good, not_begins, taken_begins}
use Rattle.hs_settled.proofs.AddingLemmas.{GoesOn}
use Rattle.hs_settled.proofs.CausesFirstLemmas.{IsFirst, members_first, room_first, told_first}
use Rattle.hs_settled.proofs.CausesGoodLemmas.{last_opened, no_events, opened_good}
use Rattle.hs_settled.proofs.KeptLemmas.{Kept, all_answer, all_go_on, all_own}
use Rattle.hs_settled.proofs.CausesListLemmas.{NoteAt, all_at, all_left, count_none, count_parts, not_both, one_if, some_is, some_note}
use Rattle.hs_settled.proofs.LostLemmas.{all_good}
use Rattle.hs_settled.proofs.NoteLemmas.{first_is_note, not_noted}
use Rattle.hs_settled.proofs.CausesRunLemmas.{all_ask_so, all_come_so, flat_is, last_is, mute, opened_kept}
use Rattle.hs_core_words.specs.Looking.{shape_of, status_of}
use Rattle.hs_core_words.specs.State.{Core}
use Rattle.hs_core_words.specs.Step.{step}
use Rattle.hs_desk.specs.declared.fault.CoreFault.{CoreFault}
use Rattle.hs_events.specs.Beginning.{first_items}
use Rattle.hs_events.specs.Course.{items_of, steps}
use Rattle.hs_events.specs.Due.{Events}
use Rattle.hs_events.specs.Found.{first_core, opens_with, starts_good}
use Rattle.hs_events.specs.Reports.{failures}
use Rattle.hs_events.specs.Taken.{is_best, is_taken, taken_items, taken_peer}
use Rattle.hs_fold.specs.Shards.Course.{begins, is_good_of}
use Rattle.hs_fold.specs.Shards.Setting.{Numbered}
use Rattle.hs_journal.specs.declared.entry.JournalEntry.{JournalEntry}
use Rattle.hs_journal.specs.Notes.{down_in, is_first_note, is_first_noted, is_note, note_count}
use Rattle.hs_limits.specs.declared.shape.Shape.{Shape}
use Rattle.hs_limits.specs.Shape.{peer_of}
use Rattle.hs_standing.specs.Script.{all_events}
use Rattle.hs_members.specs.Members.{Members, home_of, is_good_status, status}
use Rattle.hs_model.specs.declared.course.CourseItem.{CourseItem}
use Rattle.hs_settled.proofs.NotedCountLemmas.{all_counts}
use Rattle.hs_settled.proofs.NotedFirstLemmas.{first_notes}
use Rattle.hs_ports.specs.Moments.{disk_at}
use Rattle.hs_ports.specs.Objects.{RoseBy, faults_at}
use Rattle.hs_promise.specs.Ending.{ending_of}
use Rattle.hs_promise.specs.Entry.{is_aside, tells_aside}
use Rattle.hs_promise.specs.Found.{IsLeftBehind, IsLostBefore, IsReadAs, IsSetAside, IsToldAside, told_failures}
use Rattle.hs_promise.specs.Lost.{extra_note, lost_taken}
use Rattle.hs_promise.specs.Machine.{Went, loss_count}
use Rattle.hs_promise.specs.Run.{DiskRose, Ran, Script}
use Rattle.hs_promise.specs.Story.{Story, all_events as all_of, last_core}
use Rattle.hs_side.specs.Current.{list_in}
use Rattle.hs_settled.specs.Opened.{IsAsideAs}
use Rattle.hs_told.specs.InTurn.{after_all, told_of}

-- ---- whom opening set aside

-- who is told to be down before any line, and is good at no time by the course, was set aside
aside_told : (peer : ℕ) (course : List CourseItem) (es : List JournalEntry) → AllByRecursion (λ i. is_good_of peer i ≡ false) course → list_any (tells_aside course peer) es ≡ is_first_noted peer es
aside_told peer course [] none = refl
aside_told peer course (e ∷ es) none =
    let same : tells_aside course peer e ≡ is_first_note peer e = ap (λ w. is_first_note peer e && not w) (never_good peer e.moment course none) ∙ and_yes (is_first_note peer e) in
    let rest : list_any (tells_aside course peer) es ≡ is_first_noted peer es = aside_told peer course es none in
    λ i. same i || rest i
  where
    and_yes : (b : Bool) → (b && true) ≡ b
    and_yes true = refl
    and_yes false = refl

aside_noted_first : (shards peer : ℕ) (course : List CourseItem) (es : List JournalEntry) → AllByRecursion (λ i. is_good_of peer i ≡ false) course → is_first_noted peer es ≡ true
    → (list_any (tells_aside course peer) es && not (begins shards course peer)) ≡ true
aside_noted_first shards peer course es none told =
    let noted : list_any (tells_aside course peer) es ≡ true = aside_told peer course es none ∙ told in
    let not_first : begins shards course peer ≡ false = not_begins shards peer course none in
    λ i. noted i && not (not_first i)

-- ---- counts

-- a count that rose by so much rose by less
pub rose_less : (m n a b : ℕ) → m ≤ n → RoseBy n a b → RoseBy m a b
rose_less m n a b le rose =
    let low : min (a + m) (2 ^ 64 - 1) ≤ a + m = min-le_left (a + m) (2 ^ 64 - 1) in
    let top : min (a + m) (2 ^ 64 - 1) ≤ 2 ^ 64 - 1 = min-le_right (a + m) (2 ^ 64 - 1) in
    let both : min (a + m) (2 ^ 64 - 1) ≤ min (a + n) (2 ^ 64 - 1) = le-min (omega (arith, low, le)) top in
    omega (arith, both, rose)

-- one that stands rose by nothing
pub stands_rose : (a b : ℕ) → a ≤ b → RoseBy 0 a b
stands_rose a b le = let low : min (a + 0) (2 ^ 64 - 1) ≤ a + 0 = min-le_left (a + 0) (2 ^ 64 - 1) in omega (arith, low, le)

one_more : (n : ℕ) → 1 ≤ 1 + n
one_more n = omega arith

pub less_none : (n : ℕ) → 0 - n ≡ 0
less_none n = omega arith

count_zero : (q : ℕ × ℕ → Bool) (xs : List (ℕ × ℕ)) → count_by q xs ≡ 0 → AllByRecursion (λ x. q x ≡ false) xs
count_zero q [] e = tt
count_zero q (x ∷ xs) e = go (q x) refl (λ k. count_zero q xs k)
  where
    all : count_by q (x ∷ xs) ≡ one_if (q x) + count_by q xs
    all = sum_by-cons (λ (y : ℕ × ℕ). one_if (q y)) x xs

    go : (b : Bool) → q x ≡ b → (count_by q xs ≡ 0 → AllByRecursion (λ y. q y ≡ false) xs) → AllByRecursion (λ y. q y ≡ false) (x ∷ xs)
    go true t ih = let one : one_if (q x) ≡ 1 = ap one_if t in absurd (omega (arith, all, one, e))
    go false t ih = let none : one_if (q x) ≡ 0 = ap one_if t in (t, ih (omega (arith, all, none, e)))

-- a peer that was lost before the core opened
lost_counts : (story : Story) (p moment : ℕ) → Contains story.found.lost (p, moment) → 1 ≤ loss_count story p
lost_counts story p moment among = elim (cases_lt 0 (loss_count story p)) [
  | inl some ↦ omega (arith, some)
  | inr none ↦
      let zero_count : count_by (λ (peer : ℕ × ℕ). peer.0 == p) story.found.lost ≡ 0 = omega (arith, none) in
      let each : AllByRecursion (λ (peer : ℕ × ℕ). (peer.0 == p) ≡ false) story.found.lost = count_zero (λ (peer : ℕ × ℕ). peer.0 == p) story.found.lost zero_count in
      let here : (p == p) ≡ false = All-contains (λ (peer : ℕ × ℕ). (peer.0 == p) ≡ false) story.found.lost (p, moment) (All-from_recursion (λ (peer : ℕ × ℕ). (peer.0 == p) ≡ false) story.found.lost each) among in
      absurd (not_both (sym (eq-eqb p p refl) ∙ here))
]

pub same_steps : (c : Core) (es : Events) → after_all c es ≡ steps c es
same_steps c [] = refl
same_steps c (e ∷ es) = same_steps (step e.0 e.1 c) es

ne_is : (a b : ℕ) → a < b → (a == b) ≡ false
ne_is a b lt = grind (arith, nat_tests, lt)

past_note : (n p : ℕ) (e : JournalEntry) → n ≤ p → IsFirst n e → is_note p e ≡ false
past_note n p e high first =
    let low : first.peer < n = first.low in
    ap (λ o. option_map_or (λ (d : ℕ × ℕ). d.0 == p) o false) (ap down_in first.told) ∙ ne_is first.peer p (omega (arith, low, high))

pub firsts_past : (n p : ℕ) (es : List JournalEntry) → n ≤ p → AllByRecursion (λ (e : JournalEntry). IsFirst n e) es → AllByRecursion (λ e. is_note p e ≡ false) es
firsts_past n p [] high h = tt
firsts_past n p (e ∷ es) high h = (past_note n p e high h.0, firsts_past n p es high h.1)

any_at : {X : Type 0} (p : X → Bool) (xs : List X) (i : ℕ) (x : X) → slice_get xs i ≡ Some x → p x ≡ true → list_any p xs ≡ true
any_at p [] i x at e = absurd cc
any_at p (y ∷ xs) zero x at e = ap (λ b. b || list_any p xs) (ap p (some_is y x at) ∙ e)
any_at p (y ∷ xs) (suc i) x at e = go (any_at p xs i x at e) (p y)
  where
    go : list_any p xs ≡ true → (b : Bool) → (b || list_any p xs) ≡ true
    go ih true = refl
    go ih false = ih

any_member : (p : ℕ → Bool) (n from k : ℕ) → InRange from n k → p k ≡ true → list_any p (range_with_len from n) ≡ true
any_member p zero from k at e = absurd (let a = at.from in let b = at.to in omega (arith, a, b))
any_member p (suc n) from k at e = elim (cases_eq from k) [
  | inl same ↦ ap (λ b. b || list_any p (range_with_len (from + 1) n)) (ap p same ∙ e)
  | inr apart ↦ later (p from) (any_member p n (from + 1) k (let a = at.from in let b = at.to in record { from = omega (arith, a, apart); to = omega (arith, b) }) e)
]
  where
    later : (b : Bool) → list_any p (range_with_len (from + 1) n) ≡ true → (b || list_any p (range_with_len (from + 1) n)) ≡ true
    later true k = refl
    later false k = k

rows : (n k w : ℕ) → k < n → k * w + w ≤ n * w
rows n k w low = grind (arith, low)

taken_is : (o : Option ℕ) (q : ℕ) → option_map_or (λ p. p == q) o false ≡ true → o ≡ Some q
taken_is None q e = absurd (cc e)
taken_is (Some p) q e = ap (λ k. Some k) (eqb-true p q e)

module _ (S : Script) (r : Ran) (story : Story) (went : Went S r story) (peer : ℕ) where
  abbrev opened : Core
  opened = first_core S.set story.found

  abbrev n : ℕ
  n = S.set.shape.shards * S.set.shape.copies

  abbrev told_all : List JournalEntry
  told_all = r.journal ++ r.refused

  opened_is : Kept (mute S.commands) S.set.shape S.set.limits opened
  opened_is = opened_kept S r story went

  -- what is handed back is what was told, or a part of it
  part : (Q : JournalEntry → Type 0) → AllByRecursion Q (told_of (last_core S story)) → AllByRecursion Q told_all
  part Q all = subst (λ es. AllByRecursion Q (es ++ r.refused)) (sym went.journal) (subst (λ es. AllByRecursion Q ((last_core S story).journal ++ es)) (sym went.refused) (go (ending_of r.ending).full))
    where
      go : (b : Bool) → AllByRecursion Q ((last_core S story).journal ++ (if b then (last_core S story).refused else []))
      go true = all
      go false = subst (λ es. AllByRecursion Q es) (sym (append-nil (last_core S story).journal)) (all_left Q (last_core S story).journal (last_core S story).refused all)

  part_count : note_count peer told_all ≤ note_count peer (told_of (last_core S story))
  part_count = subst (λ es. note_count peer (es ++ r.refused) ≤ note_count peer (told_of (last_core S story))) (sym went.journal)
      (subst (λ es. note_count peer ((last_core S story).journal ++ es) ≤ note_count peer (told_of (last_core S story))) (sym went.refused) (go (ending_of r.ending).full))
    where
      go : (b : Bool) → note_count peer ((last_core S story).journal ++ (if b then (last_core S story).refused else [])) ≤ note_count peer (told_of (last_core S story))
      go true = omega arith
      go false =
          let all : note_count peer (told_of (last_core S story)) ≡ note_count peer (last_core S story).journal + note_count peer (last_core S story).refused = count_parts peer (last_core S story).journal (last_core S story).refused in
          let same : note_count peer ((last_core S story).journal ++ []) ≡ note_count peer (last_core S story).journal = ap (λ (es : List JournalEntry). note_count peer es) (append-nil (last_core S story).journal) in
          omega (arith, all, same)

  firsts : AllByRecursion (λ (e : JournalEntry). IsFirst n e) (told_of opened)
  firsts = told_first S.set.shape S.set.limits (opens_with S.set story.found) story.found.opened went.found.goods

  -- ---- behind opening there are as many notes as failures

  pub counted : note_count peer (told_of (last_core S story)) ≡ note_count peer (told_of opened) + failures true peer opened (all_of story)
  counted =
      let es : Events = story.opening ++ all_events story.lines in
      let all : note_count peer (told_of (after_all opened es)) ≡ note_count peer (told_of opened) + failures true peer opened es =
      all_counts (mute S.commands) peer opened es opened_is.noted (all_own (mute S.commands) S.set.shape S.set.limits opened es opened_is (all_come_so S r story went) (all_ask_so S r story went))
      (all_answer (mute S.commands) S.set.shape S.set.limits opened es (all_ask_so S r story went)) in
      ap (λ (c : Core). note_count peer (told_of c)) (last_is S r story went ∙ sym (same_steps opened es)) ∙ all
      ∙ ap (λ es. note_count peer (told_of opened) + failures true peer opened (story.opening ++ es)) (sym (flat_is story.lines))

  most : note_count peer told_all ≤ note_count peer (told_of opened) + failures true peer opened (all_of story)
  most = let a : note_count peer told_all ≤ note_count peer (told_of (last_core S story)) = part_count in
      let b : note_count peer (told_of (last_core S story)) ≡ note_count peer (told_of opened) + failures true peer opened (all_of story) = counted in omega (arith, a, b)

  pub first_count : peer < S.set.shape.shards * S.set.shape.copies → note_count peer (told_of (first_core S.set story.found)) ≡ cond (starts_good story.found peer) 0 1
  first_count low =
      first_notes S.set.shape S.set.limits (opens_with S.set story.found) story.found.opened peer low
      ∙ ap (λ (m : Members). cond (is_good_status (status peer m)) 0 1) (sym (members_first S.set.shape S.set.limits (opens_with S.set story.found) story.found.opened went.found.goods))
      ∙ ap (λ b. cond b 0 1) (opened_good S r story went peer)

  -- who was not good is told of first
  first_noted : (q : ℕ) → q < n → starts_good story.found q ≡ false → is_first_noted q (told_of opened) ≡ true
  first_noted q low bad = any_at (is_first_note q) (told_of opened) there.place there.entry there.at noted
    where
      there : NoteAt q (told_of opened)
      there =
          let count : note_count q (told_of opened) ≡ 1 =
          first_notes S.set.shape S.set.limits (opens_with S.set story.found) story.found.opened q low
          ∙ ap (λ (m : Members). cond (is_good_status (status q m)) 0 1) (sym (members_first S.set.shape S.set.limits (opens_with S.set story.found) story.found.opened went.found.goods))
          ∙ ap (λ b. cond b 0 1) (opened_good S r story went q ∙ bad) in
          some_note q (told_of opened) (omega (arith, count))

      noted : is_first_note q there.entry ≡ true
      noted = go (is_first_note q there.entry) refl
        where
          go : (b : Bool) → is_first_note q there.entry ≡ b → is_first_note q there.entry ≡ true
          go true is = is
          go false is = absurd (not_both (sym there.note ∙ first_is_note n q there.entry (all_at (λ (e : JournalEntry). IsFirst n e) (told_of opened) there.place there.entry firsts there.at) is))

  goes : GoesOn opened.journal (steps opened (story.opening ++ all_events story.lines)).journal
  goes = all_go_on (mute S.commands) S.set.shape S.set.limits opened (story.opening ++ all_events story.lines) opened_is (all_come_so S r story went) (all_ask_so S r story went)

  journal_goes : r.journal ≡ opened.journal ++ goes.rest
  journal_goes = went.journal ∙ ap (λ (c : Core). c.journal) (last_is S r story went) ∙ goes.is

  -- so the journal of a core that goes on tells of it
  pub first_in_journal : (first_core S.set story.found).ended ≡ None → (q : ℕ) → q < S.set.shape.shards * S.set.shape.copies → starts_good story.found q ≡ false → is_first_noted q r.journal ≡ true
  first_in_journal going q low bad =
      let all : told_of opened ≡ opened.journal = ap (λ (es : List JournalEntry). opened.journal ++ es) (opened_is.noted.going going) ∙ append-nil opened.journal in
      ap (is_first_noted q) journal_goes ∙ any_left (is_first_note q) opened.journal goes.rest (ap (is_first_noted q) (sym all) ∙ first_noted q low bad)

  -- who is told of in opening is told of by what is handed back, or nothing is
  first_told : (q : ℕ) → q < n → starts_good story.found q ≡ false → (is_first_noted q told_all ≡ true) ⊎ (note_count peer told_all ≡ 0)
  first_told q low bad = elim (room_first S.set.shape S.set.limits (opens_with S.set story.found) story.found.opened went.found.goods) [
    | inl clean ↦ inl (in_front clean (ap (λ es. es ++ r.refused) journal_goes ∙ append_assoc opened.journal goes.rest r.refused))
    | inr none ↦ by_end none opened.ended refl
  ]
    where
      in_told : is_first_noted q (told_of opened) ≡ true
      in_told = first_noted q low bad

      in_front : opened.refused ≡ [] → told_all ≡ opened.journal ++ (goes.rest ++ r.refused) → is_first_noted q told_all ≡ true
      in_front clean is =
          ap (is_first_noted q) is
          ∙ any_left (is_first_note q) opened.journal (goes.rest ++ r.refused) (ap (is_first_noted q) (sym (ap (λ (es : List JournalEntry). opened.journal ++ es) clean ∙ append-nil opened.journal)) ∙ in_told)

      by_end : opened.journal ≡ [] → (o : Option CoreFault) → opened.ended ≡ o → (is_first_noted q told_all ≡ true) ⊎ (note_count peer told_all ≡ 0)
      by_end none None going =
          let all : told_of opened ≡ [] = ap (λ (es : List JournalEntry). opened.journal ++ es) (opened_is.noted.going going) ∙ append-nil opened.journal ∙ none in
          absurd (not_both (sym in_told ∙ ap (is_first_noted q) all))
      by_end none (Some f) over = by_full (ending_of r.ending).full refl
        where
          journal_is : r.journal ≡ opened.journal
          journal_is = went.journal ∙ ap (λ (c : Core). c.journal) (last_opened S r story went f over)

          refused_is : (b : Bool) → (ending_of r.ending).full ≡ b → r.refused ≡ (if b then opened.refused else [])
          refused_is b is = went.refused ∙ ap (λ t. if t then (last_core S story).refused else []) is ∙ ap (λ (c : Core). if b then c.refused else []) (last_opened S r story went f over)

          by_full : (b : Bool) → (ending_of r.ending).full ≡ b → (is_first_noted q told_all ≡ true) ⊎ (note_count peer told_all ≡ 0)
          by_full true is = inl (ap (λ es. is_first_noted q (es ++ r.refused)) journal_is ∙ ap (λ es. is_first_noted q (opened.journal ++ es)) (refused_is true is) ∙ in_told)
          by_full false is = inr (ap (λ es. note_count peer (es ++ r.refused)) (journal_is ∙ none) ∙ ap (λ es. note_count peer es) (refused_is false is))

  -- ---- a peer that was not good as the core opened

  module _ (low : peer < n) (bad : starts_good story.found peer ≡ false) where
    -- the log of another peer of its shard was the taken one, and was lost: that one begins the course, and is told of
    lost_before : (behind : IsLeftBehind S story peer) → (is_taken S.set.shape story.found.logs peer ≡ false) → (lost_taken S r peer ≡ true) ⊎ (note_count peer told_all ≡ 0)
    lost_before behind untaken = elim (first_told q q_low was.bad) [
      | inl noted ↦ inl (any_member (λ p. begins S.set.shape.shards r.course p && is_first_noted p told_all) S.set.shape.copies (peer_of S.set.shape (home_of S.set.shape peer) 0) q among (λ i. begun i && noted i))
      | inr none ↦ inr none
    ]
      where
        q : ℕ
        q = behind.lost.0

        was : IsLostBefore S r story behind.lost
        was = All-contains (IsLostBefore S r story) story.found.lost behind.lost went.found.lost behind.among

        its : taken_peer S.set.shape story.found.logs (home_of S.set.shape q) ≡ Some q
        its = taken_is (taken_peer S.set.shape story.found.logs (home_of S.set.shape q)) q was.taken

        place : InRange (peer_of S.set.shape (home_of S.set.shape q) 0) S.set.shape.copies q
        place = find_in (is_best S.set.shape story.found.logs (home_of S.set.shape q)) S.set.shape.copies (peer_of S.set.shape (home_of S.set.shape q) 0) q its

        home_low : home_of S.set.shape q < S.set.shape.shards
        home_low = subst (λ g. g < S.set.shape.shards) (sym behind.same_shard) (div_below peer S.set.shape.copies S.set.shape.shards some_copy low)
          where
            some_copy : 0 < S.set.shape.copies
            some_copy = let a = place.from in let b = place.to in omega (arith, a, b)

        q_low : q < n
        q_low =
            let row : home_of S.set.shape q * S.set.shape.copies + S.set.shape.copies ≤ S.set.shape.shards * S.set.shape.copies = rows S.set.shape.shards (home_of S.set.shape q) S.set.shape.copies home_low in
            let to = place.to in
            omega (arith, row, to)

        among : InRange (peer_of S.set.shape (home_of S.set.shape peer) 0) S.set.shape.copies q
        among = subst (λ g. InRange (peer_of S.set.shape g 0) S.set.shape.copies q) behind.same_shard place

        begun : begins S.set.shape.shards r.course q ≡ true
        begun =
            ap (λ course. begins S.set.shape.shards course q) (went.course ∙ append_assoc (taken_items S.set.shape story.found.logs r.old.moment) _ _)
            ∙ taken_begins S.set.shape story.found.logs r.old.moment q (home_of S.set.shape q) home_low its _

    extra : is_aside S r peer ≡ true → (is_none (list_in (disk_at r.old.disks peer).seen) || lost_taken S r peer) ≡ true → extra_note S r peer ≡ 1
    extra aside why = (λ i. if aside i && why i then 1 else 0)

    -- notes behind opening are failures of its disk
    module _ (lost : DiskRose r (loss_count story peer) peer)
        (failed : (first_core S.set story.found).ended ≡ None → DiskRose r (failures true peer (first_core S.set story.found) (all_of story) + loss_count story peer) peer)
        (told : IsToldAside S r story peer) (aside : is_taken S.set.shape story.found.logs peer ≡ false → (is_aside S r peer ≡ true) ⊎ (note_count peer (r.journal ++ r.refused) ≡ 0)) where
      abbrev fails : ℕ
      fails = failures true peer (first_core S.set story.found) (all_of story)

      once : note_count peer told_all ≤ 1 + fails
      once = let a = most in let b = first_count low ∙ ap (λ b. cond b 0 1) bad in omega (arith, a, b)

      none_fails : (f : CoreFault) → opened.ended ≡ Some f → fails ≡ 0
      none_fails f over = ap (failures true peer opened) (ap (λ es. story.opening ++ es) (flat_is story.lines) ∙ no_events S r story went f over)

      by_rise : (k : ℕ) → note_count peer told_all - extra_note S r peer ≤ k → DiskRose r k peer → DiskRose r (note_count peer told_all - extra_note S r peer) peer
      by_rise k most rose = rose_less (note_count peer told_all - extra_note S r peer) k (faults_at r.old.disk_faults peer) (faults_at r.new.disk_faults peer) most rose

      all_rose : DiskRose r (fails + loss_count story peer) peer
      all_rose = go opened.ended refl
        where
          go : (o : Option CoreFault) → opened.ended ≡ o → DiskRose r (fails + loss_count story peer) peer
          go None going = failed going
          go (Some f) over = let none = none_fails f over in rose_less (fails + loss_count story peer) (loss_count story peer) (faults_at r.old.disk_faults peer) (faults_at r.new.disk_faults peer) (omega (arith, none)) lost

      by_extra : extra_note S r peer ≡ 1 → DiskRose r (note_count peer told_all - extra_note S r peer) peer
      by_extra one_more = by_rise (fails + loss_count story peer) (let o = once in omega (arith, o, one_more)) all_rose

      by_none : note_count peer told_all ≡ 0 → DiskRose r (note_count peer told_all - extra_note S r peer) peer
      by_none none = by_rise (fails + loss_count story peer) (omega (arith, none)) all_rose

      by_loss : is_taken S.set.shape story.found.logs peer ≡ true → DiskRose r (note_count peer told_all - extra_note S r peer) peer
      by_loss taken =
          let there : (moment : ℕ) × Contains story.found.lost (peer, moment) = went.found.all_lost peer low taken bad in
          let some : 1 ≤ loss_count story peer = lost_counts story peer there.0 there.1 in
          by_rise (fails + loss_count story peer) (let o = once in omega (arith, o, some)) all_rose

      by_why : is_taken S.set.shape story.found.logs peer ≡ false → ((is_none (list_in (disk_at r.old.disks peer).seen) || lost_taken S r peer) ≡ true) ⊎ (note_count peer told_all ≡ 0) → DiskRose r (note_count peer told_all - extra_note S r peer) peer
      by_why untaken (inr none) = by_none none
      by_why untaken (inl why) = elim (aside untaken) [
        | inl is ↦ by_extra (extra is why)
        | inr none ↦ by_none none
      ]

      pub aside_noted : DiskRose r (note_count peer (r.journal ++ r.refused) - extra_note S r peer) peer
      aside_noted = by_taken (is_taken S.set.shape story.found.logs peer) refl told
        where
          or_right : (a b : Bool) → b ≡ true → (a || b) ≡ true
          or_right true b e = refl
          or_right false b e = e

          by_told : is_taken S.set.shape story.found.logs peer ≡ false → IsToldAside S r story peer → DiskRose r (note_count peer told_all - extra_note S r peer) peer
          by_told untaken (inl rose) = by_rise (1 + told_failures true S story peer) (let o = once in omega (arith, o)) rose
          by_told untaken (inr (inl none)) = by_why untaken (inl (ap (λ (o : Option Numbered). is_none o || lost_taken S r peer) none.1))
          by_told untaken (inr (inr behind)) = elim (lost_before behind untaken) [
            | inl gone ↦ by_why untaken (inl (or_right (is_none (list_in (disk_at r.old.disks peer).seen)) (lost_taken S r peer) gone))
            | inr none ↦ by_none none
          ]

          by_taken : (b : Bool) → is_taken S.set.shape story.found.logs peer ≡ b → IsToldAside S r story peer → DiskRose r (note_count peer told_all - extra_note S r peer) peer
          by_taken true taken why = by_loss taken
          by_taken false untaken why = by_told untaken why

    -- ---- its core ended as it opened

    module _ (f : CoreFault) (over : (first_core S.set story.found).ended ≡ Some f) (read : IsReadAs r story peer) where
      pub ended_told : IsToldAside S r story peer
      ended_told = go (went.found.aside peer low bad)
        where
          none : (told : Bool) → told_failures told S story peer ≡ 0
          none told = ap (failures told peer opened) (ap (λ es. story.opening ++ es) (flat_is story.lines) ∙ no_events S r story went f over)

          one_rose : DiskRose r 1 peer → DiskRose r (1 + told_failures true S story peer) peer
          one_rose rose = subst (λ k. DiskRose r (1 + k) peer) (sym (none true)) rose

          go : IsSetAside S r story peer → IsToldAside S r story peer
          go (inl rose) = inl (one_rose (subst (λ k. DiskRose r (1 + k) peer) (none false) rose))
          go (inr (inl blank)) = elim read [
            | inl seen ↦ inr (inl (blank, sym seen ∙ blank))
            | inr failed ↦ inl (one_rose failed.1)
          ]
          go (inr (inr behind)) = inr (inr behind)

      course_is : r.course ≡ first_items S.set.shape story.found r.old.moment
      course_is =
          went.course ∙ ap (λ es. first_items S.set.shape story.found r.old.moment ++ items_of opened es) (ap (λ es. story.opening ++ es) (flat_is story.lines) ∙ no_events S r story went f over)
          ∙ append-nil (first_items S.set.shape story.found r.old.moment)

      first_all : AllByRecursion (λ (e : JournalEntry). IsFirst n e) told_all
      first_all = part (λ (e : JournalEntry). IsFirst n e) (subst (λ (c : Core). AllByRecursion (λ (e : JournalEntry). IsFirst n e) (told_of c)) (sym (last_opened S r story went f over)) firsts)

      pub ended_aside : is_taken S.set.shape story.found.logs peer ≡ false → (is_aside S r peer ≡ true) ⊎ (note_count peer (r.journal ++ r.refused) ≡ 0)
      ended_aside untaken = go (is_first_noted peer told_all) refl
        where
          none : AllByRecursion (λ i. is_good_of peer i ≡ false) r.course
          none = subst (λ course. AllByRecursion (λ i. is_good_of peer i ≡ false) course) (sym course_is) (no_good S.set.shape story.found r.old.moment peer untaken bad)

          go : (b : Bool) → is_first_noted peer told_all ≡ b → (is_aside S r peer ≡ true) ⊎ (note_count peer (r.journal ++ r.refused) ≡ 0)
          go true t = inl (aside_noted_first S.set.shape.shards peer r.course told_all none t)
          go false t = inr (not_noted n peer told_all first_all t)

  -- ---- a core of one copy a shard has ended as it opened, where a peer is not good

  bad_ends : S.set.shape.copies ≡ 1 → peer < n → starts_good story.found peer ≡ false → opened.ended ≡ None → ⊥
  bad_ends one low bad going =
      let copies : (shape_of opened).copies ≡ 1 = ap (λ (z : Shape). z.copies) opened_is.shaped ∙ one in
      let shards_are : n ≡ S.set.shape.shards = ap (λ k. S.set.shape.shards * k) one ∙ omega arith in
      let within : peer < (shape_of opened).shards = (let s : (shape_of opened).shards ≡ S.set.shape.shards = ap (λ (z : Shape). z.shards) opened_is.shaped in omega (arith, low, s, shards_are)) in
      let good : is_good_status (status_of peer opened) ≡ true = ap is_good_status (all_good opened copies (opened_is.ends.going going) peer within) in
      not_both (sym good ∙ opened_good S r story went peer ∙ bad)

  pub notes_caused : (peer < S.set.shape.shards * S.set.shape.copies → IsReadAs r story peer) → DiskRose r (loss_count story peer) peer
      → ((first_core S.set story.found).ended ≡ None → DiskRose r (failures true peer (first_core S.set story.found) (all_of story) + loss_count story peer) peer)
      → ((S.set.shape.copies ≡ 1 → ⊥) → (first_core S.set story.found).ended ≡ None → peer < S.set.shape.shards * S.set.shape.copies → starts_good story.found peer ≡ false → IsAsideAs S r story peer)
      → DiskRose r (note_count peer (r.journal ++ r.refused) - extra_note S r peer) peer
  notes_caused read lost failed set_aside = elim (cases_lt peer n) [
    | inl low ↦ by_good low (starts_good story.found peer) refl
    | inr high ↦ by_none (count_none peer (told_of opened) (firsts_past n peer (told_of opened) high firsts)) opened.ended refl
  ]
    where
      -- its notes are failures that the core was told of
      by_none : note_count peer (told_of opened) ≡ 0 → (o : Option CoreFault) → opened.ended ≡ o → DiskRose r (note_count peer told_all - extra_note S r peer) peer
      by_none none None going = rose_less (note_count peer told_all - extra_note S r peer) (failures true peer opened (all_of story) + loss_count story peer) (faults_at r.old.disk_faults peer) (faults_at r.new.disk_faults peer)
          (let l = most in omega (arith, l, none)) (failed going)
      by_none none (Some f) over = rose_less (note_count peer told_all - extra_note S r peer) (loss_count story peer) (faults_at r.old.disk_faults peer) (faults_at r.new.disk_faults peer)
          (let a : note_count peer told_all ≤ note_count peer (told_of (last_core S story)) = part_count in
          let b : note_count peer (told_of (last_core S story)) ≡ note_count peer (told_of opened) = ap (λ (c : Core). note_count peer (told_of c)) (last_opened S r story went f over) in
          omega (arith, a, b, none)) lost

      by_bad : (low : peer < n) (bad : starts_good story.found peer ≡ false) → (o : Option CoreFault) → opened.ended ≡ o → DiskRose r (note_count peer told_all - extra_note S r peer) peer
      by_bad low bad (Some f) over = aside_noted low bad lost failed (ended_told low bad f over (read low)) (ended_aside low bad f over (read low))
      by_bad low bad None going = elim (cases_eq S.set.shape.copies 1) [
        | inl one ↦ absurd (bad_ends one low bad going)
        | inr several ↦ let why = set_aside several going low bad in aside_noted low bad lost failed why.told (λ untaken. inl (why.aside untaken))
      ]

      by_good : peer < n → (b : Bool) → starts_good story.found peer ≡ b → DiskRose r (note_count peer told_all - extra_note S r peer) peer
      by_good low true good = by_none (first_count low ∙ ap (λ b. cond b 0 1) good) opened.ended refl
      by_good low false bad = by_bad low bad opened.ended refl
