-- What a core knows a peer to have sealed behind the events of a book: the last number that was reported of it.
use Rattle.std.proofs.Common.{◌≡◌, ◌≢◌, ◌∙◌, ◌⊎◌, inl, inr, sym, ap, subst, refl, ℕ, zero, suc, ◌+◌, ◌-◌, ◌<◌, ◌≤◌, ◌==◌, ◌++◌, Bool, true, false, List, [], ◌∷◌, length, take, drop, map, Option, Some, None, is_none, if◌then◌else◌, eqb-true, arith}
use Rattle.std.proofs.lemmas.Bool.{cases_eq, eq-eqb, ne_eqb}
use Rattle.std.specs.List.{enumerate_from, range_with_len}
use Rattle.std.specs.Option.{option_map, option_map_or}
use Rattle.std.specs.Prelude.{slice_get}
use Rattle.hs_anatomy.proofs.StepLemmas.{step_is}
use Rattle.hs_anatomy.specs.Acts.{begun, without_job}
use Rattle.hs_book.proofs.CalmLemmas.{nobody_joins}
use Rattle.hs_book.specs.Events.{AreBookSteps, IsBookEvent}
use Rattle.hs_book.specs.History.{NobodyJoins}
use Rattle.hs_book.specs.Reports.{numbers_along, numbers_of}
use Rattle.hs_cluster.proofs.StretchLemmas.{steps_shape}
use Rattle.hs_cluster.proofs.TakenLemmas.{home_within}
use Rattle.hs_copies.specs.Machine.{Copies}
use Rattle.hs_core_copies.proofs.JobLemmas.{AppendsFirst, FirstTask, ReadsFirst, SealsFirst}
use Rattle.hs_core_copies.proofs.ReportLemmas.{IsQueued, found, queued_disk, queued_first}
use Rattle.hs_core_copies.specs.InStep.{IsInStep, IsOf}
use Rattle.hs_core_copies.specs.Jobs.{unsealed}
use Rattle.hs_core_words.specs.Changing.{note}
use Rattle.hs_core_words.specs.declared.event.Event.{Event}
use Rattle.hs_core_words.specs.declared.event.Event.TheVariants as event
use Rattle.hs_core_words.specs.declared.task.Task.{Task}
use Rattle.hs_core_words.specs.Looking.{first_task, group_of, home, sealed_of, status_of}
use Rattle.hs_core_words.specs.Reporting.{on_report}
use Rattle.hs_core_words.specs.State.{Core}
use Rattle.hs_core_words.specs.Step.{do_event, end_event, step}
use Rattle.hs_desk.specs.Answers.{answers}
use Rattle.hs_desk.specs.Slips.{stored_by}
use Rattle.hs_desk.specs.declared.done.Done.{Done}
use Rattle.hs_desk.specs.declared.done.Done.TheVariants as done
use Rattle.hs_desk.specs.declared.job.Job.{Job}
use Rattle.hs_desk.specs.declared.job.Job.TheVariants as job
use Rattle.hs_entry.specs.declared.entry.Entry.{Entry}
use Rattle.hs_events.specs.Course.{steps}
use Rattle.hs_events.specs.Due.{Events, is_answer}
use Rattle.hs_journal.specs.declared.entry.Who.TheVariants as who
use Rattle.hs_limits.specs.Shape.{IsShape}
use Rattle.hs_limits.specs.declared.limits.PeerStatus.{PeerStatus}
use Rattle.hs_limits.specs.declared.limits.PeerStatus.TheVariants.{Down, Good, Joining}
use Rattle.hs_limits.specs.declared.shape.Shape.{Shape}
use Rattle.hs_members.specs.Members.{IsPeer, is_joining}
use Rattle.hs_model.specs.declared.deed.Deed.TheVariants as deed
use Rattle.hs_model.specs.declared.reply.Reply.TheVariants as reply
use Rattle.hs_quiet.specs.Keeping.{AreInStep}
use Rattle.hs_replica.specs.Group.{Group, copy_of, entries_above, length_of}
use Rattle.hs_steady.proofs.FaresLemmas.{Fares, Left, Off, falls_down, leaves_end, untold_fares}
use Rattle.hs_steady.proofs.LeavesLemmas.{Leaves}
use Rattle.hs_steady.proofs.TakenLemmas.{sealed_sealed, told_of, work_told}
use Rattle.hs_summed.proofs.OpensLemmas.{still_none}

-- ---- numbers

-- the last of some numbers, or one before them
abbrev pub last_or : ℕ → List ℕ → ℕ
last_or x [] = x
last_or x (n ∷ ns) = last_or n ns

pub last_join : (x : ℕ) (xs ys : List ℕ) → last_or x (xs ++ ys) ≡ last_or (last_or x xs) ys
last_join x [] ys = refl
last_join x (n ∷ xs) ys = last_join n xs ys

pub last_range : (x n : ℕ) → last_or x (range_with_len (x + 1) n) ≡ x + n
last_range x zero = omega arith
last_range x (suc n) = let rest = last_range (x + 1) n in omega (arith, rest)

-- each is above 0
abbrev pub AreCounted : List ℕ → Type 0
AreCounted [] = Unit {0}
AreCounted (n ∷ ns) = (1 ≤ n) × AreCounted ns

pub counted_join : (xs ys : List ℕ) → AreCounted xs → AreCounted ys → AreCounted (xs ++ ys)
counted_join [] ys a b = b
counted_join (x ∷ xs) ys a b = (a.0, counted_join xs ys a.1 b)

pub counted_last : (xs : List ℕ) → AreCounted (xs ++ 0 ∷ []) → ⊥
counted_last [] a = let low : 1 ≤ 0 = a.0 in omega (arith, low)
counted_last (x ∷ xs) a = counted_last xs a.1

pub counted_at : (xs : List ℕ) (k : ℕ) → AreCounted xs → option_map_or (λ number. number == 0) (slice_get xs k) false ≡ false
counted_at [] k a = refl
counted_at (x ∷ xs) zero a = ne_eqb x 0 (λ is. let low = a.0 in omega (arith, is, low))
counted_at (x ∷ xs) (suc k) a = counted_at xs k a.1

-- ---- what is not sealed is numbered from 1 on

-- a front of what is left of numbered entries
above_one : (n k from : ℕ) (entries : List Entry) (first : ℕ × Entry) (others : List (ℕ × Entry)) → take n (drop k (enumerate_from (from + 1) entries)) ≡ first ∷ others → 1 ≤ first.0
above_one zero k from entries first others e = let wrong : [] ≡ first ∷ others = e in absurd (cc wrong)
above_one (suc n) zero from [] first others e = let wrong : [] ≡ first ∷ others = e in absurd (cc wrong)
above_one (suc n) (suc k) from [] first others e = let wrong : [] ≡ first ∷ others = e in absurd (cc wrong)
above_one (suc n) zero from (x ∷ xs) first others e =
    let same : (from + 1, x) ≡ first = cc e in
    let number : from + 1 ≡ first.0 = ap (λ (y : ℕ × Entry). y.0) same in
    omega (arith, number)
above_one (suc n) (suc k) from (x ∷ xs) first others e = above_one (suc n) k (from + 1) xs first others e

-- ---- one event

-- a peer that is good behind an event was good before, and is known to have sealed what was reported of it
pub record Tells (p : ℕ) (c d : Core) (numbers : List ℕ) : Type 0 where
  pub up : status_of p c ≡ Good
  pub sealed : sealed_of p d ≡ last_or (sealed_of p c) numbers
  pub some : AreCounted numbers

module _ (p at : ℕ) (c : Core) (g : ℕ) (s : Copies Entry) (st : IsInStep g c s) (own : IsOf c.members.shape g p) (calm : NobodyJoins c) (going : c.ended ≡ None) where
  -- it is left what it has
  left_tells : (d : Core) → Leaves p c d → status_of p d ≡ Good → Tells p c d []
  left_tells d l good = record { up = sym l.status ∙ good; sealed = l.work.sealed; some = tt }

  fares_tells : (e : Event) (d : Core) → Fares p e c d → status_of p d ≡ Good → Tells p c d []
  fares_tells e d (Left l) good = left_tells d l good
  fares_tells e d (Off off why) good = absurd (off (inl good))

  module _ (task : Task) (first : first_task p c ≡ Some task) where
    queued : IsQueued p c task
    queued = elim (found g p c s st own task first) [
      | inl q ↦ q
      | inr t ↦ (let wrong : true ≡ false = sym (ap is_joining t.joins) ∙ calm p in absurd (cc wrong))
    ]

    first_is : FirstTask (unsealed p (group_of g c)) task queued.rest
    first_is = queued_first g p c s st own task queued

    -- it seals a number above 0
    seals_one : (number : ℕ) → answers p task.job (done.Sealed number) ≡ true → FirstTask (unsealed p (group_of g c)) task queued.rest → 1 ≤ number
    seals_one number a (ReadsFirst n is j) = let wrong : false ≡ true = sym (ap (λ (x : Job). answers p x (done.Sealed number)) is) ∙ a in absurd (cc wrong)
    seals_one number a (AppendsFirst one others behind all is left j) = let wrong : false ≡ true = sym (ap (λ (x : Job). answers p x (done.Sealed number)) is) ∙ a in absurd (cc wrong)
    seals_one number a (SealsFirst one others all is j) =
        let same : (number == one.0) ≡ true = sym (ap (λ (x : Job). answers p x (done.Sealed number)) is) ∙ a in
        let number_is : number ≡ one.0 = eqb-true number one.0 same in
        let low : 1 ≤ one.0 = above_one _ _ (group_of g c).front (group_of g c).waiting one others all in
        omega (arith, number_is, low)

    -- it is no job that empties, copies or reclaims
    no_other : (d : Done) → ((n : ℕ) → answers p (job.Read n) d ≡ false) → ((n : ℕ) (entry : Entry) → answers p (job.Append n entry) d ≡ false) → ((n : ℕ) → answers p (job.Seal n) d ≡ false) → answers p task.job d ≡ true → FirstTask (unsealed p (group_of g c)) task queued.rest → ⊥
    no_other d read append seal a (ReadsFirst n is j) = let wrong : false ≡ true = sym (read n) ∙ sym (ap (λ (x : Job). answers p x d) is) ∙ a in cc wrong
    no_other d read append seal a (AppendsFirst one others behind all is left j) = let wrong : false ≡ true = sym (append one.0 one.1) ∙ sym (ap (λ (x : Job). answers p x d) is) ∙ a in cc wrong
    no_other d read append seal a (SealsFirst one others all is j) = let wrong : false ≡ true = sym (seal one.0) ∙ sym (ap (λ (x : Job). answers p x d) is) ∙ a in cc wrong

    fails_is : (b : Core) → first_task p b ≡ Some task → answers p task.job (done.Failed p) ≡ true → status_of p (on_report p (done.Failed p) b) ≡ Down
    fails_is b f a = rw (f, a) (falls_down p (note who.Store deed.Nothing (reply.Down p (without_job p b).progress.event_line) (without_job p b)))

    -- a peer whose disk failed is down
    failed_down : (disk : ℕ) → answers p task.job (done.Failed disk) ≡ true → status_of p (step (event.Report p (done.Failed disk)) at c) ≡ Down
    failed_down disk a =
        let same : disk ≡ p = queued_disk g p c s st own task first disk queued a in
        subst (λ (k : ℕ). status_of p (step (event.Report p (done.Failed k)) at c) ≡ Down) (sym same)
        (ap (λ (x : Core). status_of p x) (step_is (event.Report p (done.Failed p)) at c going)
        ∙ (leaves_end p (do_event (event.Report p (done.Failed p)) (begun (event.Report p (done.Failed p)) at c))).status
        ∙ fails_is (begun (event.Report p (done.Failed p)) at c) first (subst (λ (k : ℕ). answers p task.job (done.Failed k) ≡ true) same a))

    own_tells : (d : Done) → answers p task.job d ≡ true → status_of p (step (event.Report p d) at c) ≡ Good → Tells p c (step (event.Report p d) at c) (stored_by d)
    own_tells (done.Stored number) a good = let l = work_told g p (done.Stored number) at c s st own going task first a tt in record { up = queued.good; sealed = l.work.sealed; some = tt }
    own_tells (done.Sealed number) a good =
        let l = work_told g p (done.Sealed number) at c s st own going task first a tt in
        record { up = queued.good; sealed = l.work.sealed ∙ sealed_sealed g p c s st own number; some = (seals_one number a first_is, tt) }
    own_tells (done.Bytes number bytes) a good = let l = work_told g p (done.Bytes number bytes) at c s st own going task first a tt in record { up = queued.good; sealed = l.work.sealed; some = tt }
    own_tells (done.Gone number) a good = let l = work_told g p (done.Gone number) at c s st own going task first a tt in record { up = queued.good; sealed = l.work.sealed; some = tt }
    own_tells done.Emptied a good = absurd (no_other done.Emptied (λ n. refl) (λ n entry. refl) (λ n. refl) a first_is)
    own_tells (done.Copied number) a good = absurd (no_other (done.Copied number) (λ n. refl) (λ n entry. refl) (λ n. refl) a first_is)
    own_tells (done.Stepped switched) a good = absurd (no_other (done.Stepped switched) (λ n. refl) (λ n entry. refl) (λ n. refl) a first_is)
    own_tells (done.Failed disk) a good = let wrong : Down ≡ Good = sym (failed_down disk a) ∙ good in absurd (cc wrong)

  -- a report of its own
  report_tells : (d : Done) → is_answer c p d ≡ true → status_of p (step (event.Report p d) at c) ≡ Good → Tells p c (step (event.Report p d) at c) (stored_by d)
  report_tells d a good = go (first_task p c) refl
    where
      go : (o : Option Task) → first_task p c ≡ o → Tells p c (step (event.Report p d) at c) (stored_by d)
      go None e = let wrong : false ≡ true = sym (ap (λ (o : Option Task). option_map_or (λ j. answers p j d) (option_map (λ (t : Task). t.job) o) false) e) ∙ a in absurd (cc wrong)
      go (Some task) e = own_tells task e d (sym (ap (λ (o : Option Task). option_map_or (λ j. answers p j d) (option_map (λ (t : Task). t.job) o) false) e) ∙ a) good

  -- an event that is none
  other_tells : (e : Event) → ((d : Done) → e ≡ event.Report p d → is_answer c p d ≡ true → ⊥) → status_of p (step e at c) ≡ Good → Tells p c (step e at c) []
  other_tells e none good = fares_tells e (step e at c) (untold_fares g p e at c s st own going none) good

  one_tells : (e : Event) → IsBookEvent c e → status_of p (step e at c) ≡ Good → Tells p c (step e at c) (numbers_of p e)
  one_tells (event.Line line o) may good = other_tells (event.Line line o) (λ d is. let wrong : event.Line line o ≡ event.Report p d = is in absurd (cc wrong)) good
  one_tells (event.Report q d) may good = elim (cases_eq q p) [
    | inl i ↦ subst (λ (k : ℕ). Tells p c (step (event.Report k d) at c) (numbers_of p (event.Report k d))) (sym i)
        (subst (λ (ns : List ℕ). Tells p c (step (event.Report p d) at c) ns) (sym (same_numbers d))
        (report_tells d (subst (λ (k : ℕ). is_answer c k d ≡ true) i may.1) (subst (λ (k : ℕ). status_of p (step (event.Report k d) at c) ≡ Good) i good)))
    | inr n ↦ subst (λ (ns : List ℕ). Tells p c (step (event.Report q d) at c) ns) (sym (ap (λ (b : Bool). if b then stored_by d else []) (ne_eqb q p n)))
        (other_tells (event.Report q d) (λ x is. let same : event.Report q d ≡ event.Report p x = is in (let peers : q ≡ p = cc same in absurd (n peers))) good)
  ]
    where
      same_numbers : (d : Done) → numbers_of p (event.Report p d) ≡ stored_by d
      same_numbers d = ap (λ (b : Bool). if b then stored_by d else []) (eq-eqb p p refl)
  one_tells (event.Deliver line number) may good = other_tells (event.Deliver line number) (λ d is. let wrong : event.Deliver line number ≡ event.Report p d = is in absurd (cc wrong)) good
  one_tells (event.Turn line q) may good = absurd may
  one_tells (event.Lose line number) may good = absurd may
  one_tells (event.Repeat line number) may good = absurd may
  one_tells (event.Nudge line q) may good = absurd may
  one_tells (event.Fail line q) may good = absurd may
  one_tells (event.Start line q) may good = absurd may

-- ---- along a book

-- what hs_quiet says of one event
abbrev pub StepsInStep : Type 0
StepsInStep = (e : Event) (moment : ℕ) (c : Core) → AreInStep c → (step e moment c).ended ≡ None → AreInStep (step e moment c)

module _ (in_step : StepsInStep) (p : ℕ) where
  pub book_tells : (es : Events) (c : Core) → AreInStep c → NobodyJoins c → IsShape c.members.shape → IsPeer c.members.shape p → AreBookSteps c es → (steps c es).ended ≡ None → status_of p (steps c es) ≡ Good
      → Tells p c (steps c es) (numbers_along p c es)
  book_tells [] c all calm shape low may going good = record { up = good; sealed = refl; some = tt }
  book_tells (e ∷ es) c all calm shape low may going good =
      let d : Core = step e.0 e.1 c in
      let on : (step e.0 e.1 c).ended ≡ None = still_none (step e.0 e.1 c) es going in
      let same : (step e.0 e.1 c).members.shape ≡ c.members.shape = steps_shape (e ∷ []) c in
      let rest : Tells p (step e.0 e.1 c) (steps (step e.0 e.1 c) es) (numbers_along p (step e.0 e.1 c) es)
      = book_tells es (step e.0 e.1 c) (in_step e.0 e.1 c all on) (nobody_joins c (e ∷ []) (may.0, tt) calm)
      (subst IsShape (sym same) shape) (subst (λ (x : Shape). IsPeer x p) (sym same) low) may.1 going good in
      let within = home_within c.members.shape p (let few = shape.some_copy in omega (arith, few)) low in
      let m = all.each (home p c) within in
      let one : Tells p c (step e.0 e.1 c) (numbers_of p e.0) = one_tells p e.1 c (home p c) m.0 m.1 refl calm may.0.going e.0 may.0.may rest.up in
      let taken : numbers_along p c (e ∷ es) ≡ numbers_of p e.0 ++ numbers_along p (step e.0 e.1 c) es = ap (λ (b : Bool). (if b then numbers_of p e.0 else []) ++ numbers_along p (step e.0 e.1 c) es) (ap is_none on) in
      record {
        up = one.up;
        sealed = rest.sealed ∙ ap (λ x. last_or x (numbers_along p (step e.0 e.1 c) es)) one.sealed ∙ sym (last_join (sealed_of p c) (numbers_of p e.0) (numbers_along p (step e.0 e.1 c) es)) ∙ ap (λ ns. last_or (sealed_of p c) ns) (sym taken);
        some = subst AreCounted (sym taken) (counted_join (numbers_of p e.0) (numbers_along p (step e.0 e.1 c) es) one.some rest.some);
      }
