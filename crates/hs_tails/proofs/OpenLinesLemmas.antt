-- The lines of what disks may have stay open: as a run begins, and behind an event.
use Rattle.std.proofs.Common.{◌≡◌, ◌⊎◌, ◌∙◌, ap, sym, subst, refl, inl, inr, arith, ℕ, zero, suc, ◌+◌, ◌-◌, ◌<◌, Bool, true, false, List, [], ◌∷◌, ◌++◌, Some, None, cond, length, take}
use Rattle.std.specs.Prelude.{drop, map, nat_lt, slice_get}
use Rattle.hs_anatomy.proofs.StepLemmas.{step_is}
use Rattle.hs_anatomy.specs.Acts.{begun}
use Rattle.hs_answered.specs.Telling.{Judging}
use Rattle.hs_awaiting.specs.declared.waiting.Waiting.{Waiting}
use Rattle.hs_copies.specs.Lists.{IsFront, Item, end_view}
use Rattle.hs_copies.specs.Machine.{Copies}
use Rattle.hs_core_copies.proofs.StepsLemmas.{was_going}
use Rattle.hs_core_copies.specs.InStep.{IsInStep, IsOf}
use Rattle.hs_core_copies.specs.Lists.{numbered}
use Rattle.hs_core_words.specs.declared.event.Event.{Event}
use Rattle.hs_core_words.specs.Looking.{front_of, group_of, operation_of, shape_of}
use Rattle.hs_core_words.specs.State.{Core}
use Rattle.hs_core_words.specs.Step.{do_event, end_event, keep_entries, refuse_entries, step}
use Rattle.hs_effects.specs.Logged.{IsOrderly}
use Rattle.hs_entry.specs.declared.entry.Entry.{Entry}
use Rattle.hs_entry.specs.declared.entry.Entry.TheVariants as kind
use Rattle.hs_entry.specs.Entries.{IsPrefix}
use Rattle.hs_events.specs.Course.{steps}
use Rattle.hs_events.specs.Due.{Events}
use Rattle.hs_events.specs.Whole.{Whole, reach, step_whole}
use Rattle.hs_fold.specs.Shards.Setting.{Numbered}
use Rattle.hs_joint.proofs.HistoryLemmas.{shape_some}
use Rattle.hs_known_copies.proofs.KnownLemmas.{known, seated}
use Rattle.hs_limits.specs.declared.address.Address.{Address}
use Rattle.hs_limits.specs.declared.shape.Shape.{Shape}
use Rattle.hs_moments.specs.Machine.{runs}
use Rattle.hs_moments.specs.WholeMachine.{whole_machine}
use Rattle.hs_standing.proofs.AlongWalkLemmas.{do_refuses, knows_begun, may_begun, seated_begun}
use Rattle.hs_standing.proofs.AtomLemmas.{set_on}
use Rattle.hs_standing.proofs.BesideLemmas.{beside_begun, beside_ended}
use Rattle.hs_standing.proofs.RunLemmas.{LawsBelow}
use Rattle.hs_standing.proofs.StandLemmas.{NoLineWaitsTwice}
use Rattle.hs_standing.proofs.StandingLemmas.{standing_beside, walks_standing}
use Rattle.hs_standing.specs.Changes.{IsBeside}
use Rattle.hs_standing.specs.Legal.{IsStanding}
use Rattle.hs_standing.specs.Run.{MayRun}
use Rattle.hs_standing.specs.Standing.{AllMayKeep, MayKeep, judging_of}
use Rattle.hs_standing.specs.Start.{Start}
use Rattle.hs_whole_copies.proofs.ReachLemmas.{longest_front}
use Rattle.hs_whole_copies.specs.Whole.{IsShardInStep, longest}
use Rattle.hs_tails.proofs.AlongLemmas.{IsAlong}
use Rattle.hs_tails.proofs.ComingLemmas.{start_fresh}
use Rattle.hs_tails.proofs.EntryLemmas.{dropped_first, front_prefix, prefix_trans, tail_is, what}
use Rattle.hs_tails.proofs.FineLemmas.{does_fine}
use Rattle.hs_tails.proofs.FirstLemmas.{fresh_listed}
use Rattle.hs_tails.proofs.FrontLemmas.{front_open}
use Rattle.hs_tails.proofs.GoneLemmas.{began_at, gone_start, rests_alike}
use Rattle.hs_tails.proofs.LinedLemmas.{IsLined, Opened, Reached, Stands, lined_same, view_at}
use Rattle.hs_tails.proofs.LinedWalk.{fine_lined}
use Rattle.hs_tails.proofs.ReachLemmas.{reach_now}
use Rattle.hs_tails.proofs.SameViewLemmas.{HasSameViews}
use Rattle.hs_tails.proofs.StampedLemmas.{reached_by, reached_front, reached_stays}
use Rattle.hs_tails.proofs.StepLemmas.{in_step, k, kt, low_before, machines_on, own_before, shape_then, stay, stays, stood, tail_parts, tails_on, takes, waits_behind, words}
use Rattle.hs_tails.proofs.WaitsLemmas.{waits_open}
use Rattle.hs_tails.specs.Chosen.{tail_behind}
use Rattle.hs_tails.specs.Lines.{WaitsToLog, is_viewed}
use Rattle.hs_tails.specs.Run.{KeepsLinesOpen, RunsWithOpenTails, RunsWithTails, took_in}
use Rattle.hs_tails.specs.Tails.{HasOpenLines, RestsIn, TakesFirst}

-- the lines of a front of the lead's list are open
pub lead_lines : NoLineWaitsTwice → (name : List ℕ → Address) (c : Core) → IsOrderly name c → (g : ℕ) (s : Copies Entry) → IsInStep g c s → (list : List (Item Entry)) → IsFront list s.log → HasOpenLines c g (tail_behind (front_of g c) (numbered list))
lead_lines alone name c orderly g s st list f =
    let b = waits_behind g c s st list f in
    subst (λ es. HasOpenLines c g es) (sym (tail_is (front_of g c) list))
    (front_open c g (drop (front_of g c) (map what list)) b.0 (subst (λ es. HasOpenLines c g es) b.1 (waits_open alone name c orderly g)))

-- ---- lists

taken_first : (xs ys : List Entry) → take (length xs) (xs ++ ys) ≡ xs
taken_first [] ys = refl
taken_first (x ∷ xs) ys = ap (λ zs. x ∷ zs) (taken_first xs ys)

get_taken : (n i : ℕ) (xs : List Entry) (x : Entry) → i < n → slice_get xs i ≡ Some x → slice_get (take n xs) i ≡ Some x
get_taken zero i xs x low at = absurd (omega (arith, low))
get_taken (suc n) i [] x low at = at
get_taken (suc n) zero (y ∷ xs) x low at = at
get_taken (suc n) (suc i) (y ∷ xs) x low at = get_taken n i xs x (omega (arith, low)) at

get_behind : (xs ys : List Entry) (i : ℕ) → slice_get (xs ++ ys) (length xs + i) ≡ slice_get ys i
get_behind [] ys i = let same : 0 + i ≡ i = omega arith in ap (λ n. slice_get ys n) same
get_behind (x ∷ xs) ys i = let same : suc (length xs) + i ≡ suc (length xs + i) = omega arith in ap (λ n. slice_get (x ∷ (xs ++ ys)) n) same ∙ get_behind xs ys i

not_both : (b : Bool) → b ≡ true → b ≡ false → ⊥
not_both b p q = let wrong : true ≡ false = sym p ∙ q in cc wrong

-- ---- behind an event

module _ (below : LawsBelow) (start : Start) (c : Whole) (r : RunsWithTails start c) (keeps : KeepsLinesOpen c r.machines) (e : Event) (at : ℕ) (may : MayKeep start (MayRun start) c.core e at) (on : (step e at c.core).ended ≡ None) where
  abbrev by : Judging
  by = judging_of start

  abbrev s0 : Core
  s0 = begun e at c.core

  abbrev new : Core
  new = step e at c.core

  abbrev machines : ℕ → Copies Entry
  machines = (stay below start c r e at may on).machines

  tf : TakesFirst (judging_of start) start.entry c.core (step e at c.core) r.folds
  tf = takes below start c r e at may on

  beside : IsBeside c.core (begun e at c.core)
  beside = beside_begun e at c.core

  stands_s : IsStanding (judging_of start) start.entry (begun e at c.core) r.folds
  stands_s = standing_beside below.views below.steps below.laws (judging_of start) r.names start.entry r.valid c.core r.folds r.stands (begun e at c.core) beside

  abbrev Rested : ℕ → List Entry → Type 0
  Rested g tail = RestsIn start.set.name c.core r.folds g tail

  first_along : IsAlong (judging_of start) start.entry Rested (begun e at c.core) r.folds (λ g. []) (begun e at c.core)
  first_along = record {
    gone = gone_start below.views below.steps below.laws (judging_of start) r.names start.entry r.valid Rested (began_at (begun e at c.core) r.folds) (begun e at c.core) r.folds (λ g. refl) (λ g. refl) stands_s
        (λ g tail rests. rests_alike start.set.name c.core (begun e at c.core) r.folds g tail (set_on start.set.name c.core (begun e at c.core) beside.limits beside.shape) (beside.front g) rests) (λ h. h);
    listed = λ g. fresh_listed (begun e at c.core) g (begun e at c.core)
        (start_fresh (begun e at c.core) e (seated_begun e at c.core (seated c.core r.machines (in_step below start c r e at may on))) (knows_begun e at c.core (known c.core r.machines (in_step below start c r e at may on))) g);
  }

  same_end : (b : Core) → HasSameViews b (end_event b)
  same_end b = go (nat_lt b.limits.ops (length b.journal + length b.entries))
    where
      go : (t : Bool) → HasSameViews b (cond t (refuse_entries b) (keep_entries b))
      go true = record { viewed = refl; views = λ g. refl }
      go false = record { viewed = refl; views = λ g. refl }

  module _ (g : ℕ) (low : g < start.set.shape.shards) where
    abbrev s : Copies Entry
    s = r.machines g

    abbrev t : Copies Entry
    t = machines g

    ks : IsShardInStep g c (r.machines g)
    ks = k below start c r e at may on g low

    kn : IsShardInStep g (step_whole e at c) (machines g)
    kn = kt below start c r e at may on g low

    -- what a disk may have had behind what took effect
    abbrev Tail : List Entry → Type 0
    Tail es = (q : ℕ) × (IsOf (shape_of c.core) g q × (IsPrefix (took_in r.machines g) (reach c q) × (es ≡ tail_behind (front_of g c.core) (reach c q))))

    whole : is_viewed g (begun e at c.core) ≡ true → (es : List Entry) → Tail es → (more : List Entry) × ((group_of g (begun e at c.core)).waiting ≡ es ++ more)
    whole viewed es of =
        let q : ℕ = of.0 in
        let is = ks.reaches q of.1.0 in
        let list : List (Item Entry) = longest q c.core (r.machines g) in
        let m = longest_front g q c.core (r.machines g) ks.in_step of.1.0 in
        let st = ks.in_step.stands in
        let front : IsFront list (r.machines g).log =
        reached_front st.begun st.begun_at (r.machines g) st.faithful st.told (keeps.reached g (low_before below start c r e at may on g low) viewed) list m.0 m.1 (subst (λ (xs : Numbered). IsPrefix (took_in r.machines g) xs) is of.1.1.0) in
        let b = waits_behind g c.core (r.machines g) ks.in_step list front in
        let tail : es ≡ drop (front_of g c.core) (map what list) = of.1.1.1 ∙ ap (λ (xs : Numbered). tail_behind (front_of g c.core) xs) is ∙ tail_is (front_of g c.core) list in
        (b.0, b.1 ∙ ap (λ xs. xs ++ b.0) (sym tail))

    open_then : (es : List Entry) → HasOpenLines c.core g es → HasOpenLines (begun e at c.core) g es
    open_then es h = record { asked = λ i line x there asks. (let o = h.asked i line x there asks in record { waiting = o.waiting; at = o.at; judges = o.judges }); once = h.once }

    start_lined : IsLined g (begun e at c.core) Tail (begun e at c.core)
    start_lined = record { begun = keeps.parked.begun; state = go (is_viewed g (begun e at c.core)) refl }
      where
        zero_since : front_of g (begun e at c.core) - front_of g (begun e at c.core) ≡ 0
        zero_since = omega arith

        go : (b : Bool) → is_viewed g (begun e at c.core) ≡ b → Stands g (begun e at c.core) Tail (begun e at c.core)
        go true v = inl (v, inl (v, refl))
        go false v = inr (
          v,
          (
            (λ line w there of. keeps.parked.waits g line w (low_before below start c r e at may on g low) v there of),
            (λ es of begins.
                subst (λ m. HasOpenLines (begun e at c.core) g (drop m es)) (sym zero_since)
                (open_then es (subst (λ xs. HasOpenLines c.core g xs) (sym of.1.1.1) (keeps.lines g of.0 (low_before below start c r e at may on g low) of.1.0 of.1.1.0)))),
          ),
        )

    lined_then : IsLined g (begun e at c.core) Tail (step e at c.core)
    lined_then =
        let b : Core = do_event e (begun e at c.core) in
        let end : IsBeside b (end_event b) = beside_ended b (do_refuses e (begun e at c.core) ∙ r.turn.going r.whole.going) in
        let walked : IsLined g (begun e at c.core) Tail b =
        fine_lined below.views below.steps below.laws below.alone (judging_of start) r.names start.entry r.valid Rested (begun e at c.core) e
        (may_begun (walks_standing below.views below.steps below.laws (judging_of start) r.names start.entry r.valid) e at c.core may.may)
        (seated_begun e at c.core (seated c.core r.machines (in_step below start c r e at may on))) (knows_begun e at c.core (known c.core r.machines (in_step below start c r e at may on))) r.few (r.folds, stands_s) first_along
        g Tail whole start_lined b (does_fine (begun e at c.core) e) in
        subst (λ (x : Core). IsLined g (begun e at c.core) Tail x) (sym (step_is e at c.core r.whole.going)) (lined_same g (begun e at c.core) Tail b (end_event b) (same_end b) (end.front g) end.operations walked)

    fronts : front_of g (step e at c.core) ≡ front_of g c.core + length (tf.gone.took g)
    fronts = tf.gone.fronts g

    since_is : front_of g (step e at c.core) - front_of g (begun e at c.core) ≡ length (tf.gone.took g)
    since_is = let f = fronts in let was : front_of g (begun e at c.core) ≡ front_of g c.core = refl in omega (arith, f, was)

    stood_g : IsFront (machines g).took (r.machines g).log
    stood_g = stood below start c r e at may on g low

    took_stays : IsFront (r.machines g).took (machines g).took
    took_stays = stays (judging_of start) start.entry c.core (step e at c.core) r.folds tf g (r.machines g) (machines g) ks.in_step kn.in_step stood_g

    -- an entry of the view took effect
    reached_now : Reached g (begun e at c.core) Tail (step e at c.core) → end_view 0 (machines g).took ≡ (machines g).view
    reached_now (inl h) =
        let st = kn.in_step.stands in
        let was : end_view 0 (r.machines g).took ≡ (r.machines g).view = keeps.reached g (low_before below start c r e at may on g low) h.0 in
        reached_stays st.begun st.begun_at (machines g) st.faithful st.told (r.machines g).took took_stays (was ∙ sym ks.in_step.stands.view ∙ sym h.1 ∙ st.view)
    reached_now (inr h) =
        let st = kn.in_step.stands in
        let place : ℕ = h.0 in
        let n = since_is in
        let low_place = h.1.0 in
        let there : slice_get (tf.gone.took g) place ≡ Some (kind.View (view_at g (step e at c.core))) =
        ap (λ (xs : List Entry). slice_get xs place) (tf.first g) ∙ get_taken (length (tf.gone.took g)) place (group_of g c.core).waiting (kind.View (view_at g (step e at c.core))) (omega (arith, n, low_place)) h.1.1 in
        let entry : slice_get (map what (machines g).took) (length (map what (r.machines g).took) + place) ≡ Some (kind.View (machines g).view) =
        ap (λ (xs : List Entry). slice_get xs (length (map what (r.machines g).took) + place)) (words (judging_of start) start.entry c.core (step e at c.core) r.folds tf g (r.machines g) (machines g) ks.in_step kn.in_step stood_g)
        ∙ get_behind (map what (r.machines g).took) (tf.gone.took g) place ∙ there ∙ ap (λ v. Some (kind.View v)) st.view in
        reached_by st.begun st.begun_at (machines g) st.faithful st.told (length (map what (r.machines g).took) + place) entry

    reached_then : is_viewed g (step e at c.core) ≡ true → end_view 0 (machines g).took ≡ (machines g).view
    reached_then viewed = by_state lined_then.state
      where
        by_state : Stands g (begun e at c.core) Tail (step e at c.core) → end_view 0 (machines g).took ≡ (machines g).view
        by_state (inl h) = reached_now h.1
        by_state (inr h) = absurd (not_both (is_viewed g (step e at c.core)) viewed h.0)

    parked_then : is_viewed g (step e at c.core) ≡ false → (line : ℕ) (w : Waiting) → operation_of line (step e at c.core) ≡ Some w → w.shard ≡ g → WaitsToLog w.wait
    parked_then viewed line w there of = by_state lined_then.state
      where
        by_state : Stands g (begun e at c.core) Tail (step e at c.core) → WaitsToLog w.wait
        by_state (inl h) = absurd (not_both (is_viewed g (step e at c.core)) h.0 viewed)
        by_state (inr h) = h.1.0 line w there of

    module _ (q : ℕ) (own : IsOf (shape_of (step e at c.core)) g q) (has : IsPrefix (took_in machines g) (reach (step_whole e at c) q)) where
      -- the lead's
      of_lead : IsFront (longest q (step e at c.core) (machines g)) (machines g).log → HasOpenLines (step e at c.core) g (tail_behind (front_of g (step e at c.core)) (reach (step_whole e at c) q))
      of_lead front =
          subst (λ (xs : Numbered). HasOpenLines (step e at c.core) g (tail_behind (front_of g (step e at c.core)) xs)) (sym (kn.reaches q own))
          (lead_lines below.alone start.set.name (step e at c.core) tf.gone.stands.orderly g (machines g) kn.in_step (longest q (step e at c.core) (machines g)) front)

      -- one that was there
      of_old : Opened g (begun e at c.core) Tail (step e at c.core) → reach (step_whole e at c) q ≡ reach c q → HasOpenLines (step e at c.core) g (tail_behind (front_of g (step e at c.core)) (reach (step_whole e at c) q))
      of_old opened same =
          let own_b : IsOf (shape_of c.core) g q = own_before below start c r e at may on g low q own in
          let list : List (Item Entry) = longest q c.core (r.machines g) in
          let is : reach c q ≡ numbered list = ks.reaches q own_b in
          let now : IsPrefix (took_in machines g) (numbered list) = subst (λ (xs : Numbered). IsPrefix (took_in machines g) xs) (same ∙ is) has in
          let p = tail_parts (judging_of start) start.entry c.core (step e at c.core) r.folds tf g (r.machines g) (machines g) ks.in_step kn.in_step stood_g list now in
          let took : List Entry = tf.gone.took g in
          let es : List Entry = tail_behind (front_of g c.core) (reach c q) in
          let parts : es ≡ took ++ p.0 = ap (λ (xs : Numbered). tail_behind (front_of g c.core) xs) is ∙ p.1.0 in
          let had : IsPrefix (took_in r.machines g) (reach c q) =
          subst (λ (xs : Numbered). IsPrefix (took_in r.machines g) xs) (sym is) (prefix_trans (took_in r.machines g) (took_in machines g) (numbered list) (front_prefix (r.machines g).took (machines g).took took_stays) now) in
          let begins : take (front_of g (step e at c.core) - front_of g (begun e at c.core)) es ≡ take (front_of g (step e at c.core) - front_of g (begun e at c.core)) (group_of g (begun e at c.core)).waiting =
          ap (λ n. take n es) since_is ∙ ap (λ xs. take (length took) xs) parts ∙ taken_first took p.0 ∙ tf.first g ∙ sym (ap (λ n. take n (group_of g c.core).waiting) since_is) in
          let rest : drop (front_of g (step e at c.core) - front_of g (begun e at c.core)) es ≡ tail_behind (front_of g (step e at c.core)) (reach (step_whole e at c) q) =
          ap (λ n. drop n es) since_is ∙ ap (λ xs. drop (length took) xs) parts ∙ dropped_first took p.0 ∙ sym p.1.1 ∙ ap (λ (xs : Numbered). tail_behind (front_of g (step e at c.core)) xs) (sym (same ∙ is)) in
          subst (λ xs. HasOpenLines (step e at c.core) g xs) rest (opened es (q, (own_b, (had, refl))) begins)

      lines_then : HasOpenLines (step e at c.core) g (tail_behind (front_of g (step e at c.core)) (reach (step_whole e at c) q))
      lines_then = by_state lined_then.state
        where
          front_if : end_view 0 (machines g).took ≡ (machines g).view → IsFront (longest q (step e at c.core) (machines g)) (machines g).log
          front_if reached =
              let st = kn.in_step.stands in
              let m = longest_front g q (step e at c.core) (machines g) kn.in_step own in
              reached_front st.begun st.begun_at (machines g) st.faithful st.told reached (longest q (step e at c.core) (machines g)) m.0 m.1 (subst (λ (xs : Numbered). IsPrefix (took_in machines g) xs) (kn.reaches q own) has)

          by_reach : Opened g (begun e at c.core) Tail (step e at c.core) → IsFront (longest q (step e at c.core) (machines g)) (machines g).log ⊎ (reach (step_whole e at c) q ≡ reach c q)
              → HasOpenLines (step e at c.core) g (tail_behind (front_of g (step e at c.core)) (reach (step_whole e at c) q))
          by_reach opened (inl front) = of_lead front
          by_reach opened (inr same) = of_old opened same

          by_state : Stands g (begun e at c.core) Tail (step e at c.core) → HasOpenLines (step e at c.core) g (tail_behind (front_of g (step e at c.core)) (reach (step_whole e at c) q))
          by_state (inl h) = of_lead (front_if (reached_now h.1))
          by_state (inr h) = by_reach h.1.1 (reach_now g e at c (r.machines g) ks on (machines g) kn q own)

  low_in : (g : ℕ) → g < (shape_of (step e at c.core)).shards → g < start.set.shape.shards
  low_in g low = subst (λ (x : Shape). g < x.shards) (shape_then below start c r e at may on) low

  some : 0 < start.set.shape.shards
  some = subst (λ (x : Shape). 0 < x.shards) r.shape (shape_some (shape_of c.core) r.whole.shape)

  pub lines_on : KeepsLinesOpen (step_whole e at c) (stay below start c r e at may on).machines
  lines_on = record {
    parked = record { begun = (lined_then 0 some).begun; waits = λ g line w low viewed there of. parked_then g (low_in g low) viewed line w there of };
    reached = λ g low viewed. reached_then g (low_in g low) viewed;
    lines = λ g q low own has. lines_then g (low_in g low) q own has;
  }

  -- so a run with its tails goes on
  pub run_on : RunsWithOpenTails start (step_whole e at c)
  run_on = record {
    runs = tails_on below start c r e at may on;
    keeps = subst (λ (m : ℕ → Copies Entry). KeepsLinesOpen (step_whole e at c) m) (sym (machines_on below start c r e at may on)) lines_on;
  }

-- ---- events

steps_going : (c : Core) (es : Events) → (steps c es).ended ≡ None → c.ended ≡ None
steps_going c [] on = on
steps_going c (e ∷ es) on = was_going e.0 e.1 c (steps_going (step e.0 e.1 c) es on)

pub all_lines_on : (below : LawsBelow) (start : Start) (c : Whole) → RunsWithOpenTails start c → (es : Events) → AllMayKeep start (MayRun start) c.core es → (steps c.core es).ended ≡ None → RunsWithOpenTails start (runs whole_machine c es)
all_lines_on below start c r [] may on = r
all_lines_on below start c r (e ∷ es) may on =
    let going : (step e.0 e.1 c.core).ended ≡ None = steps_going (step e.0 e.1 c.core) es on in
    let first : MayKeep start (MayRun start) c.core e.0 e.1 = may.0 r.runs.whole.going in
    all_lines_on below start (step_whole e.0 e.1 c) (run_on below start c r.runs r.keeps e.0 e.1 first going) es may.1 on
