-- A peer that was good is so until a note tells that it is down, where no line asks it to fail.
use Rattle.std.proofs.Common.{◌≡◌, ◌⊎◌, inl, inr, ◌∙◌, ap, sym, subst, ℕ, zero, suc, ◌+◌, ◌*◌, ◌<◌, ◌≤◌, ◌||◌, ◌++◌, Bool, true, false, cond, List, [], ◌∷◌, Option, Some, None, refl, arith, length, is_none, nat_lt}
use Rattle.std.proofs.lemmas.Bool.Decides.{nat_tests}
use Rattle.std.proofs.lemmas.List.{append_assoc}
use Rattle.std.proofs.lemmas.List.Folds.{list_any-append}
use Rattle.std.proofs.lemmas.Nat.{div_below}
use Rattle.std.proofs.Math.Bool.{or-false}
use Rattle.std.specs.List.{list_any}
use Rattle.std.specs.Option.{option_map}
use Rattle.std.specs.Prelude.{if◌then◌else◌}
use Rattle.hs_settled.proofs.AskLemmas.{AllAsk, Asks}
use Rattle.hs_settled.proofs.CausesFirstLemmas.{moment_first}
use Rattle.hs_settled.proofs.CausesCountLemmas.{first_count, first_in_journal}
use Rattle.hs_settled.proofs.CausesGoodLemmas.{last_opened, no_line, opened_good}
use Rattle.hs_settled.proofs.FirstItemsLemmas.{begun_behind, first_good_there, none_below_of, opened_good_from}
use Rattle.hs_settled.proofs.KeptLemmas.{Kept, answering, peers_of_shape, step_kept}
use Rattle.hs_settled.proofs.CausesListLemmas.{any_none, at_left, count_parts, not_both}
use Rattle.hs_settled.proofs.LevelLemmas.{le_or}
use Rattle.hs_settled.proofs.LostLemmas.{all_good, costs_one, good_is, line_up}
use Rattle.hs_settled.proofs.StartedLemmas.{first_ask, first_come, line_begun, lines_rise, there_kept, told_on}
use Rattle.hs_settled.proofs.CausesRunLemmas.{flat_is, last_is, mute, mute_some, opened_kept}
use Rattle.hs_settled.proofs.SeatLemmas.{FallsBy, Seated, peers_in, seats_run}
use Rattle.hs_awaiting.specs.Words.{change_if}
use Rattle.hs_core_words.specs.declared.event.Event.{Event}
use Rattle.hs_core_words.specs.declared.event.Event.TheVariants as event
use Rattle.hs_core_words.specs.Looking.{lost_shard, shape_of, status_of}
use Rattle.hs_core_words.specs.State.{Core}
use Rattle.hs_core_words.specs.Step.{begin_event, do_event, end_event, keep_entries, line_of, refuse_entries, run_event, step}
use Rattle.hs_desk.specs.declared.done.Done.{Done}
use Rattle.hs_desk.specs.declared.done.Done.TheVariants as done
use Rattle.hs_desk.specs.declared.fault.CoreFault.{CoreFault}
use Rattle.hs_desk.specs.declared.fault.CoreFault.TheVariants as fault
use Rattle.hs_events.specs.Beginning.{first_items}
use Rattle.hs_events.specs.Course.{happened, is_refused, items_of, steps}
use Rattle.hs_events.specs.Due.{Events, MomentsRise}
use Rattle.hs_events.specs.Found.{first_core, opens_with, starts_good}
use Rattle.hs_fold.specs.Good.{IsBegun, good_from, is_good}
use Rattle.hs_fold.specs.Shards.Course.{is_good_below, was_good}
use Rattle.hs_journal.specs.declared.entry.JournalEntry.{JournalEntry}
use Rattle.hs_journal.specs.Moments.{below}
use Rattle.hs_journal.specs.Order.{IsAt}
use Rattle.hs_journal.specs.Notes.{note_count}
use Rattle.hs_limits.specs.declared.limits.Limits.{Limits}
use Rattle.hs_limits.specs.declared.limits.PeerStatus.{PeerStatus}
use Rattle.hs_limits.specs.declared.limits.PeerStatus.TheVariants.{Down, Good, Joining}
use Rattle.hs_limits.specs.declared.shape.Shape.{Shape}
use Rattle.hs_standing.proofs.LinesStepLemmas.{step_line}
use Rattle.hs_standing.specs.Script.{all_events}
use Rattle.hs_members.specs.Members.{home_of, is_good_status}
use Rattle.hs_model.specs.declared.command.Command.{Command}
use Rattle.hs_model.specs.declared.command.Command.TheVariants as command
use Rattle.hs_moments.proofs.CoreLemmas.{good_at, journal_at}
use Rattle.hs_moments.proofs.CourseLemmas.{good-append}
use Rattle.hs_moments.specs.CoreMachine.{core_at}
use Rattle.hs_moments.specs.Machine.{until}
use Rattle.hs_settled.proofs.NotedCountLemmas.{step_counts, told_by}
use Rattle.hs_settled.proofs.NotedEventLemmas.{line_then}
use Rattle.hs_ports.specs.Objects.{IsDuring}
use Rattle.hs_promise.specs.Lost.{IsPast}
use Rattle.hs_promise.specs.Machine.{Went}
use Rattle.hs_promise.specs.Run.{Ran, Script}
use Rattle.hs_promise.specs.Story.{Story, all_events as all_of}
use Rattle.hs_promise.specs.Untold.{IsOpenTo, NoneFails}
use Rattle.hs_promise.specs.Untold.IsOpenTo.{Alone, Begun, Was}
use Rattle.hs_told.specs.InTurn.{AllMayCome, MayCome, OtherMay, told_of}

-- ---- parts of a run

record IsFront (front all : Events) : Type 0 where
  rest : Events
  is : all ≡ front ++ rest

until_front : (m : ℕ) (es : Events) → IsFront (until m es) es
until_front m [] = record { rest = []; is = refl }
until_front m (e ∷ es) = go (nat_lt e.1 m) (until_front m es)
  where
    go : (b : Bool) → IsFront (until m es) es → IsFront (if b then e ∷ until m es else []) (e ∷ es)
    go true f = record { rest = f.rest; is = ap (λ xs. e ∷ xs) f.is }
    go false f = record { rest = e ∷ es; is = refl }

happened_front : (c : Core) (es : Events) → IsFront (happened c es) es
happened_front c [] = record { rest = []; is = refl }
happened_front c (e ∷ es) = go (is_refused (step e.0 e.1 c).ended) (happened_front (step e.0 e.1 c) es)
  where
    go : (b : Bool) → IsFront (happened (step e.0 e.1 c) es) es → IsFront (if b then [] else e ∷ happened (step e.0 e.1 c) es) (e ∷ es)
    go true f = record { rest = e ∷ es; is = refl }
    go false f = record { rest = f.rest; is = ap (λ xs. e ∷ xs) f.is }

-- the events below a moment that happened
front_at : (c : Core) (es : Events) (m : ℕ) → IsFront (until m (happened c es)) es
front_at c es m =
    let a : IsFront (until m (happened c es)) (happened c es) = until_front m (happened c es) in
    let b : IsFront (happened c es) es = happened_front c es in
    record { rest = a.rest ++ b.rest; is = b.is ∙ ap (λ xs. xs ++ b.rest) a.is ∙ append_assoc (until m (happened c es)) a.rest b.rest }

-- none of them was refused
not_refused : (c : Core) (es : Events) (m : ℕ) → is_refused c.ended ≡ false → is_refused (core_at c es m).ended ≡ false
not_refused c [] m h = h
not_refused c (e ∷ es) m h = go (is_refused (step e.0 e.1 c).ended) refl (λ k. not_refused (step e.0 e.1 c) es m k)
  where
    later : (b : Bool) → is_refused (steps (step e.0 e.1 c) (until m (happened (step e.0 e.1 c) es))).ended ≡ false → is_refused (steps c (if b then e ∷ until m (happened (step e.0 e.1 c) es) else [])).ended ≡ false
    later true k = k
    later false k = h

    go : (b : Bool) → is_refused (step e.0 e.1 c).ended ≡ b → (is_refused (step e.0 e.1 c).ended ≡ false → is_refused (core_at (step e.0 e.1 c) es m).ended ≡ false)
        → is_refused (steps c (until m (if b then [] else e ∷ happened (step e.0 e.1 c) es))).ended ≡ false
    go true t ih = h
    go false t ih = later (nat_lt e.1 m) (ih t)

-- ---- want of memory ends no step

clash : None ≡ Some fault.NoMemory → ⊥
clash e = cc e

end_memory : (x : Core) → (end_event x).ended ≡ Some fault.NoMemory → ⊥
end_memory x = go (nat_lt x.limits.ops (length x.journal + length x.entries))
  where
    lost : (o : Option ℕ) → option_map fault.ShardLost o ≡ Some fault.NoMemory → ⊥
    lost None e = cc e
    lost (Some g) e = cc e

    go : (b : Bool) → (cond b (refuse_entries x) (keep_entries x)).ended ≡ Some fault.NoMemory → ⊥
    go true e = cc e
    go false e = lost (lost_shard x) e

step_memory : (e : Event) (at : ℕ) (c : Core) → (c.ended ≡ Some fault.NoMemory → ⊥) → (step e at c).ended ≡ Some fault.NoMemory → ⊥
step_memory e at c h = go c.ended
  where
    go : (o : Option CoreFault) → (change_if (is_none o) (run_event e at) c).ended ≡ Some fault.NoMemory → ⊥
    go None k = end_memory (do_event e (begin_event (line_of e) at c)) k
    go (Some f) k = h k

steps_memory : (c : Core) (es : Events) → (c.ended ≡ Some fault.NoMemory → ⊥) → (steps c es).ended ≡ Some fault.NoMemory → ⊥
steps_memory c [] h = h
steps_memory c (e ∷ es) h = steps_memory (step e.0 e.1 c) es (step_memory e.0 e.1 c h)

-- ---- who was good and is not was noted, or was to fail

abbrev Fell : (ℕ → Option Command) → ℕ → Core → Type 0
Fell commands x c = (1 ≤ note_count x (told_of c)) ⊎ ((line : ℕ) × (line ≤ c.progress.event_line) × (commands line ≡ Some (command.Fail x)))

good_or : (s : PeerStatus) → (s ≡ Good) ⊎ (s ≡ Good → ⊥)
good_or Good = inl refl
good_or Joining = inr (λ e. cc e)
good_or Down = inr (λ e. cc e)

module _ (commands : ℕ → Option Command) (shape : Shape) (limits : Limits) where
  abbrev K : Core → Type 0
  K c = Kept commands shape limits c

  fell_by : (c : Core) (e : Event) (at : ℕ) → K c → c.ended ≡ None → MayCome commands c e at → Asks commands c e → (x : ℕ) → x < peers_of_shape shape → status_of x c ≡ Good
      → (status_of x (step e at c) ≡ Good) ⊎ Fell commands x (step e at c)
  fell_by c e at kept going may asks x low good = elim (seated.good x low) [
    | inl falls ↦ elim falls [
      | inl falls ↦ inr (by_event e refl falls)
      | inr bad ↦ absurd (bad good)
    ]
    | inr stays ↦ inl stays
  ]
    where
      -- whoever falls by the event, or was not good
      May : ℕ → Type 0
      May y = FallsBy e y ⊎ (status_of y c ≡ Good → ⊥)

      was : (y : ℕ) → (status_of y c ≡ Good) ⊎ (status_of y c ≡ Good → ⊥) → May y ⊎ (status_of y c ≡ Good)
      was y (inl here) = inr here
      was y (inr bad) = inl (inr bad)

      seated : Seated (peers_of_shape shape) May (peers_in (step e at c))
      seated = seats_run (peers_of_shape shape) May e at c (λ y falls l. inl falls)
          (record { statuses = kept.seats.statuses; count = kept.seats.count; good = λ y l. was y (good_or (status_of y c)); tasks = kept.seats.tasks; rejoins = kept.seats.rejoins })

      noted : (peer : ℕ) → e ≡ event.Report peer (done.Failed x) → 1 ≤ note_count x (told_of (step e at c))
      noted peer is =
          let more : note_count x (told_of (step e at c)) ≡ note_count x (told_of c) + told_by x e c = step_counts commands c kept.noted going at x e (answering commands shape limits e c asks) in
          let cost : told_by x e c ≡ 1 = ap (λ y. told_by x y c) is ∙ costs_one peer x c in
          omega (arith, more, cost)

      by_event : (y : Event) → e ≡ y → FallsBy y x → Fell commands x (step e at c)
      by_event (event.Line line o) is f = absurd f
      by_event (event.Report peer d) is f = inl (noted peer (is ∙ ap (λ (z : Done). event.Report peer z) f))
      by_event (event.Turn line peer) is f = absurd f
      by_event (event.Deliver line number) is f = absurd f
      by_event (event.Lose line number) is f = absurd f
      by_event (event.Repeat line number) is f = absurd f
      by_event (event.Nudge line peer) is f = absurd f
      by_event (event.Fail line peer) is f =
          let own : commands line ≡ Some (command.Fail peer) = subst (λ z. Asks commands c z) is asks in
          let other : OtherMay commands c line (event.Fail line peer) = (subst (λ z. MayCome commands c z at) is may).begins in
          let here : (step e at c).progress.event_line ≡ line = step_line e at c going ∙ ap (λ z. line_then (line_of z) c) is ∙ line_up line c other.upward in
          inr (line, omega (arith, here), own ∙ ap (λ p. Some (command.Fail p)) f)
      by_event (event.Start line peer) is f = absurd f

  -- that stays so
  fell_on : (c : Core) (es : Events) → K c → AllMayCome commands c es → AllAsk commands c es → (x : ℕ) → Fell commands x c → Fell commands x (steps c es)
  fell_on c es kept may ask x (inl noted) =
      let more = told_on commands shape limits c es kept may ask in
      let all = ap (λ (xs : List JournalEntry). note_count x xs) more.1 ∙ count_parts x (told_of c) more.0 in
      inl (omega (arith, noted, all))
  fell_on c es kept may ask x (inr (line, low, own)) = let up = lines_rise commands c es may ask in inr (line, omega (arith, low, up), own)

  all_fell : (c : Core) (es : Events) → K c → AllMayCome commands c es → AllAsk commands c es → (x : ℕ) → x < peers_of_shape shape → status_of x c ≡ Good
      → (status_of x (steps c es) ≡ Good) ⊎ Fell commands x (steps c es)
  all_fell c [] kept may ask x low good = inl good
  all_fell c (e ∷ es) kept may ask x low good =
      let next : K (step e.0 e.1 c) = step_kept commands shape limits e.0 e.1 c kept ask.0.0 (may.0 ask.0.0) ask.0.1 in
      elim (fell_by c e.0 e.1 kept ask.0.0 (may.0 ask.0.0) ask.0.1 x low good) [
        | inl stays ↦ all_fell (step e.0 e.1 c) es next may.1 ask.1 x low stays
        | inr fell ↦ inr (fell_on (step e.0 e.1 c) es next may.1 ask.1 x fell)
      ]

-- ---- before any event

all_below : (m : ℕ) (es : List JournalEntry) → ((i : ℕ) (entry : JournalEntry) → IsAt es i entry → entry.moment < m) → below m es ≡ es
all_below m [] h = refl
all_below m (e ∷ es) h =
    let here : e.moment < m = h 0 e refl in
    let passes : nat_lt e.moment m ≡ true = grind (arith, nat_tests, here) in
    rw passes (ap (λ rest. e ∷ rest) (all_below m es (λ i entry at. h (suc i) entry at)))

none_until : (m from to : ℕ) (c : Core) (es : Events) → MomentsRise from es to → m ≤ from → until m (happened c es) ≡ []
none_until m from to c [] rises low = refl
none_until m from to c (e ∷ es) rises low = go (is_refused (step e.0 e.1 c).ended)
  where
    late : nat_lt e.1 m ≡ false
    late = let up : from ≤ e.1 = rises.0 in grind (arith, nat_tests, up, low)

    go : (b : Bool) → until m (if b then [] else e ∷ happened (step e.0 e.1 c) es) ≡ []
    go true = refl
    go false = ap (λ b. if b then e ∷ until m (happened (step e.0 e.1 c) es) else []) late

-- ---- a run

module _ (S : Script) (r : Ran) (story : Story) (went : Went S r story) (past : IsPast r 0) where
  abbrev opened : Core
  opened = first_core S.set story.found

  abbrev es : Events
  es = story.opening ++ all_events story.lines

  kept : Kept (mute S.commands) S.set.shape S.set.limits (first_core S.set story.found)
  kept = opened_kept S r story went

  going : opened.ended ≡ None
  going = go opened.ended refl
    where
      over : (f : CoreFault) → opened.ended ≡ Some f → ⊥
      over f is = elim past [
        | inl more ↦ let none : r.line ≡ 0 = no_line S r story went f is in omega (arith, more, none)
        | inr here ↦
            let both : Some f ≡ None = sym is ∙ ap (λ (c : Core). c.ended) (sym (last_opened S r story went f is)) ∙ went.ends.past here.1 in
            cc both
      ]

      go : (o : Option CoreFault) → opened.ended ≡ o → opened.ended ≡ None
      go None is = is
      go (Some f) is = absurd (over f is)

  -- with one copy each peer was good as the core opened
  pub all_start_good : S.set.shape.copies ≡ 1 → (peer : ℕ) → peer < S.set.shape.shards * S.set.shape.copies → starts_good story.found peer ≡ true
  all_start_good one peer low =
      let count : S.set.shape.shards * S.set.shape.copies ≡ S.set.shape.shards = ap (λ k. S.set.shape.shards * k) one ∙ omega arith in
      let shards : (shape_of opened).shards ≡ S.set.shape.shards = ap (λ (z : Shape). z.shards) kept.shaped in
      sym (opened_good S r story went peer) ∙ ap is_good_status (all_good opened (ap (λ (z : Shape). z.copies) kept.shaped ∙ one) (kept.ends.going going) peer (omega (arith, low, count, shards)))

  same_events : all_of story ≡ story.opening ++ all_events story.lines
  same_events = ap (λ xs. story.opening ++ xs) (flat_is story.lines)

  rises : MomentsRise story.found.opened es r.new.moment
  rises = subst (λ xs. MomentsRise story.found.opened xs r.new.moment) same_events went.rises

  module _ (m peer : ℕ) (low : peer < S.set.shape.shards * S.set.shape.copies) where
    abbrev now : Core
    now = core_at opened es m

    front : IsFront (until m (happened opened es)) es
    front = front_at opened es m

    come : AllMayCome (mute S.commands) opened (until m (happened opened es))
    come = first_come S r story went (until m (happened opened es)) front.rest front.is

    ask : AllAsk (mute S.commands) opened (until m (happened opened es))
    ask = first_ask S r story went (until m (happened opened es)) front.rest front.is

    now_kept : Kept (mute S.commands) S.set.shape S.set.limits now
    now_kept = there_kept S r story went (until m (happened opened es)) front.rest front.is

    none_refused : (o : Option CoreFault) → now.ended ≡ o → is_refused o ≡ false → now.refused ≡ []
    none_refused None is h = now_kept.noted.going is
    none_refused (Some (fault.ShardLost g)) is h = now_kept.ends.clean g is
    none_refused (Some fault.OpsFull) is h = absurd (not_both h)
    none_refused (Some fault.NoMemory) is h = absurd (steps_memory opened (until m (happened opened es)) (λ e. clash (sym going ∙ e)) is)

    -- behind the opening what was told then is below
    answered : story.found.opened < m → now.journal ≡ below m r.journal
    answered later =
        journal_at opened es story.found.opened r.new.moment m kept.noted.quiet rises
        (all_below m opened.journal (λ i entry at. (let up = kept.turn.turns.until i entry (at_left opened.journal opened.refused i entry at) in
        let first = moment_first S.set.shape S.set.limits (opens_with S.set story.found) story.found.opened went.found.goods in omega (arith, up, first, later))))
        ∙ ap (λ (c : Core). below m c.journal) (sym (last_is S r story went)) ∙ ap (λ (xs : List JournalEntry). below m xs) (sym went.journal)

    -- so one of which no note tells below was good as the core opened
    starts_untold : story.found.opened < m → note_count peer (below m r.journal) ≡ 0 → starts_good story.found peer ≡ true
    starts_untold later untold = go (starts_good story.found peer) refl
      where
        told : (more : List JournalEntry) × (told_of now ≡ told_of opened ++ more)
        told = told_on (mute S.commands) S.set.shape S.set.limits opened (until m (happened opened es)) kept come ask

        go : (b : Bool) → starts_good story.found peer ≡ b → starts_good story.found peer ≡ true
        go true is = is
        go false is =
            let first_one : note_count peer (told_of opened) ≡ 1 = first_count S r story went peer low ∙ ap (λ b. cond b 0 1) is in
            let more : note_count peer (told_of now) ≡ note_count peer (told_of opened) + note_count peer told.0 = ap (λ (xs : List JournalEntry). note_count peer xs) told.1 ∙ count_parts peer (told_of opened) told.0 in
            let all : note_count peer (told_of now) ≡ note_count peer now.journal + note_count peer now.refused = count_parts peer now.journal now.refused in
            let clean : note_count peer now.refused ≡ 0 = ap (λ (xs : List JournalEntry). note_count peer xs) (none_refused now.ended refl (not_refused opened es m (ap is_refused going))) ∙ refl in
            let none : note_count peer now.journal ≡ 0 = ap (λ (xs : List JournalEntry). note_count peer xs) (answered later) ∙ untold in
            absurd (omega (arith, first_one, more, all, clean, none))

    module _ (starts : starts_good story.found peer ≡ true) (untold : note_count peer (below m r.journal) ≡ 0) (none : NoneFails S r peer) where
      first_good : status_of peer opened ≡ Good
      first_good = good_is (status_of peer opened) (opened_good S r story went peer ∙ starts)

      fallen : story.found.opened < m → Fell (mute S.commands) peer now → ⊥
      fallen later (inl noted) =
          let all : note_count peer (told_of now) ≡ note_count peer now.journal + note_count peer now.refused = count_parts peer now.journal now.refused in
          let clean : note_count peer now.refused ≡ 0 = ap (λ (xs : List JournalEntry). note_count peer xs) (none_refused now.ended refl (not_refused opened es m (ap is_refused going))) ∙ refl in
          let told : note_count peer now.journal ≡ 0 = ap (λ (xs : List JournalEntry). note_count peer xs) (answered later) ∙ untold in
          omega (arith, noted, all, clean, told)
      fallen later (inr (line, upto, own)) =
          let last = line_begun S r story went (until m (happened opened es)) front.rest front.is in
          none line (omega (arith, upto, last)) (mute_some S.commands line (command.Fail peer) own)

      is_now : is_good_status (status_of peer now) ≡ true
      is_now = elim (le_or m story.found.opened) [
        | inl early ↦ ap (λ xs. is_good_status (status_of peer (steps opened xs))) (none_until m story.found.opened r.new.moment opened es rises early) ∙ ap is_good_status first_good
        | inr later ↦ elim (all_fell (mute S.commands) S.set.shape S.set.limits opened (until m (happened opened es)) kept come ask peer low first_good) [
          | inl good ↦ ap is_good_status good
          | inr fell ↦ absurd (fallen later fell)
        ]
      ]

      pub good_untold : good_from false (first_items S.set.shape story.found r.old.moment) m peer ≡ true → is_good r.course m peer ≡ true
      good_untold begins =
          ap (λ items. good_from false items m peer) (went.course ∙ ap (λ xs. first_items S.set.shape story.found r.old.moment ++ items_of opened xs) same_events)
          ∙ good-append false (first_items S.set.shape story.found r.old.moment) (items_of opened es) m peer
          ∙ ap (λ b. good_from b (items_of opened es) m peer) (begins ∙ sym (ap is_good_status first_good))
          ∙ good_at opened es story.found.opened r.new.moment m peer rises (subst (λ (z : Shape). peer < z.shards * z.copies) (sym kept.shaped) low)
          ∙ is_now

  -- ---- for any number of copies

  module _ (m peer : ℕ) (during : IsDuring r.old r.new m) (low : peer < S.set.shape.shards * S.set.shape.copies) where
    some_copy : 0 < S.set.shape.copies
    some_copy = go S.set.shape.copies low
      where
        go : (n : ℕ) → peer < S.set.shape.shards * n → 0 < n
        go zero l = let nobody : S.set.shape.shards * 0 ≡ 0 = omega arith in absurd (omega (arith, l, nobody))
        go (suc n) l = omega arith

    home : home_of S.set.shape peer < S.set.shape.shards
    home = div_below peer S.set.shape.copies S.set.shape.shards some_copy low

    -- a Good of it below the opening is that of a taken log
    was_first : m ≤ story.found.opened → was_good r.course m peer ≡ true → list_any (is_good_below m peer) (first_items S.set.shape story.found r.old.moment) ≡ true
    was_first early was =
        let parts : was_good r.course m peer ≡ (list_any (is_good_below m peer) (first_items S.set.shape story.found r.old.moment) || list_any (is_good_below m peer) (items_of opened es))
        = ap (λ items. was_good items m peer) (went.course ∙ ap (λ xs. first_items S.set.shape story.found r.old.moment ++ items_of opened xs) same_events)
        ∙ list_any-append (is_good_below m peer) (first_items S.set.shape story.found r.old.moment) (items_of opened es) in
        let late : list_any (is_good_below m peer) (items_of opened es) ≡ false = any_none (is_good_below m peer) (items_of opened es) (none_below_of m peer story.found.opened r.new.moment opened es rises early) in
        sym (or-false (list_any (is_good_below m peer) (first_items S.set.shape story.found r.old.moment))) ∙ ap (λ b. list_any (is_good_below m peer) (first_items S.set.shape story.found r.old.moment) || b) (sym late) ∙ sym parts ∙ was

    module _ (untold : note_count peer (below m r.journal) ≡ 0) (none : NoneFails S r peer) where
      started : (starts : starts_good story.found peer ≡ true) → good_from false (first_items S.set.shape story.found r.old.moment) m peer ≡ true → is_good r.course m peer ≡ true
      started starts begins = good_untold m peer low starts untold none begins

      -- behind the opening of the core
      behind : story.found.opened < m → is_good r.course m peer ≡ true
      behind later =
          let starts : starts_good story.found peer ≡ true = starts_untold m peer low later untold in
          started starts (opened_good_from S r story went.found peer low home starts m later)

      pub good_while_untold : (S.set.shape.copies ≡ 1 → starts_good story.found peer ≡ true → good_from false (first_items S.set.shape story.found r.old.moment) m peer ≡ true) → IsOpenTo S r m peer → is_good r.course m peer ≡ true
      good_while_untold alone (Alone one) = let starts : starts_good story.found peer ≡ true = all_start_good one peer low in started starts (alone one starts)
      good_while_untold alone (Begun line its) =
          behind (begun_behind S.set.shape story.found r.old.moment story.found.opened r.new.moment opened es rises line m (subst (λ items. IsBegun items line m) (went.course ∙ ap (λ xs. first_items S.set.shape story.found r.old.moment ++ items_of opened xs) same_events) its))
      good_while_untold alone (Was there noted) = elim (le_or m story.found.opened) [
        | inl early ↦ go early (starts_good story.found peer) refl
        | inr later ↦ behind later
      ]
        where
          go : m ≤ story.found.opened → (b : Bool) → starts_good story.found peer ≡ b → is_good r.course m peer ≡ true
          go early true starts = started starts (first_good_there S r story went.found peer low home starts m (was_first early there))
          go early false bad = absurd (not_both (sym (first_in_journal S r story went peer going peer low bad) ∙ noted))
