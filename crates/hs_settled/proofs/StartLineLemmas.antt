-- A peer that an event starts, which is not refused, was started by its line, and no entry is of that line.
use Rattle.std.proofs.Common.{◌≡◌, ◌⊎◌, inl, inr, ◌∙◌, ap, sym, subst, ℕ, zero, suc, ◌≤◌, ◌==◌, ◌++◌, Bool, true, false, [], ◌∷◌, Option, Some, None, IsSome, refl, arith}
use Rattle.std.proofs.lemmas.Bool.{eq-eqb, eqb-true}
use Rattle.std.proofs.lemmas.List.{append_assoc}
use Rattle.std.specs.List.{AllByRecursion}
use Rattle.std.specs.Prelude.{if◌then◌else◌, slice_get}
use Rattle.hs_settled.proofs.AskLemmas.{AllAsk, Asks, opening_its}
use Rattle.hs_settled.proofs.CausesCountLemmas.{same_steps}
use Rattle.hs_settled.proofs.CausesListLemmas.{all_at, at_left}
use Rattle.hs_settled.proofs.CausesRunLemmas.{all_ask_so, all_come_so, are_lines, last_is, lined, mute, mute_some, opened_kept}
use Rattle.hs_settled.proofs.KeptLemmas.{all_own}
use Rattle.hs_settled.proofs.NotedEventLemmas.{all_noted}
use Rattle.hs_settled.proofs.NotedOpenLemmas.{opened_noted}
use Rattle.hs_settled.proofs.NotingLemmas.{all_append}
use Rattle.hs_settled.proofs.PartLemmas.{NoneOf, Order, OwnLine, Parted, all_mid, its_none, order, own_line, parted}
use Rattle.hs_settled.proofs.PartLemmas.Order.{Before, Behind, Same}
use Rattle.hs_settled.proofs.StartedLemmas.{OneEvent, line_begun, one_event, then_ask}
use Rattle.hs_settled.specs.Noted.{AllAreOwn, command_in, IsNoted, IsOfItsLine, IsOwnEvent, StandsFor}
use Rattle.hs_core_words.specs.Asking.{no_peer, not_down}
use Rattle.hs_core_words.specs.declared.event.Event.{Event}
use Rattle.hs_core_words.specs.declared.event.Event.TheVariants as event
use Rattle.hs_core_words.specs.Looking.{shape_of}
use Rattle.hs_core_words.specs.State.{Core}
use Rattle.hs_core_words.specs.Step.{line_of, step}
use Rattle.hs_events.proofs.RunLemmas.{steps_append}
use Rattle.hs_events.specs.Commands.{AreOfLine}
use Rattle.hs_events.specs.Course.{steps}
use Rattle.hs_events.specs.Due.{Events}
use Rattle.hs_events.specs.Found.{first_core, opens_with}
use Rattle.hs_journal.specs.declared.entry.JournalEntry.{JournalEntry}
use Rattle.hs_journal.specs.declared.entry.Who.TheVariants as who
use Rattle.hs_journal.specs.Events.{client_op}
use Rattle.hs_journal.specs.Order.{IsOfLine}
use Rattle.hs_journal.specs.Telling.{MayTell}
use Rattle.hs_limits.specs.declared.limits.Limits.{Limits}
use Rattle.hs_limits.specs.declared.shape.Shape.{Shape}
use Rattle.hs_model.specs.declared.command.Command.{Command}
use Rattle.hs_model.specs.declared.command.Command.TheVariants as command
use Rattle.hs_model.specs.Refusals.{first}
use Rattle.hs_promise.specs.Lost.{IsStarted}
use Rattle.hs_promise.specs.Machine.{Went, opening_is_whole}
use Rattle.hs_promise.specs.Run.{Ran, Script}
use Rattle.hs_promise.specs.Story.{Story, last_core}
use Rattle.hs_standing.proofs.LinesStepLemmas.{step_at}
use Rattle.hs_standing.specs.Script.{all_events}
use Rattle.hs_told.specs.InTurn.{refusal_in, told_of}

-- ---- commands without a line

abbrev without : ℕ → (ℕ → Option Command) → ℕ → Option Command
without k commands n = if n == k then None else commands n

-- of some events no event of this line is refused
abbrev Unrefused : ℕ → Core → Events → Type 0
Unrefused k c [] = Unit {0}
Unrefused k c (e ∷ es) = (line_of e.0 ≡ k → refusal_in e.0 c ≡ None) × Unrefused k (step e.0 e.1 c) es

none_unrefused : (k : ℕ) (c : Core) (es : Events) → NoneOf k es → Unrefused k c es
none_unrefused k c [] h = tt
none_unrefused k c (e ∷ es) h = ((λ same. absurd (h.0 same)), none_unrefused k (step e.0 e.1 c) es h.1)

unrefused_both : (k : ℕ) (c : Core) (es fs : Events) → Unrefused k c es → Unrefused k (steps c es) fs → Unrefused k c (es ++ fs)
unrefused_both k c [] fs a b = b
unrefused_both k c (e ∷ es) fs a b = (a.0, unrefused_both k (step e.0 e.1 c) es fs a.1 b)

module _ (k : ℕ) (commands : ℕ → Option Command) (nobody_asks : client_op (commands k) ≡ None) where
  its_line : (c : Core) (e : Event) → IsOfItsLine commands c e → (line_of e ≡ k → refusal_in e c ≡ None) → IsOfItsLine (without k commands) c e
  its_line c e may free = (may.0, by_test (line_of e == k) refl)
    where
      by_test : (b : Bool) → (line_of e == k) ≡ b → (refusal_in e c ≡ None) ⊎ (without k commands (line_of e) ≡ command_in e)
      by_test true t = inl (free (eqb-true (line_of e) k t))
      by_test false t = elim may.1 [
        | inl none ↦ inl none
        | inr own ↦ inr (ap (λ b. if b then None else commands (line_of e)) t ∙ own)
      ]

  own_still : (c : Core) (e : Event) → IsOwnEvent commands c e → (line_of e ≡ k → refusal_in e c ≡ None) → IsOwnEvent (without k commands) c e
  own_still c (event.Line line o) may free = (may.0, by_test (line == k) refl)
    where
      by_test : (b : Bool) → (line == k) ≡ b → IsSome (client_op (without k commands line))
      by_test true t = let none : client_op (commands line) ≡ None = ap (λ n. client_op (commands n)) (eqb-true line k t) ∙ nobody_asks in absurd (cc (subst (λ o. IsSome o) none may.1))
      by_test false t = subst (λ b. IsSome (client_op (if b then None else commands line))) (sym t) may.1
  own_still c (event.Report peer d) may free = may
  own_still c (event.Turn line peer) may free = its_line c (event.Turn line peer) may free
  own_still c (event.Deliver line number) may free = its_line c (event.Deliver line number) may free
  own_still c (event.Lose line number) may free = its_line c (event.Lose line number) may free
  own_still c (event.Repeat line number) may free = its_line c (event.Repeat line number) may free
  own_still c (event.Nudge line peer) may free = its_line c (event.Nudge line peer) may free
  own_still c (event.Fail line peer) may free = its_line c (event.Fail line peer) may free
  own_still c (event.Start line peer) may free = its_line c (event.Start line peer) may free

  all_still : (c : Core) (es : Events) → AllAreOwn commands c es → Unrefused k c es → AllAreOwn (without k commands) c es
  all_still c [] own free = tt
  all_still c (e ∷ es) own free = ((λ on. own_still c e.0 (own.0 on) free.0), all_still (step e.0 e.1 c) es own.1 free.1)

  -- then no entry is of it
  none_told : (shape : Shape) (limits : Limits) (last : ℕ) (entry : JournalEntry) → StandsFor (without k commands) shape limits last entry → entry.who ≡ who.Line k → ⊥
  none_told shape limits last entry stands is =
      let own : (k ≤ last) × MayTell shape limits (without k commands k) (record entry { who = who.Line k }) = subst (λ w. StandsFor (without k commands) shape limits last (record entry { who = w })) is stands in
      subst (λ o. MayTell shape limits o (record entry { who = who.Line k })) (ap (λ b. if b then None else commands k) (eq-eqb k k refl)) own.1

-- ---- an event of a run that starts a peer

module _ (S : Script) (r : Ran) (story : Story) (went : Went S r story) where
  abbrev behind : Core
  behind = steps (first_core S.set story.found) story.opening

  module _ (p line : ℕ) (before : Events) (e : Event × ℕ) (after : Events) (is : story.opening ++ all_events story.lines ≡ before ++ e ∷ after) (starts : e.0 ≡ event.Start line p)
      (free : first (no_peer p (steps (first_core S.set story.found) before) ∷ not_down p (steps (first_core S.set story.found) before) ∷ []) ≡ None) where
    abbrev there : Core
    there = steps (first_core S.set story.found) before

    asked : AllAsk (mute S.commands) there (e ∷ after)
    asked = then_ask S r story went before (e ∷ after) is

    own : mute S.commands line ≡ Some (command.Start p)
    own = subst (λ x. Asks (mute S.commands) there x) starts asked.0.1

    pub low : 1 ≤ line
    low = go line own
      where
        go : (n : ℕ) → mute S.commands n ≡ Some (command.Start p) → 1 ≤ n
        go zero e = absurd (cc e)
        go (suc n) e = omega arith

    of_line : line_of e.0 ≡ line
    of_line = ap line_of starts

    begun : line ≤ r.line
    begun =
        let here = step_at e.0 e.1 line there asked.0.0 of_line low in
        let same = ap (λ (c : Core). c.progress.event_line) (steps_append (first_core S.set story.found) before (e ∷ [])) in
        let up = line_begun S r story went (before ++ e ∷ []) after (is ∙ sym (append_assoc before (e ∷ []) after)) in
        omega (arith, here, same, up)

    -- ---- of its line nothing was refused

    at_line : Parted (lined S r) 1 (steps (first_core S.set story.found) story.opening) story.lines line
    at_line = parted (lined S r) 1 behind story.lines (are_lines S r story went) (omega arith) line low (let count = went.line in let upto = begun in omega (arith, upto, count))

    abbrev us : Events
    us = story.opening ++ all_events at_line.front

    abbrev vs : Events
    vs = all_events at_line.rest

    parts : story.opening ++ all_events story.lines ≡ us ++ (at_line.own ++ vs)
    parts = ap (λ xs. story.opening ++ xs) at_line.is ∙ sym (append_assoc story.opening (all_events at_line.front) (at_line.own ++ vs))

    first_none : NoneOf line us
    first_none =
        all_append (λ (x : Event × ℕ). line_of x.0 ≡ line → ⊥) story.opening (all_events at_line.front)
        (its_none (mute S.commands) 0 (first_core S.set story.found) story.opening (opening_its (mute S.commands) (opening_is_whole r story.lines) (first_core S.set story.found) story.opening went.opening) line low (λ z. (let l = low in omega (arith, z, l))))
        at_line.first

    ours : OwnLine (lined S r) line (steps behind (all_events at_line.front)) at_line.own at_line.rest
    ours = own_line (lined S r) line (steps behind (all_events at_line.front)) at_line.own at_line.rest at_line.here

    later_none : NoneOf line vs
    later_none = ours.later line low (omega arith)

    some : at_line.own ≡ [] → ⊥
    some none =
        all_mid (λ (x : Event × ℕ). line_of x.0 ≡ line → ⊥) before e after
        (subst (λ xs. NoneOf line xs) (ap (λ xs. us ++ (xs ++ vs)) (sym none) ∙ sym parts ∙ is) (all_append (λ (x : Event × ℕ). line_of x.0 ≡ line → ⊥) us vs first_none later_none)) of_line

    one : OneEvent at_line.own (event.Start line p)
    one = one_event (record { line = line; core = steps behind (all_events at_line.front); events = at_line.own; whole = ours.whole }) (event.Start line p)
        (subst (λ c. AreOfLine S.set.name (record { line = line; core = steps behind (all_events at_line.front); events = at_line.own; whole = ours.whole }) c) own ours.line.events) some

    placed : story.opening ++ all_events story.lines ≡ us ++ one.it ∷ vs
    placed = parts ∙ ap (λ xs. us ++ (xs ++ vs)) one.is

    own_free : refusal_in one.it.0 (steps (first_core S.set story.found) us) ≡ None
    own_free = by_order (order us one.it vs before e after (sym placed ∙ is))
      where
        by_order : Order us one.it vs before e after → refusal_in one.it.0 (steps (first_core S.set story.found) us) ≡ None
        by_order (Before mid front rest) = absurd (all_mid (λ (x : Event × ℕ). line_of x.0 ≡ line → ⊥) mid e after (subst (λ xs. NoneOf line xs) rest later_none) of_line)
        by_order (Same front same) =
            ap (λ x. refusal_in x (steps (first_core S.set story.found) us)) one.own ∙ ap (λ xs. refusal_in (event.Start line p) (steps (first_core S.set story.found) xs)) front ∙ free
        by_order (Behind mid front rest) = absurd (all_mid (λ (x : Event × ℕ). line_of x.0 ≡ line → ⊥) before e mid (subst (λ xs. NoneOf line xs) front first_none) of_line)

    unrefused : Unrefused line (first_core S.set story.found) (story.opening ++ all_events story.lines)
    unrefused =
        subst (λ xs. Unrefused line (first_core S.set story.found) xs) (sym placed)
        (unrefused_both line (first_core S.set story.found) us (one.it ∷ vs) (none_unrefused line (first_core S.set story.found) us first_none)
        ((λ same. own_free), none_unrefused line (step one.it.0 one.it.1 (steps (first_core S.set story.found) us)) vs later_none))

    -- so no entry of it is told
    noted : IsNoted (without line (mute S.commands)) (last_core S story)
    noted =
        let all : Events = story.opening ++ all_events story.lines in
        let no_client : client_op (mute S.commands line) ≡ None = ap (λ c. client_op c) own in
        subst (λ (c : Core). IsNoted (without line (mute S.commands)) c) (same_steps (first_core S.set story.found) all ∙ sym (last_is S r story went))
        (all_noted (without line (mute S.commands)) (first_core S.set story.found) all
        (opened_noted (without line (mute S.commands)) S.set.shape S.set.limits (opens_with S.set story.found) story.found.opened went.found.goods)
        (all_still line (mute S.commands) no_client (first_core S.set story.found) all
        (all_own (mute S.commands) S.set.shape S.set.limits (first_core S.set story.found) all (opened_kept S r story went) (all_come_so S r story went) (all_ask_so S r story went)) unrefused))

    -- in what was told, with what found the journal full
    pub unheard : (place : ℕ) → IsOfLine (told_of (last_core S story)) place line → ⊥
    unheard place at =
        let no_client : client_op (mute S.commands line) ≡ None = ap (λ c. client_op c) own in
        let all : AllByRecursion (StandsFor (without line (mute S.commands)) (shape_of (last_core S story)) (last_core S story).limits (last_core S story).progress.event_line) (told_of (last_core S story)) =
        all_append (StandsFor (without line (mute S.commands)) (shape_of (last_core S story)) (last_core S story).limits (last_core S story).progress.event_line) (last_core S story).journal (last_core S story).refused noted.journal noted.refused in
        none_told line (mute S.commands) no_client (shape_of (last_core S story)) (last_core S story).limits (last_core S story).progress.event_line at.entry
        (all_at (StandsFor (without line (mute S.commands)) (shape_of (last_core S story)) (last_core S story).limits (last_core S story).progress.event_line) (told_of (last_core S story)) place at.entry all at.at) at.line

    unanswered : (place : ℕ) → IsOfLine r.journal place line → ⊥
    unanswered place at = unheard place (record {
      entry = at.entry;
      at = at_left (last_core S story).journal (last_core S story).refused place at.entry (subst (λ es. slice_get es place ≡ Some at.entry) went.journal at.at);
      line = at.line;
    })

    pub is_started : IsStarted S r p line
    is_started = record { starts = mute_some S.commands line (command.Start p) own; begun = begun; unrefused = unanswered }
