-- Where a line started a peer, its event is there and was not refused; so that who fell and was not started counts as not good.
use Rattle.std.proofs.Common.{◌≡◌, inl, inr, ◌∙◌, ap, sym, subst, ℕ, ◌+◌, ◌<◌, ◌≤◌, ◌++◌, true, false, List, [], ◌∷◌, Option, Some, None, refl, arith, length, append-nil, is_none}
use Rattle.std.proofs.lemmas.List.{append_assoc, get_or-set_same}
use Rattle.std.specs.Prelude.{slice_get}
use Rattle.hs_settled.proofs.AskLemmas.{AllAsk}
use Rattle.hs_settled.proofs.CausesListLemmas.{at_left, at_right}
use Rattle.hs_settled.proofs.CausesRunLemmas.{all_ask_so, all_come_so, are_lines, last_behind, last_is, last_kept, last_line, lined, mute, mute_is, mute_some, opened_kept}
use Rattle.hs_settled.proofs.DatedLemmas.{down_left}
use Rattle.hs_settled.proofs.KeptLemmas.{Kept, all_kept, ask_first, ask_rest, come_first, come_rest, grows_by, step_kept}
use Rattle.hs_settled.proofs.LostLemmas.{Loss, line_up}
use Rattle.hs_settled.proofs.LostLemmas.Loss.{IsFailed, IsNoted}
use Rattle.hs_settled.proofs.PartLemmas.{OwnLine, Parted, Side, own_line, parted, side}
use Rattle.hs_settled.proofs.PartLemmas.Side.{Early, Late}
use Rattle.hs_settled.proofs.RefusalLemmas.{refused_tells}
use Rattle.hs_core_words.specs.Asking.{no_peer, not_down}
use Rattle.hs_core_words.specs.declared.event.Event.{Event}
use Rattle.hs_core_words.specs.declared.event.Event.TheVariants as event
use Rattle.hs_core_words.specs.Joining.{start}
use Rattle.hs_core_words.specs.Looking.{status_of}
use Rattle.hs_core_words.specs.State.{Core}
use Rattle.hs_core_words.specs.Step.{begin_event, do_event, end_event, line_of, run_event, step}
use Rattle.hs_awaiting.specs.Words.{change_if}
use Rattle.hs_desk.specs.declared.fault.CoreFault.{CoreFault}
use Rattle.hs_desk.specs.declared.fault.CoreFault.TheVariants as fault
use Rattle.hs_events.proofs.RunLemmas.{steps_append}
use Rattle.hs_events.specs.Commands.{AreOfLine, BeginsWith, LineAt}
use Rattle.hs_events.specs.Course.{steps}
use Rattle.hs_events.specs.Due.{Events}
use Rattle.hs_events.specs.Found.{first_core}
use Rattle.hs_journal.specs.declared.entry.JournalEntry.{JournalEntry}
use Rattle.hs_journal.specs.declared.entry.Who.TheVariants as who
use Rattle.hs_journal.specs.Telling.{IsDownAt}
use Rattle.hs_limits.specs.declared.limits.Limits.{Limits}
use Rattle.hs_limits.specs.declared.limits.PeerStatus.{PeerStatus}
use Rattle.hs_limits.specs.declared.limits.PeerStatus.TheVariants.{Down, Joining}
use Rattle.hs_limits.specs.declared.shape.Shape.{Shape}
use Rattle.hs_members.specs.Members.{Members, status}
use Rattle.hs_model.specs.declared.command.Command.{Command}
use Rattle.hs_model.specs.declared.command.Command.TheVariants as command
use Rattle.hs_model.specs.declared.reply.Reply.{Reply}
use Rattle.hs_model.specs.Refusals.{first}
use Rattle.hs_promise.specs.Lost.{IsStarted, NotGood, NotStartedAfter}
use Rattle.hs_promise.specs.Lost.NotGood.{Failed, Noted}
use Rattle.hs_promise.specs.Machine.{Went}
use Rattle.hs_promise.specs.Run.{Ran, Script}
use Rattle.hs_promise.specs.Story.{Story, last_core}
use Rattle.hs_quiet.proofs.LastLemmas.{stays_at}
use Rattle.hs_quiet.proofs.SettleLemmas.{still_begun}
use Rattle.hs_quiet.proofs.StartLemmas.{down_there}
use Rattle.hs_quiet.proofs.StepLemmas.{is_ended}
use Rattle.hs_quiet.proofs.StillLemmas.{IsStill, same as same_of}
use Rattle.hs_quiet.specs.Turning.{StaysAs}
use Rattle.hs_settled.proofs.NotedEventLemmas.{line_then}
use Rattle.hs_settled.specs.Noted.{refusal_entry}
use Rattle.hs_standing.proofs.LinesStepLemmas.{step_at, step_line}
use Rattle.hs_standing.specs.Script.{all_events}
use Rattle.hs_told.specs.InTurn.{AllMayCome, MayBegin, refusal_in, told_of}

-- ---- an event that starts a peer

-- whom a line starts, where that is not refused, joins then
pub start_joins : (line at p : ℕ) (c : Core) → c.ended ≡ None → first (no_peer p c ∷ not_down p c ∷ []) ≡ None → status_of p (step (event.Start line p) at c) ≡ Joining
start_joins line at p c going free =
    let a : Core = begin_event line at c in
    let x : IsStill c a = still_begun (event.Start line p) at c in
    let fits : first (no_peer p a ∷ not_down p a ∷ []) ≡ None = same_of c a x (λ (y : Core). first (no_peer p y ∷ not_down p y ∷ [])) refl ∙ free in
    let b : Core = do_event (event.Start line p) a in
    let does : b ≡ start p a = rw fits refl in
    let runs : step (event.Start line p) at c ≡ end_event b = ap (λ (o : Option CoreFault). change_if (is_none o) (run_event (event.Start line p) at) c) going in
    ap (λ (y : Core). status_of p y) runs
    ∙ ap (λ (m : Members). status p m) ((is_ended b).members ∙ ap (λ (y : Core). y.members) does)
    ∙ get_or-set_same a.members.statuses p Joining Down (down_there p a fits).0

-- its status stays to the end
pub stays_last : (p : ℕ) (k : PeerStatus) (es : Events) (c : Core) → StaysAs p k c es → status_of p (steps c es) ≡ k
stays_last p k [] c h = h
stays_last p k (e ∷ es) c h = stays_last p k es (step e.0 e.1 c) h.1

-- ---- what is told, and the last line, along events

pub told_on : (commands : ℕ → Option Command) (shape : Shape) (limits : Limits) (c : Core) (es : Events) → Kept commands shape limits c → AllMayCome commands c es → AllAsk commands c es
    → (more : List JournalEntry) × (told_of (steps c es) ≡ told_of c ++ more)
told_on commands shape limits c [] kept may ask = ([], sym (append-nil (told_of c)))
told_on commands shape limits c (e ∷ es) kept may ask =
    let grows = grows_by commands shape limits e.0 e.1 c kept ask.0.0 in
    let rest = told_on commands shape limits (step e.0 e.1 c) es (step_kept commands shape limits e.0 e.1 c kept ask.0.0 (may.0 ask.0.0) ask.0.1) may.1 ask.1 in
    (grows.more ++ rest.0, rest.1 ∙ ap (λ (xs : List JournalEntry). xs ++ rest.0) grows.told ∙ append_assoc (told_of c) grows.more rest.0)

line_rises : (commands : ℕ → Option Command) (e : Event) (at : ℕ) (c : Core) → c.ended ≡ None → MayBegin commands c e → c.progress.event_line ≤ (step e at c).progress.event_line
line_rises commands e at c going may = by_event e may (step_line e at c going)
  where
    up : (line n : ℕ) → c.progress.event_line ≤ line → n ≡ line_then line c → c.progress.event_line ≤ n
    up line n low is = let here : line_then line c ≡ line = line_up line c low in omega (arith, low, is, here)

    by_event : (e : Event) → MayBegin commands c e → (step e at c).progress.event_line ≡ line_then (line_of e) c → c.progress.event_line ≤ (step e at c).progress.event_line
    by_event (event.Line line o) m is = up line (step (event.Line line o) at c).progress.event_line (let above : c.progress.event_line < line = m.above in omega (arith, above)) is
    by_event (event.Report peer d) m is = let stays : (step (event.Report peer d) at c).progress.event_line ≡ c.progress.event_line = is in omega (arith, stays)
    by_event (event.Turn line peer) m is = up line (step (event.Turn line peer) at c).progress.event_line m.upward is
    by_event (event.Deliver line number) m is = up line (step (event.Deliver line number) at c).progress.event_line m.upward is
    by_event (event.Lose line number) m is = up line (step (event.Lose line number) at c).progress.event_line m.upward is
    by_event (event.Repeat line number) m is = up line (step (event.Repeat line number) at c).progress.event_line m.upward is
    by_event (event.Nudge line peer) m is = up line (step (event.Nudge line peer) at c).progress.event_line m.upward is
    by_event (event.Fail line peer) m is = up line (step (event.Fail line peer) at c).progress.event_line m.upward is
    by_event (event.Start line peer) m is = up line (step (event.Start line peer) at c).progress.event_line m.upward is

pub lines_rise : (commands : ℕ → Option Command) (c : Core) (es : Events) → AllMayCome commands c es → AllAsk commands c es → c.progress.event_line ≤ (steps c es).progress.event_line
lines_rise commands c [] may ask = omega arith
lines_rise commands c (e ∷ es) may ask =
    let one = line_rises commands e.0 e.1 c ask.0.0 (may.0 ask.0.0).begins in
    let rest = lines_rise commands (step e.0 e.1 c) es may.1 ask.1 in
    omega (arith, one, rest)

-- ---- a line with one event

pub record OneEvent (es : Events) (asked : Event) : Type 0 where
  pub it : Event × ℕ
  pub is : es ≡ it ∷ []
  pub own : it.0 ≡ asked

pub one_event : (at : LineAt) (asked : Event) → BeginsWith at asked (λ core. None) → (at.events ≡ [] → ⊥) → OneEvent at.events asked
one_event at asked begins some = go at.events begins some
  where
    with_events : Events → LineAt
    with_events es = record { line = at.line; core = at.core; events = es; whole = at.whole }

    go : (es : Events) → BeginsWith (with_events es) asked (λ core. None) → (es ≡ [] → ⊥) → OneEvent es asked
    go [] cut some = absurd (some refl)
    go (e ∷ []) (same, one) some = record { it = e; is = refl; own = same }
    go (e ∷ f ∷ es) (same, one) some = absurd (cc one)

-- ---- a run whose core ended with the loss of a shard

module _ (S : Script) (r : Ran) (story : Story) (went : Went S r story) where
  abbrev opened : Core
  opened = first_core S.set story.found

  abbrev commands : ℕ → Option Command
  commands = mute S.commands

  abbrev K : Core → Type 0
  K c = Kept (mute S.commands) S.set.shape S.set.limits c

  abbrev all : Events
  all = story.opening ++ all_events story.lines

  -- of two parts of its events
  module _ (before after : Events) (is : story.opening ++ all_events story.lines ≡ before ++ after) where
    abbrev there : Core
    there = steps (first_core S.set story.found) before

    both_come : AllMayCome (mute S.commands) (first_core S.set story.found) (before ++ after)
    both_come = subst (λ xs. AllMayCome (mute S.commands) (first_core S.set story.found) xs) is (all_come_so S r story went)

    both_ask : AllAsk (mute S.commands) (first_core S.set story.found) (before ++ after)
    both_ask = subst (λ xs. AllAsk (mute S.commands) (first_core S.set story.found) xs) is (all_ask_so S r story went)

    pub first_come : AllMayCome (mute S.commands) (first_core S.set story.found) before
    first_come = come_first (mute S.commands) (first_core S.set story.found) before after both_come

    pub first_ask : AllAsk (mute S.commands) (first_core S.set story.found) before
    first_ask = ask_first (mute S.commands) (first_core S.set story.found) before after both_ask

    pub then_come : AllMayCome (mute S.commands) (steps (first_core S.set story.found) before) after
    then_come = come_rest (mute S.commands) (first_core S.set story.found) before after both_come

    pub then_ask : AllAsk (mute S.commands) (steps (first_core S.set story.found) before) after
    then_ask = ask_rest (mute S.commands) (first_core S.set story.found) before after both_ask

    pub there_kept : Kept (mute S.commands) S.set.shape S.set.limits (steps (first_core S.set story.found) before)
    there_kept = all_kept (mute S.commands) S.set.shape S.set.limits (first_core S.set story.found) before (opened_kept S r story went) first_come first_ask

    pub last_then : last_core S story ≡ steps (steps (first_core S.set story.found) before) after
    last_then = last_is S r story went ∙ ap (λ xs. steps (first_core S.set story.found) xs) is ∙ steps_append (first_core S.set story.found) before after

    pub told_then : (more : List JournalEntry) × (told_of (last_core S story) ≡ told_of (steps (first_core S.set story.found) before) ++ more)
    told_then =
        let more = told_on (mute S.commands) S.set.shape S.set.limits (steps (first_core S.set story.found) before) after there_kept then_come then_ask in
        (more.0, ap (λ (c : Core). told_of c) last_then ∙ more.1)

    -- the last line so far is one that was begun
    pub line_begun : (steps (first_core S.set story.found) before).progress.event_line ≤ r.line
    line_begun =
        let up = lines_rise (mute S.commands) (steps (first_core S.set story.found) before) after then_come then_ask in
        let same = ap (λ (c : Core). c.progress.event_line) last_then in
        let last = last_line S r story went in
        omega (arith, up, same, last)

  module _ (g : ℕ) (over : (last_core S story).ended ≡ Some (fault.ShardLost g)) where
    pub told_is : told_of (last_core S story) ≡ r.journal
    told_is = ap (λ (es : List JournalEntry). (last_core S story).journal ++ es) ((last_kept S r story went).ends.clean g over) ∙ append-nil (last_core S story).journal ∙ sym went.journal

    -- ---- a line that starts a peer

    module _ (p k : ℕ) (started : IsStarted S r p k) (low : 1 ≤ k) where
      abbrev behind : Core
      behind = steps (first_core S.set story.found) story.opening

      at_line : Parted (lined S r) 1 (steps (first_core S.set story.found) story.opening) story.lines k
      at_line = parted (lined S r) 1 behind story.lines (are_lines S r story went) (omega arith) k low (let count = went.line in let upto = started.begun in omega (arith, upto, count))

      abbrev begun : Core
      begun = steps behind (all_events at_line.front)

      own : OwnLine (lined S r) k begun at_line.own at_line.rest
      own = own_line (lined S r) k begun at_line.own at_line.rest at_line.here

      begins : BeginsWith (record { line = k; core = begun; events = at_line.own; whole = own.whole }) (event.Start k p) (λ core. None)
      begins = subst (λ c. AreOfLine S.set.name (record { line = k; core = begun; events = at_line.own; whole = own.whole }) c) (mute_is S.commands k low ∙ started.starts) own.line.events

      -- the core went on behind the lines before it, and has ended: so it had its event
      some : at_line.own ≡ [] → ⊥
      some none = by_rest at_line.rest refl
        where
          silent : (xs : Events) → at_line.own ≡ xs → xs ≡ [] → own.whole ≡ false
          silent xs e f = subst (λ (ys : Events). BeginsWith (record { line = k; core = begun; events = ys; whole = own.whole }) (event.Start k p) (λ core. None)) (e ∙ f) begins

          last_here : at_line.rest ≡ [] → last_core S story ≡ begun
          last_here empty =
              last_behind S r story went ∙ ap (λ xs. steps behind xs) at_line.is ∙ steps_append behind (all_events at_line.front) (at_line.own ++ all_events at_line.rest)
              ∙ ap (λ xs. steps begun (xs ++ all_events at_line.rest)) none ∙ ap (λ xs. steps begun (all_events xs)) empty

          by_rest : (rest : List Events) → at_line.rest ≡ rest → ⊥
          by_rest [] e = let both : None ≡ Some (fault.ShardLost g) = sym own.line.going ∙ ap (λ (c : Core). c.ended) (sym (last_here e)) ∙ over in cc both
          by_rest (x ∷ xs) e = elim own.past [
            | inl whole ↦ let both : true ≡ false = sym whole ∙ silent at_line.own refl none in cc both
            | inr last ↦ let both : x ∷ xs ≡ [] = sym e ∙ last.0 in cc both
          ]

      one : OneEvent at_line.own (event.Start k p)
      one = one_event (record { line = k; core = begun; events = at_line.own; whole = own.whole }) (event.Start k p) begins some

      abbrev us : Events
      us = story.opening ++ all_events at_line.front

      abbrev vs : Events
      vs = all_events at_line.rest

      at_place : story.opening ++ all_events story.lines ≡ (story.opening ++ all_events at_line.front) ++ one.it ∷ all_events at_line.rest
      at_place =
          ap (λ xs. story.opening ++ xs) at_line.is ∙ sym (append_assoc story.opening (all_events at_line.front) (at_line.own ++ all_events at_line.rest))
          ∙ ap (λ xs. (story.opening ++ all_events at_line.front) ++ (xs ++ all_events at_line.rest)) one.is

      abbrev came : Core
      came = steps (first_core S.set story.found) (story.opening ++ all_events at_line.front)

      came_going : came.ended ≡ None
      came_going = (then_ask us (one.it ∷ vs) at_place).0.0

      of_line : line_of one.it.0 ≡ k
      of_line = ap line_of one.own

      -- a refusal would be there
      free : first (no_peer p came ∷ not_down p came ∷ []) ≡ None
      free = go (first (no_peer p came ∷ not_down p came ∷ [])) refl
        where
          told : (reply : Reply) → refusal_in one.it.0 came ≡ Some reply → ⊥
          told reply refused =
              let tells = refused_tells (mute S.commands) came (there_kept us (one.it ∷ vs) at_place).noted came_going one.it.0 one.it.1 reply refused in
              let rest = told_then (us ++ one.it ∷ []) vs (at_place ∙ sym (append_assoc us (one.it ∷ []) vs)) in
              let here : told_of (steps (first_core S.set story.found) (us ++ one.it ∷ [])) ≡ told_of (step one.it.0 one.it.1 came) = ap (λ (c : Core). told_of c) (steps_append (first_core S.set story.found) us (one.it ∷ [])) in
              let all_is : r.journal ≡ (told_of came ++ refusal_entry (line_of one.it.0) one.it.1 reply ∷ []) ++ rest.0 = sym told_is ∙ rest.1 ∙ ap (λ (xs : List JournalEntry). xs ++ rest.0) (here ∙ tells) in
              started.unrefused (length (told_of came) + 0) (record {
                entry = refusal_entry (line_of one.it.0) one.it.1 reply;
                at = subst (λ (es : List JournalEntry). slice_get es (length (told_of came) + 0) ≡ Some (refusal_entry (line_of one.it.0) one.it.1 reply)) (sym all_is)
                    (at_left (told_of came ++ refusal_entry (line_of one.it.0) one.it.1 reply ∷ []) rest.0 (length (told_of came) + 0) (refusal_entry (line_of one.it.0) one.it.1 reply)
                    (at_right (told_of came) (refusal_entry (line_of one.it.0) one.it.1 reply ∷ []) 0 (refusal_entry (line_of one.it.0) one.it.1 reply) refl));
                line = ap (λ n. who.Line n) of_line;
              })

          go : (o : Option Reply) → first (no_peer p came ∷ not_down p came ∷ []) ≡ o → first (no_peer p came ∷ not_down p came ∷ []) ≡ None
          go None is = is
          go (Some reply) is = absurd (told reply (ap (λ e. refusal_in e came) one.own ∙ is))

    -- ---- who fell, and was not started

    -- of some events none starts a peer
    abbrev pub NeverStarts : ℕ → Core → Events → Type 0
    NeverStarts p c after =
        (mid : Events) (e : Event × ℕ) (rest : Events) (line : ℕ) → after ≡ mid ++ e ∷ rest → e.0 ≡ event.Start line p → first (no_peer p (steps c mid) ∷ not_down p (steps c mid) ∷ []) ≡ None → ⊥

    module _ (p : ℕ) (before after : Events) (is : story.opening ++ all_events story.lines ≡ before ++ after) where
      abbrev fallen : Core
      fallen = steps (first_core S.set story.found) before

      pub down_never : StaysAs p Down (steps (first_core S.set story.found) before) after → NeverStarts p (steps (first_core S.set story.found) before) after
      down_never stays mid e rest line parts own free =
          let going : (steps fallen mid).ended ≡ None = (ask_rest (mute S.commands) fallen mid (e ∷ rest) (subst (λ xs. AllAsk (mute S.commands) fallen xs) parts (then_ask before after is))).0.0 in
          let down : status_of p (steps fallen (mid ++ e ∷ [])) ≡ Down = stays_at p Down (mid ++ e ∷ []) rest fallen (subst (λ xs. StaysAs p Down fallen xs) (parts ∙ sym (append_assoc mid (e ∷ []) rest)) stays) in
          let joins : status_of p (step e.0 e.1 (steps fallen mid)) ≡ Joining = subst (λ x. status_of p (step x e.1 (steps fallen mid)) ≡ Joining) (sym own) (start_joins line e.1 p (steps fallen mid) going free) in
          let both : Joining ≡ Down = sym joins ∙ ap (λ (c : Core). status_of p c) (sym (steps_append fallen mid (e ∷ []))) ∙ down in
          cc both

      module _ (never : NeverStarts p (steps (first_core S.set story.found) before) after) where
        none_started : NotStartedAfter S r p (steps (first_core S.set story.found) before).progress.event_line
        none_started k above started = by_side (side (us p k started low) (one p k started low).it (vs p k started low) before after (sym (at_place p k started low) ∙ is))
          where
            low : 1 ≤ k
            low = omega (arith, above)

            by_side : Side (us p k started low) (one p k started low).it (vs p k started low) before after → ⊥
            by_side (Early mid parts rest) =
                let come : AllMayCome (mute S.commands) (first_core S.set story.found) (us p k started low ++ (one p k started low).it ∷ mid) = subst (λ xs. AllMayCome (mute S.commands) (first_core S.set story.found) xs) parts (first_come before after is) in
                let ask : AllAsk (mute S.commands) (first_core S.set story.found) (us p k started low ++ (one p k started low).it ∷ mid) = subst (λ xs. AllAsk (mute S.commands) (first_core S.set story.found) xs) parts (first_ask before after is) in
                let up = lines_rise (mute S.commands) (step (one p k started low).it.0 (one p k started low).it.1 (came p k started low)) mid
                (come_rest (mute S.commands) (first_core S.set story.found) (us p k started low) ((one p k started low).it ∷ mid) come).1
                (ask_rest (mute S.commands) (first_core S.set story.found) (us p k started low) ((one p k started low).it ∷ mid) ask).1 in
                let here = step_at (one p k started low).it.0 (one p k started low).it.1 k (came p k started low) (came_going p k started low) (of_line p k started low) low in
                let same = ap (λ (c : Core). c.progress.event_line) (ap (λ xs. steps (first_core S.set story.found) xs) parts ∙ steps_append (first_core S.set story.found) (us p k started low) ((one p k started low).it ∷ mid)) in
                omega (arith, above, up, here, same)
            by_side (Late mid front rest) =
                let same : came p k started low ≡ steps fallen mid = ap (λ xs. steps (first_core S.set story.found) xs) front ∙ steps_append (first_core S.set story.found) before mid in
                never mid (one p k started low).it (vs p k started low) k rest (one p k started low).own (subst (λ (c : Core). first (no_peer p c ∷ not_down p c ∷ []) ≡ None) same (free p k started low))

        pub down_cause : Loss (mute S.commands) p (steps (first_core S.set story.found) before) → NotGood S r p
        down_cause (IsNoted place at) =
            let more = told_then before after is in
            Noted place fallen.progress.event_line (subst (λ (es : List JournalEntry). IsDownAt es place p fallen.progress.event_line) (sym more.1 ∙ told_is) (down_left (told_of fallen) more.0 place p fallen.progress.event_line at)) none_started
        down_cause (IsFailed own) = Failed fallen.progress.event_line (line_begun before after is) (mute_some S.commands fallen.progress.event_line (command.Fail p) own) none_started
