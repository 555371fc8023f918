-- The journal of a book is one of deeds: its lines are clients', and what else it does has no line and is not refused.
use Rattle.std.proofs.Common.{◌≡◌, ◌∙◌, sym, ap, subst, ℕ, ◌+◌, ◌<◌, ◌≤◌, ◌==◌, ◌++◌, Bool, true, false, cond, List, [], ◌∷◌, map, Option, Some, None, IsSome, is_some, is_none, find, refl, arith, if◌then◌else◌}
use Rattle.std.proofs.lemmas.Bool.{eq-eqb, ne_eqb}
use Rattle.std.specs.BTreeMap.{is_at}
use Rattle.std.specs.Map.{lookup}
use Rattle.std.specs.Option.{option_map, option_map_or}
use Rattle.std.specs.Ordering.{nat_cmp}
use Rattle.hs_anatomy.proofs.AsideLemmas.{kept_if}
use Rattle.hs_anatomy.proofs.LookLemmas.{same_number}
use Rattle.hs_anatomy.specs.Refusing.{message_refusal, refusal_in}
use Rattle.hs_any_events.proofs.AlongLemmas.{LawsBelow}
use Rattle.hs_any_events.specs.Events.{ComesNext, any_lines}
use Rattle.hs_answered.specs.Standing.{store_with}
use Rattle.hs_awaiting.specs.Words.{change_if}
use Rattle.hs_book.specs.Book.{Book}
use Rattle.hs_book.specs.Events.{AreBookSteps, IsBookEvent}
use Rattle.hs_book.specs.History.{History}
use Rattle.hs_core_words.specs.Calls.{last_line_after}
use Rattle.hs_core_words.specs.Changing.{change_pool}
use Rattle.hs_core_words.specs.declared.event.Event.{Event}
use Rattle.hs_core_words.specs.declared.event.Event.TheVariants as event
use Rattle.hs_core_words.specs.Looking.{oldest_message, leads_of}
use Rattle.hs_core_words.specs.State.{Core}
use Rattle.hs_core_words.specs.Step.{begin_event, do_event, line_of, run_event, step, is_first_line}
use Rattle.hs_deeds.proofs.GivenDeedLemmas.{ByPointers}
use Rattle.hs_deeds.proofs.HistoryLemmas.{AllKeepTurn, KeepsTurn, history_told, told_deeds}
use Rattle.hs_deeds.proofs.OpensLemmas.{HasNoLine, opens_lines}
use Rattle.hs_deeds.specs.History.{AreClients}
use Rattle.hs_desk.specs.declared.fault.CoreFault.{CoreFault}
use Rattle.hs_events.specs.Course.{steps}
use Rattle.hs_events.specs.Due.{Events}
use Rattle.hs_events.specs.Found.{Found, first_core, opens_with}
use Rattle.hs_fold.specs.Runs.Facts.{Catalogue as Folded}
use Rattle.hs_fold.specs.Shards.Setting.{Setting}
use Rattle.hs_journal.specs.Deeds.{as_deed}
use Rattle.hs_journal.specs.Events.{client_op}
use Rattle.hs_model.specs.declared.command.Command.{Command}
use Rattle.hs_model.specs.declared.command.Command.TheVariants as command
use Rattle.hs_model.specs.declared.op.Op.{Op}
use Rattle.hs_model.specs.Deeds.{AreDeeds}
use Rattle.hs_model.specs.Hollow.{hollow}
use Rattle.hs_moments.proofs.CoreLemmas.{line_at}
use Rattle.hs_post.specs.declared.message.Message.{Message}
use Rattle.hs_post.specs.Pool.{message_at, restart_numbers, is_for}
use Rattle.hs_standing.proofs.LinesStepLemmas.{step_line}
use Rattle.hs_standing.specs.Copies.{AllComeOn}
use Rattle.hs_standing.specs.Held.{GivesAddresses}
use Rattle.hs_standing.specs.Opens.{MayOpen}
use Rattle.hs_told.proofs.DuringLemmas.{During, stirs}
use Rattle.hs_told.proofs.OrderLemmas.{ended, same_refusal, step_turn}
use Rattle.hs_told.proofs.StirLemmas.{stays_event, part_still}
use Rattle.hs_told.proofs.TurnLemmas.{turns_later}
use Rattle.hs_told.specs.InTurn.{IsInTurn, bare}
use Rattle.hs_told.specs.Part.{asking, part_of, Part}
use Rattle.hs_told.specs.Turns.{Turns}

-- ---- an event of no line that is not refused

pub record IsUnrefused (e : Event) (c : Core) : Type 0 where
  pub other : (line : ℕ) (o : Op) → e ≡ event.Line line o → ⊥
  pub of_none : line_of e ≡ 0
  pub free : refusal_in e c ≡ None

begun_part : (line moment : ℕ) (core : Core) → part_of (begin_event line moment core) ≡ record (part_of core) { moment = moment; event_line = if line == 0 then core.progress.event_line else line }
begun_part line moment core =
    ap (λ (p : Part). record p { moment = moment; event_line = if line == 0 then core.progress.event_line else line })
    (part_still core (is_first_line line core) (kept_if _ (change_pool restart_numbers) core (λ x. refl)))

module _ (commands : ℕ → Option Command) (core : Core) (moment : ℕ) (turn : IsInTurn commands core) (later : core.moment ≤ moment) where
  begun_turn : core.ended ≡ None → (line : ℕ) → line ≡ 0 → During commands (core.progress.event_line + 1) core.progress.event_line (part_of (begin_event line moment core))
  begun_turn goes line zero = subst (λ q. During commands (core.progress.event_line + 1) core.progress.event_line q) (sym (begun_part line moment core)) (record {
    turns = turns_later commands (core.progress.event_line + 1) core.moment (core.journal ++ core.entries) (asking core.operations)
        (subst (λ entries. Turns commands (core.progress.event_line + 1) core.moment (core.journal ++ entries) (asking core.operations)) (turn.going goes ∙ sym turn.told) turn.turns) moment later;
    journal = turn.journal;
    apart = turn.apart;
    opened = turn.opened;
    clean = turn.going goes;
    at = ap (λ (l : ℕ). if l == 0 then core.progress.event_line else l) zero;
  })

  pub step_unrefused : (e : Event) → IsUnrefused e core → IsInTurn commands (step e moment core)
  step_unrefused e may = go core.ended refl
    where
      go : (x : Option CoreFault) → core.ended ≡ x → IsInTurn commands (change_if (is_none x) (run_event e moment) core)
      go None goes =
          ended commands core.progress.event_line (do_event e (begin_event (line_of e) moment core))
          (stays_event (stirs commands (core.progress.event_line + 1) core.progress.event_line) e (begin_event (line_of e) moment core) may.other (same_refusal e (line_of e) moment core ∙ may.free) (begun_turn goes (line_of e) may.of_none))
      go (Some fault) over = turn

-- ---- messages

-- the oldest message for a peer is there
found_there : (p : ℕ × Message → Bool) (es : List (ℕ × Message)) (n : ℕ) → option_map (λ (e : ℕ × Message). e.0) (find p es) ≡ Some n → is_some (lookup (is_at (nat_cmp n)) es) ≡ true
found_there p [] n h = absurd (cc h)
found_there p (e ∷ es) n h = go (λ k. found_there p es n k) (p e) h
  where
    later : is_some (lookup (is_at (nat_cmp n)) es) ≡ true → (b : Bool) → is_some (if b then Some e.1 else lookup (is_at (nat_cmp n)) es) ≡ true
    later ih true = refl
    later ih false = ih

    here : e.0 ≡ n → is_some (lookup (is_at (nat_cmp n)) (e ∷ es)) ≡ true
    here same = subst (λ (k : ℕ). is_some (lookup (is_at (nat_cmp k)) (e ∷ es)) ≡ true) same (rw (same_number e.0) refl)

    number_is : Some e.0 ≡ Some n → e.0 ≡ n
    number_is k = cc k

    go : (option_map (λ (x : ℕ × Message). x.0) (find p es) ≡ Some n → is_some (lookup (is_at (nat_cmp n)) es) ≡ true) → (b : Bool) → option_map (λ (x : ℕ × Message). x.0) (if b then Some e else find p es) ≡ Some n
        → is_some (lookup (is_at (nat_cmp n)) (e ∷ es)) ≡ true
    go ih true k = here (number_is k)
    go ih false k = later (ih k) (is_at (nat_cmp n) e.0)

delivers : (peer number : ℕ) (c : Core) → oldest_message peer c ≡ Some number → message_refusal number (message_at number c.pool) ≡ None
delivers peer number c oldest = by (message_at number c.pool) (found_there (λ (e : ℕ × Message). is_for peer (leads_of c) e.1) c.pool.messages number oldest)
  where
    by : (m : Option Message) → is_some m ≡ true → message_refusal number m ≡ None
    by None h = absurd (cc h)
    by (Some m) h = refl

-- ---- the commands of a book

abbrev its_line : Event → Option (ℕ × Op)
its_line (event.Line line o) = Some (line, o)
its_line other = None

-- what is asked at a line
abbrev pub asked_at : Events → ℕ → Option Command
asked_at [] n = None
asked_at (e ∷ es) n = option_map_or (λ (x : ℕ × Op). cond (x.0 == n) (Some (command.Client x.1)) (asked_at es n)) (its_line e.0) (asked_at es n)

abbrev book_commands : Events → ℕ → Option Command
book_commands es n = cond (n == 0) None (asked_at es n)

pub all_client : (es : Events) (n : ℕ) → IsSome (asked_at es n) → is_some (client_op (asked_at es n)) ≡ true
all_client [] n has = absurd (cc has)
all_client (e ∷ es) n has = by (λ h. all_client es n h) (its_line e.0) has
  where
    one : (IsSome (asked_at es n) → is_some (client_op (asked_at es n)) ≡ true) → (b : Bool) (o : Op) → IsSome (cond b (Some (command.Client o)) (asked_at es n))
        → is_some (client_op (cond b (Some (command.Client o)) (asked_at es n))) ≡ true
    one ih true o h = refl
    one ih false o h = ih h

    by : (IsSome (asked_at es n) → is_some (client_op (asked_at es n)) ≡ true) → (x : Option (ℕ × Op)) → IsSome (option_map_or (λ (x : ℕ × Op). cond (x.0 == n) (Some (command.Client x.1)) (asked_at es n)) x (asked_at es n))
        → is_some (client_op (option_map_or (λ (x : ℕ × Op). cond (x.0 == n) (Some (command.Client x.1)) (asked_at es n)) x (asked_at es n))) ≡ true
    by ih None h = ih h
    by ih (Some x) h = one ih (x.0 == n) x.1 h

book_clients : (es : Events) → AreClients (book_commands es)
book_clients es n has = by (n == 0) has
  where
    by : (b : Bool) → IsSome (cond b None (asked_at es n)) → is_some (client_op (cond b None (asked_at es n))) ≡ true
    by true h = absurd (cc h)
    by false h = all_client es n h

-- ---- its events

-- the line of the last event is the last line
lines_meet : (e : Event) (c : Core) → IsBookEvent c e → c.progress.event_line ≡ c.progress.last_line → (if line_of e == 0 then c.progress.event_line else line_of e) ≡ last_line_after e c
lines_meet (event.Line line o) c may same = ap (λ (b : Bool). if b then c.progress.event_line else line) (ne_eqb line 0 (λ zero. let next : line ≡ c.progress.last_line + 1 = may.next in absurd (omega (arith, next, zero))))
lines_meet (event.Report peer d) c may same = same
lines_meet (event.Deliver line number) c may same = ap (λ (l : ℕ). if l == 0 then c.progress.event_line else l) may.no_line ∙ same
lines_meet (event.Turn line peer) c may same = absurd may
lines_meet (event.Lose line number) c may same = absurd may
lines_meet (event.Repeat line number) c may same = absurd may
lines_meet (event.Nudge line peer) c may same = absurd may
lines_meet (event.Fail line peer) c may same = absurd may
lines_meet (event.Start line peer) c may same = absurd may

pub book_meets : (es : Events) (c : Core) → AreBookSteps c es → c.progress.event_line ≡ c.progress.last_line → (steps c es).progress.event_line ≡ (steps c es).progress.last_line
book_meets [] c may same = same
book_meets (e ∷ es) c may same =
    book_meets es (step e.0 e.1 c) may.1 (step_line e.0 e.1 c may.0.going ∙ lines_meet e.0 c may.0.may same ∙ sym (line_at c e.0 e.1 may.0.going))

-- it never falls
book_line_rises : (e : Event) (c : Core) → IsBookEvent c e → c.progress.last_line ≤ last_line_after e c
book_line_rises (event.Line line o) c may = let next : line ≡ c.progress.last_line + 1 = may.next in omega (arith, next)
book_line_rises (event.Report peer d) c may = omega arith
book_line_rises (event.Deliver line number) c may = omega arith
book_line_rises (event.Turn line peer) c may = absurd may
book_line_rises (event.Lose line number) c may = absurd may
book_line_rises (event.Repeat line number) c may = absurd may
book_line_rises (event.Nudge line peer) c may = absurd may
book_line_rises (event.Fail line peer) c may = absurd may
book_line_rises (event.Start line peer) c may = absurd may

pub book_rises : (es : Events) (c : Core) → AreBookSteps c es → c.progress.last_line ≤ (steps c es).progress.last_line
book_rises [] c may = omega arith
book_rises (e ∷ es) c may =
    let rest = book_rises es (step e.0 e.1 c) may.1 in
    let line : (step e.0 e.1 c).progress.last_line ≡ last_line_after e.0 c = line_at c e.0 e.1 may.0.going in
    let one = book_line_rises e.0 c may.0.may in
    omega (arith, rest, line, one)

module _ (commands : ℕ → Option Command) (none : client_op (commands 0) ≡ None) (top : ℕ) where
  -- behind the last line, up to a number, these are the operations of the events that come
  abbrev AsAsked : Core → Events → Type 0
  AsAsked c es = (n : ℕ) → c.progress.last_line < n → n ≤ top → client_op (commands n) ≡ client_op (asked_at es n)

  at_none : (line : ℕ) → line ≡ 0 → client_op (commands line) ≡ None
  at_none line zero = ap (λ (n : ℕ). client_op (commands n)) zero ∙ none

  keeps : (e : Event) (at : ℕ) (es : Events) (c : Core) → IsBookEvent c e → c.moment ≤ at → c.progress.event_line ≡ c.progress.last_line → last_line_after e c ≤ top → AsAsked c ((e, at) ∷ es) → KeepsTurn commands e at c
  keeps (event.Line line o) at es c may later same low asks =
      let next : line ≡ c.progress.last_line + 1 = may.next in
      record {
        nobodys = tt;
        turn = λ turn. step_turn commands (event.Line line o) at c turn (λ going. record {
          later = later;
          begins = record {
            above = omega (arith, next, same);
            next = λ k low high. absurd (omega (arith, next, same, low, high));
            asks = ap (λ (x : Option Op). option_map bare x) (asks line (omega (arith, next)) low ∙ ap (λ (b : Bool). client_op (cond b (Some (command.Client o)) (asked_at es line))) (eq-eqb line line refl));
          };
        });
      }
  keeps (event.Report peer d) at es c may later same low asks = record { nobodys = tt; turn = λ turn. step_turn commands (event.Report peer d) at c turn (λ going. record { later = later; begins = tt }) }
  keeps (event.Deliver line number) at es c may later same low asks = record {
    nobodys = at_none line may.no_line;
    turn = λ turn. step_unrefused commands c at turn later (event.Deliver line number) (record { other = λ l o is. cc is; of_none = may.no_line; free = delivers may.peer number c may.oldest });
  }
  keeps (event.Turn line peer) at es c may later same low asks = absurd may
  keeps (event.Lose line number) at es c may later same low asks = absurd may
  keeps (event.Repeat line number) at es c may later same low asks = absurd may
  keeps (event.Nudge line peer) at es c may later same low asks = absurd may
  keeps (event.Fail line peer) at es c may later same low asks = absurd may
  keeps (event.Start line peer) at es c may later same low asks = absurd may

  -- what is asked behind it
  asks_on : (e : Event) (at : ℕ) (es : Events) (c : Core) → IsBookEvent c e → AsAsked c ((e, at) ∷ es) → (n : ℕ) → last_line_after e c < n → n ≤ top → client_op (commands n) ≡ client_op (asked_at es n)
  asks_on (event.Line line o) at es c may asks n up high =
      let next : line ≡ c.progress.last_line + 1 = may.next in
      let above : line < n = up in
      asks n (omega (arith, next, above)) high ∙ ap (λ (b : Bool). client_op (cond b (Some (command.Client o)) (asked_at es n))) (ne_eqb line n (λ is. absurd (omega (arith, is, above))))
  asks_on (event.Report peer d) at es c may asks n up high = asks n up high
  asks_on (event.Deliver line number) at es c may asks n up high = asks n up high
  asks_on (event.Turn line peer) at es c may asks n up high = absurd may
  asks_on (event.Lose line number) at es c may asks n up high = absurd may
  asks_on (event.Repeat line number) at es c may asks n up high = absurd may
  asks_on (event.Nudge line peer) at es c may asks n up high = absurd may
  asks_on (event.Fail line peer) at es c may asks n up high = absurd may
  asks_on (event.Start line peer) at es c may asks n up high = absurd may

  pub book_turns : (es : Events) (c : Core) → AreBookSteps c es → c.progress.event_line ≡ c.progress.last_line → (steps c es).progress.last_line ≤ top → AsAsked c es → AllKeepTurn commands c es
  book_turns [] c may same low asks = tt
  book_turns (e ∷ es) c may same low asks =
      let line : (step e.0 e.1 c).progress.last_line ≡ last_line_after e.0 c = line_at c e.0 e.1 may.0.going in
      let rises : (step e.0 e.1 c).progress.last_line ≤ (steps (step e.0 e.1 c) es).progress.last_line = book_rises es (step e.0 e.1 c) may.1 in
      let last : (steps (step e.0 e.1 c) es).progress.last_line ≤ top = low in (
        λ going. keeps e.0 e.1 es c may.0.may (let now : e.1 ≡ c.moment = may.0.moment in omega (arith, now)) same (omega (arith, line, rises, last)) asks,
        book_turns es (step e.0 e.1 c) may.1
            (step_line e.0 e.1 c may.0.going ∙ lines_meet e.0 c may.0.may same ∙ sym line)
            low (λ n up high. asks_on e.0 e.1 es c may.0.may asks n (subst (λ (l : ℕ). l < n) line up) high),
      )

-- ---- the book

pub book_deeds : (below : LawsBelow) → ByPointers → (set : Setting) (found : Found) (cs : List Folded) → GivesAddresses set.name → MayOpen (any_lines set) set.shape (opens_with set found) found.opened cs
    → (book : Book) (history : History (first_core set found) book) → AllComeOn ComesNext (first_core set found) history.events → AreDeeds set.limits (hollow (store_with cs [])) [] (map as_deed book.core.journal)
book_deeds below shown set found cs names may book history come =
    subst (λ (c : Core). AreDeeds set.limits (hollow (store_with cs [])) [] (map as_deed c.journal)) (sym history.led)
    (told_deeds set.limits (hollow (store_with cs [])) (steps (first_core set found) history.events)
    (history_told below shown set found cs names may (book_commands history.events) refl history.events (book_clients history.events) come
    (book_turns (book_commands history.events) refl (steps (first_core set found) history.events).progress.last_line history.events (first_core set found) history.may (lines.event_line ∙ sym lines.last_line) (omega arith)
    (λ n up high. ap (λ (b : Bool). client_op (cond b None (asked_at history.events n))) (ne_eqb n 0 (λ zero. absurd (omega (arith, up, zero))))))))
  where
    lines : HasNoLine (first_core set found)
    lines = opens_lines set.shape set.limits (opens_with set found) found.opened
