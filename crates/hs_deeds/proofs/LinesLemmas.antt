-- Behind a book a core that goes on by lines which delete or settle tells deeds still.
use Rattle.std.proofs.Common.{◌≡◌, ◌∙◌, inl, inr, sym, ap, subst, ℕ, ◌+◌, ◌<◌, ◌≤◌, ◌==◌, ◌++◌, Bool, true, false, cond, List, [], ◌∷◌, length, map, Option, Some, None, IsSome, is_some, is_none, refl, arith, nat_le, append-nil}
use Rattle.std.proofs.lemmas.Bool.{cases_eq, eq-eqb, ne_eqb}
use Rattle.std.proofs.lemmas.Bool.Decides.{nat_tests}
use Rattle.std.specs.Prelude.{count_by}
use Rattle.hs_any_events.proofs.AlongLemmas.{LawsBelow}
use Rattle.hs_any_events.specs.Events.{ComesNext, any_lines}
use Rattle.hs_answered.specs.Standing.{IsFolded, store_with}
use Rattle.hs_book.specs.Book.{Book}
use Rattle.hs_core_words.specs.Calls.{last_line_after}
use Rattle.hs_core_words.specs.declared.event.Event.{Event}
use Rattle.hs_core_words.specs.declared.event.Event.TheVariants as event
use Rattle.hs_core_words.specs.State.{Core}
use Rattle.hs_core_words.specs.Step.{step}
use Rattle.hs_deeds.proofs.BareLemmas.{bare_is}
use Rattle.hs_deeds.proofs.BookComesLemmas.{book_comes}
use Rattle.hs_deeds.proofs.BookLemmas.{all_client, asked_at, book_meets, book_turns}
use Rattle.hs_deeds.proofs.GivenDeedLemmas.{ByPointers}
use Rattle.hs_deeds.proofs.HistoryLemmas.{AllKeepTurn, history_folds, history_told, history_turn, keep_turn, told_deeds}
use Rattle.hs_deeds.proofs.HollowLemmas.{length_hollow}
use Rattle.hs_deeds.proofs.OpensLemmas.{HasNoLine, opens_lines}
use Rattle.hs_deeds.specs.Bare.{bare_store}
use Rattle.hs_deeds.specs.History.{AreClients, HasTold, deeds_of}
use Rattle.hs_deeds.specs.Lines.{AreLast, AskedLine, DeletesOrSettles, GoesToEnd, LeavesDeeds, events_of}
use Rattle.hs_deeds.specs.Told.{store_after}
use Rattle.hs_desk.specs.declared.fault.CoreFault.{CoreFault}
use Rattle.hs_events.proofs.RunLemmas.{steps_append}
use Rattle.hs_events.specs.Asked.{addressed}
use Rattle.hs_events.specs.Commands.{AreOfCommand, AreOfLine, BeginsWith, LineAt}
use Rattle.hs_events.specs.Course.{steps}
use Rattle.hs_events.specs.Due.{Events, is_walk, next_due}
use Rattle.hs_events.specs.Found.{Found, first_core, opens_with}
use Rattle.hs_fold.specs.Runs.Facts.{Catalogue as Folded}
use Rattle.hs_fold.specs.Shards.Setting.{Setting}
use Rattle.hs_journal.specs.declared.entry.JournalEntry.{JournalEntry}
use Rattle.hs_journal.specs.Deeds.{as_deed}
use Rattle.hs_journal.specs.Events.{client_op}
use Rattle.hs_known_copies.proofs.KnownLemmas.{comes_on}
use Rattle.hs_known_copies.specs.Known.{AllComeWithRoom, AllKnowTheirCopies}
use Rattle.hs_limits.specs.declared.address.Address.{Address}
use Rattle.hs_limits.specs.declared.limits.Limits.{Limits}
use Rattle.hs_model.specs.declared.command.Command.{Command}
use Rattle.hs_model.specs.declared.command.Command.TheVariants as command
use Rattle.hs_model.specs.declared.op.Op.{Op}
use Rattle.hs_model.specs.declared.op.Op.TheVariants as op
use Rattle.hs_model.specs.Hollow.{hollow}
use Rattle.hs_model.specs.Store.{Store}
use Rattle.hs_moments.proofs.CoreLemmas.{line_at}
use Rattle.hs_settled.proofs.AskLemmas.{opening_due}
use Rattle.hs_standing.proofs.AlongWalkLemmas.{steps_over}
use Rattle.hs_standing.proofs.LinesLineLemmas.{AllBegin, Goes, IsUpTo, Passes, all_come, line_passes, opening_goes, settle_goes}
use Rattle.hs_standing.specs.Answered.{KeepsRecordRoom}
use Rattle.hs_standing.specs.Copies.{AllComeOn}
use Rattle.hs_standing.specs.Held.{GivesAddresses}
use Rattle.hs_standing.specs.Opens.{MayOpen}
use Rattle.hs_standing.specs.Script.{IsNext}
use Rattle.hs_standing.specs.Telling.{told_so_far}
use Rattle.hs_told.specs.InTurn.{IsInTurn, MayBegin}

-- ---- the commands of lines

-- what a client asks, and nothing else
abbrev clients_only : Command → Option Command
clients_only (command.Client o) = Some (command.Client o)
clients_only command.Settle = None
clients_only (command.Turn peer) = None
clients_only (command.Nudge peer) = None
clients_only (command.Deliver message) = None
clients_only (command.Lose message) = None
clients_only (command.Repeat message) = None
clients_only (command.Fail peer) = None
clients_only (command.Start peer) = None
clients_only (command.Reclaim peer) = None

-- by lines from one on
abbrev asked_from : ℕ → List AskedLine → ℕ → Option Command
asked_from line [] n = None
asked_from line (x ∷ xs) n = cond (n == line) (clients_only x.asked) (asked_from (line + 1) xs n)

-- by the events of a book up to its last line, and by lines behind it
abbrev commands_of : Events → ℕ → List AskedLine → ℕ → Option Command
commands_of es top lines n = cond (n == 0) None (cond (nat_le n top) (asked_at es n) (asked_from (top + 1) lines n))

only_clients : (c : Command) → IsSome (clients_only c) → is_some (client_op (clients_only c)) ≡ true
only_clients (command.Client o) has = refl
only_clients command.Settle has = absurd (cc has)
only_clients (command.Turn peer) has = absurd (cc has)
only_clients (command.Nudge peer) has = absurd (cc has)
only_clients (command.Deliver message) has = absurd (cc has)
only_clients (command.Lose message) has = absurd (cc has)
only_clients (command.Repeat message) has = absurd (cc has)
only_clients (command.Fail peer) has = absurd (cc has)
only_clients (command.Start peer) has = absurd (cc has)
only_clients (command.Reclaim peer) has = absurd (cc has)

from_clients : (line : ℕ) (xs : List AskedLine) (n : ℕ) → IsSome (asked_from line xs n) → is_some (client_op (asked_from line xs n)) ≡ true
from_clients line [] n has = absurd (cc has)
from_clients line (x ∷ xs) n has = by (λ h. from_clients (line + 1) xs n h) (n == line) has
  where
    by : (IsSome (asked_from (line + 1) xs n) → is_some (client_op (asked_from (line + 1) xs n)) ≡ true) → (b : Bool) → IsSome (cond b (clients_only x.asked) (asked_from (line + 1) xs n))
        → is_some (client_op (cond b (clients_only x.asked) (asked_from (line + 1) xs n))) ≡ true
    by ih true h = only_clients x.asked h
    by ih false h = ih h

all_clients : (es : Events) (top : ℕ) (lines : List AskedLine) → AreClients (commands_of es top lines)
all_clients es top lines n has = by (n == 0) (nat_le n top) has
  where
    by : (b d : Bool) → IsSome (cond b None (cond d (asked_at es n) (asked_from (top + 1) lines n))) → is_some (client_op (cond b None (cond d (asked_at es n) (asked_from (top + 1) lines n)))) ≡ true
    by true d h = absurd (cc h)
    by false true h = all_client es n h
    by false false h = from_clients (top + 1) lines n h

le_true : (n m : ℕ) → n ≤ m → nat_le n m ≡ true
le_true n m h = grind (arith, nat_tests, h)

le_false : (n m : ℕ) → m < n → nat_le n m ≡ false
le_false n m h = grind (arith, nat_tests, h)

at_book : (es : Events) (top : ℕ) (lines : List AskedLine) (n : ℕ) → 0 < n → n ≤ top → commands_of es top lines n ≡ asked_at es n
at_book es top lines n low high =
    ap (λ (b : Bool). cond b None (cond (nat_le n top) (asked_at es n) (asked_from (top + 1) lines n))) (ne_eqb n 0 (λ zero. absurd (omega (arith, low, zero))))
    ∙ ap (λ (b : Bool). cond b (asked_at es n) (asked_from (top + 1) lines n)) (le_true n top high)

at_lines : (es : Events) (top : ℕ) (lines : List AskedLine) (n : ℕ) → top < n → commands_of es top lines n ≡ asked_from (top + 1) lines n
at_lines es top lines n up =
    ap (λ (b : Bool). cond b None (cond (nat_le n top) (asked_at es n) (asked_from (top + 1) lines n))) (ne_eqb n 0 (λ zero. absurd (omega (arith, up, zero))))
    ∙ ap (λ (b : Bool). cond b (asked_at es n) (asked_from (top + 1) lines n)) (le_false n top up)

-- ---- events one after another

begin_join : (commands : ℕ → Option Command) (core : Core) (es fs : Events) → AllBegin commands core es → AllBegin commands (steps core es) fs → AllBegin commands core (es ++ fs)
begin_join commands core [] fs a b = b
begin_join commands core (e ∷ es) fs a b = (a.0, begin_join commands (step e.0 e.1 core) es fs a.1 b)

come_join : (core : Core) (es fs : Events) → AllComeWithRoom ComesNext core es → AllComeWithRoom ComesNext (steps core es) fs → AllComeWithRoom ComesNext core (es ++ fs)
come_join core [] fs a b = b
come_join core (e ∷ es) fs a b = (a.0, come_join (step e.0 e.1 core) es fs a.1 b)

turn_join : (commands : ℕ → Option Command) (core : Core) (es fs : Events) → AllKeepTurn commands core es → AllKeepTurn commands (steps core es) fs → AllKeepTurn commands core (es ++ fs)
turn_join commands core [] fs a b = b
turn_join commands core (e ∷ es) fs a b = (a.0, turn_join commands (step e.0 e.1 core) es fs a.1 b)

room_front : (core : Core) (es fs : Events) → KeepsRecordRoom core (es ++ fs) → KeepsRecordRoom core es
room_front core [] fs k = tt
room_front core (e ∷ es) fs k = (k.0, room_front (step e.0 e.1 core) es fs k.1)

room_rest : (core : Core) (es fs : Events) → KeepsRecordRoom core (es ++ fs) → KeepsRecordRoom (steps core es) fs
room_rest core [] fs k = k
room_rest core (e ∷ es) fs k = room_rest (step e.0 e.1 core) es fs k.1

-- ---- events of no client

abbrev nobody : ℕ → Option Command
nobody n = None

quiet_next : (e : Event) (c : Core) → MayBegin nobody c e → ComesNext e c
quiet_next (event.Line line o) c may = absurd (cc may.asks)
quiet_next (event.Report peer d) c may = record { next = tt; given = tt }
quiet_next (event.Turn line peer) c may = record { next = tt; given = tt }
quiet_next (event.Deliver line number) c may = record { next = tt; given = tt }
quiet_next (event.Lose line number) c may = record { next = tt; given = tt }
quiet_next (event.Repeat line number) c may = record { next = tt; given = tt }
quiet_next (event.Nudge line peer) c may = record { next = tt; given = tt }
quiet_next (event.Fail line peer) c may = record { next = tt; given = tt }
quiet_next (event.Start line peer) c may = record { next = tt; given = tt }

quiet_line : (e : Event) (c : Core) → MayBegin nobody c e → last_line_after e c ≡ c.progress.last_line
quiet_line (event.Line line o) c may = absurd (cc may.asks)
quiet_line (event.Report peer d) c may = refl
quiet_line (event.Turn line peer) c may = refl
quiet_line (event.Deliver line number) c may = refl
quiet_line (event.Lose line number) c may = refl
quiet_line (event.Repeat line number) c may = refl
quiet_line (event.Nudge line peer) c may = refl
quiet_line (event.Fail line peer) c may = refl
quiet_line (event.Start line peer) c may = refl

quiet_comes : (es : Events) (c : Core) → AllBegin nobody c es → KeepsRecordRoom c es → AllComeWithRoom ComesNext c es
quiet_comes [] c a k = tt
quiet_comes (e ∷ es) c a k = (λ going. (k.0 going, quiet_next e.0 c (a.0 going)), quiet_comes es (step e.0 e.1 c) a.1 k.1)

quiet_lines : (es : Events) (c : Core) → AllBegin nobody c es → (steps c es).progress.last_line ≡ c.progress.last_line
quiet_lines [] c a = refl
quiet_lines (e ∷ es) c a = by c.ended refl (quiet_lines es (step e.0 e.1 c) a.1)
  where
    by : (o : Option CoreFault) → c.ended ≡ o → (steps (step e.0 e.1 c) es).progress.last_line ≡ (step e.0 e.1 c).progress.last_line → (steps c (e ∷ es)).progress.last_line ≡ c.progress.last_line
    by None going ih = ih ∙ line_at c e.0 e.1 going ∙ quiet_line e.0 c (a.0 going)
    by (Some fault) over ih = ap (λ (x : Core). x.progress.last_line) (steps_over (e ∷ es) c fault over)

-- ---- a line behind others

-- a line is the next one, above each client's
record StandsAt (commands : ℕ → Option Command) (line : ℕ) (c : Core) : Type 0 where
  next : IsNext commands c line
  last : c.progress.last_line < line

-- its events may come, and then the line behind it is next
record Stretch (commands : ℕ → Option Command) (line : ℕ) (c : Core) (es : Events) : Type 0 where
  begin : AllBegin commands c es
  come : AllComeWithRoom ComesNext c es
  behind : StandsAt commands (line + 1) (steps c es)

module _ (commands : ℕ → Option Command) (name : List ℕ → Address) where
  settles : (line : ℕ) (c : Core) (es : Events) → StandsAt commands line c → client_op (commands line) ≡ None → is_walk next_due true line c es ≡ true → KeepsRecordRoom c es → Stretch commands line c es
  settles line c es at none walk room =
      let above : c.progress.event_line < line = at.next.above in
      let last : c.progress.last_line < line = at.last in
      let goes : Goes commands line c es = settle_goes commands true line c es walk (record { upward = omega (arith, above); next = at.next.next; nobody = none }) in
      let mute : Goes nobody line c es = settle_goes nobody true line c es walk (record { upward = omega (arith, above); next = λ k low high. refl; nobody = refl }) in
      let same : (steps c es).progress.last_line ≡ c.progress.last_line = quiet_lines es c mute.begin in
      let up : (steps c es).progress.event_line ≤ line = goes.up.upward in
      record {
        begin = goes.begin;
        come = quiet_comes es c mute.begin room;
        behind = record {
          next = record {
            above = omega (arith, up);
            next = λ k low high. elim (cases_eq k line) [ inl e ↦ ap (λ (n : ℕ). client_op (commands n)) e ∙ goes.up.nobody | inr d ↦ goes.up.next k low (omega (arith, high, d)) ];
          };
          last = omega (arith, same, last);
        };
      }

  deletes : (line : ℕ) (c : Core) (es : Events) (o : Op) → StandsAt commands line c → c.ended ≡ None → o ≡ op.Delete → commands line ≡ Some (command.Client o)
      → BeginsWith (record { line = line; core = c; events = es; whole = true }) (event.Line line (addressed name c.sessions o)) (λ core. None) → KeepsRecordRoom c es → Stretch commands line c es
  deletes line c es o at going is asked begins room =
      let passes : Passes commands (record { line = line; core = c; events = es; whole = true }) =
      line_passes commands name (record { line = line; core = c; events = es; whole = true }) at.next
      (subst (λ (x : Option Command). AreOfLine name (record { line = line; core = c; events = es; whole = true }) x) (sym asked) begins) in
      record { begin = passes.begin; come = come_of es begins room; behind = record { next = passes.next refl going; last = last_of es begins } }
    where
      comes : ComesNext (event.Line line (addressed name c.sessions o)) c
      comes = subst (λ (x : Op). ComesNext (event.Line line (addressed name c.sessions x)) c) (sym is) (record { next = at.last; given = tt })

      come_of : (es : Events) → BeginsWith (record { line = line; core = c; events = es; whole = true }) (event.Line line (addressed name c.sessions o)) (λ core. None) → KeepsRecordRoom c es → AllComeWithRoom ComesNext c es
      come_of [] cut k = absurd (cc cut)
      come_of (e ∷ []) (same, one) k = (λ on. (k.0 on, subst (λ (x : Event). ComesNext x c) (sym same) comes), tt)
      come_of (e ∷ f ∷ es) (same, one) k = absurd (cc one)

      last_of : (es : Events) → BeginsWith (record { line = line; core = c; events = es; whole = true }) (event.Line line (addressed name c.sessions o)) (λ core. None) → (steps c es).progress.last_line < line + 1
      last_of [] cut = absurd (cc cut)
      last_of (e ∷ []) (same, one) =
          let there : (step e.0 e.1 c).progress.last_line ≡ line = line_at c e.0 e.1 going ∙ ap (λ (x : Event). last_line_after x c) same in
          omega (arith, there)
      last_of (e ∷ f ∷ es) (same, one) = absurd (cc one)

  one_line : (line : ℕ) (c : Core) (x : AskedLine) → StandsAt commands line c → commands line ≡ clients_only x.asked → c.ended ≡ None → DeletesOrSettles x.asked
      → AreOfCommand name (record { line = line; core = c; events = x.events; whole = true }) x.asked → KeepsRecordRoom c x.events → Stretch commands line c x.events
  one_line line c x at here going asks are room = by x.asked here asks are
    where
      by : (a : Command) → commands line ≡ clients_only a → DeletesOrSettles a → AreOfCommand name (record { line = line; core = c; events = x.events; whole = true }) a → Stretch commands line c x.events
      by (command.Client o) h is w = deletes line c x.events o at going is h w room
      by command.Settle h is w = settles line c x.events at (ap (λ (k : Option Command). client_op k) h) w room
      by (command.Turn peer) h is w = absurd is
      by (command.Nudge peer) h is w = absurd is
      by (command.Deliver message) h is w = absurd is
      by (command.Lose message) h is w = absurd is
      by (command.Repeat message) h is w = absurd is
      by (command.Fail peer) h is w = absurd is
      by (command.Start peer) h is w = absurd is
      by (command.Reclaim peer) h is w = absurd is

  -- ---- all of them

  abbrev Agree : ℕ → List AskedLine → Type 0
  Agree line xs = (n : ℕ) → line ≤ n → commands n ≡ asked_from line xs n

  record ByLines (c : Core) (xs : List AskedLine) : Type 0 where
    begin : AllBegin commands c (events_of xs)
    come : AllComeWithRoom ComesNext c (events_of xs)

  by_lines : (line : ℕ) (c : Core) (xs : List AskedLine) → StandsAt commands line c → Agree line xs → AreLast name line c xs → KeepsRecordRoom c (events_of xs) → ByLines c xs
  by_lines line c [] at agree are room = record { begin = tt; come = tt }
  by_lines line c (x ∷ xs) at agree are room =
      let here : commands line ≡ clients_only x.asked = agree line (omega arith) ∙ ap (λ (b : Bool). cond b (clients_only x.asked) (asked_from (line + 1) xs line)) (eq-eqb line line refl) in
      let one : Stretch commands line c x.events = one_line line c x at here are.0 are.1 are.2 (room_front c x.events (events_of xs) room) in
      let more : ByLines (steps c x.events) xs =
      by_lines (line + 1) (steps c x.events) xs one.behind
      (λ n low. agree n (omega (arith, low)) ∙ ap (λ (b : Bool). cond b (clients_only x.asked) (asked_from (line + 1) xs n)) (ne_eqb n line (λ is. absurd (omega (arith, low, is)))))
      are.3 (room_rest c x.events (events_of xs) room) in
      record {
        begin = begin_join commands c x.events (events_of xs) one.begin more.begin;
        come = come_join c x.events (events_of xs) one.come more.come;
      }

-- ---- from the opening on

module _ (below : LawsBelow) (shown : ByPointers) (set : Setting) (found : Found) (cs : List Folded) (names : GivesAddresses set.name) (may : MayOpen (any_lines set) set.shape (opens_with set found) found.opened cs)
    (known : (events : Events) → AllKnowTheirCopies (first_core set found) events) (name : List ℕ → Address) (turns : Events) (book : Book) (lines : List AskedLine) (g : GoesToEnd name set found turns book lines) where
  abbrev first : Core
  first = first_core set found

  abbrev mid : Core
  mid = steps (first_core set found) turns

  abbrev top : ℕ
  top = book.core.progress.last_line

  abbrev asked : ℕ → Option Command
  asked = commands_of g.led.events book.core.progress.last_line lines

  abbrev whole : Events
  whole = turns ++ (g.led.events ++ events_of lines)

  abbrev last : Core
  last = steps book.core (events_of lines)

  no_line : HasNoLine (first_core set found)
  no_line = opens_lines set.shape set.limits (opens_with set found) found.opened

  quiet : Goes nobody 0 (first_core set found) turns
  quiet = opening_goes nobody false first turns refl no_line.event_line (opening_due true first turns g.turned)

  asks : Goes (commands_of g.led.events book.core.progress.last_line lines) 0 (first_core set found) turns
  asks = opening_goes asked false first turns refl no_line.event_line (opening_due true first turns g.turned)

  mid_event : (steps (first_core set found) turns).progress.event_line ≡ 0
  mid_event = let up : mid.progress.event_line ≤ 0 = quiet.up.upward in omega (arith, up)

  mid_last : (steps (first_core set found) turns).progress.last_line ≡ 0
  mid_last = quiet_lines turns first quiet.begin ∙ no_line.last_line

  last_there : (steps (steps (first_core set found) turns) g.led.events).progress.last_line ≡ book.core.progress.last_line
  last_there = ap (λ (c : Core). c.progress.last_line) (sym g.led.led)

  event_there : book.core.progress.event_line ≡ book.core.progress.last_line
  event_there = subst (λ (c : Core). c.progress.event_line ≡ c.progress.last_line) (sym g.led.led) (book_meets g.led.events mid g.led.may (mid_event ∙ sym mid_last))

  by : ByLines (commands_of g.led.events book.core.progress.last_line lines) name book.core lines
  by = by_lines asked name (top + 1) book.core lines
      (record {
        next = record { above = omega (arith, event_there); next = λ k low high. absurd (omega (arith, event_there, low, high)) };
        last = omega arith;
      })
      (λ n low. at_lines g.led.events top lines n (omega (arith, low))) g.last g.kept

  turned : AllKeepTurn (commands_of g.led.events book.core.progress.last_line lines) (first_core set found) turns
  turned = keep_turn asked turns first (all_come asked first turns first.moment g.until (λ going. omega arith) g.rises asks.begin)

  booked : AllKeepTurn (commands_of g.led.events book.core.progress.last_line lines) (steps (first_core set found) turns) g.led.events
  booked = book_turns asked refl top g.led.events mid g.led.may (mid_event ∙ sym mid_last) (omega (arith, last_there))
      (λ n up high. ap (λ (x : Option Command). client_op x) (at_book g.led.events top lines n (omega (arith, up)) high))

  ended : AllKeepTurn (commands_of g.led.events book.core.progress.last_line lines) book.core (events_of lines)
  ended = keep_turn asked (events_of lines) book.core (all_come asked book.core (events_of lines) g.begun g.end (λ going. g.later) g.rise by.begin)

  keep : AllKeepTurn (commands_of g.led.events book.core.progress.last_line lines) (first_core set found) (turns ++ (g.led.events ++ events_of lines))
  keep = turn_join asked first turns (g.led.events ++ events_of lines) turned
      (turn_join asked mid g.led.events (events_of lines) booked (subst (λ (c : Core). AllKeepTurn asked c (events_of lines)) g.led.led ended))

  come : AllComeOn ComesNext (first_core set found) (turns ++ (g.led.events ++ events_of lines))
  come = comes_on ComesNext first whole (known whole)
      (come_join first turns (g.led.events ++ events_of lines) (quiet_comes turns first quiet.begin g.opened)
      (come_join mid g.led.events (events_of lines) (book_comes g.led.events mid g.room g.led.may) (subst (λ (c : Core). AllComeWithRoom ComesNext c (events_of lines)) g.led.led by.come)))

  last_is : steps (first_core set found) (turns ++ (g.led.events ++ events_of lines)) ≡ steps book.core (events_of lines)
  last_is = steps_append first turns (g.led.events ++ events_of lines) ∙ steps_append mid g.led.events (events_of lines) ∙ ap (λ (c : Core). steps c (events_of lines)) (sym g.led.led)

  told : HasTold set.limits (hollow (store_with cs [])) (steps book.core (events_of lines))
  told = subst (λ (c : Core). HasTold set.limits (hollow (store_with cs [])) c) last_is
      (history_told below shown set found cs names may asked refl whole (all_clients g.led.events top lines) come keep)

  turn : IsInTurn (commands_of g.led.events book.core.progress.last_line lines) (steps book.core (events_of lines))
  turn = subst (λ (c : Core). IsInTurn asked c) last_is (history_turn below shown set found cs names may asked refl whole come keep)

  folds : (after : List Folded) × IsFolded (steps book.core (events_of lines)) after
  folds = subst (λ (c : Core). (after : List Folded) × IsFolded c after) last_is (history_folds below shown set found cs names may asked refl whole come keep)

  pub lines_leave : (steps book.core (events_of lines)).ended ≡ None → LeavesDeeds set.limits (hollow (store_with cs [])) (steps book.core (events_of lines))
  lines_leave going =
      let bare : bare_store last ≡ hollow (store_with folds.0 last.sessions) = bare_is last folds.0 folds.1 in
      let shows = below.views folds.0 last op.Stat folds.1 tt in
      let all : told_so_far last ≡ last.journal =
      ap (λ (es : List JournalEntry). (last.journal ++ last.refused) ++ es) turn.told ∙ append-nil (last.journal ++ last.refused)
      ∙ ap (λ (es : List JournalEntry). last.journal ++ es) (turn.going going) ∙ append-nil last.journal in
      record {
        deeds = told_deeds set.limits (hollow (store_with cs [])) last told;
        left = ap (λ (es : List JournalEntry). store_after (hollow (store_with cs [])) (map as_deed es)) (sym all) ∙ told.left;
        blocks = ap (λ (s : Store). length s.blocks) bare ∙ length_hollow (store_with folds.0 last.sessions).blocks ∙ sym shows.blocks;
        roots = ap (λ (s : Store). count_by (λ root. is_none root.dropped) s.roots) bare ∙ sym shows.retained;
      }
