-- Behind any events that its call takes a core is beside a steady one, also where it has ended with one of them.
use Rattle.std.proofs.Common.{◌≡◌, ◌∙◌, sym, ap, subst, ℕ, ◌+◌, ◌<◌, ◌≤◌, List, [], ◌∷◌, ◌++◌, Option, Some, None, refl, arith, take}
use Rattle.std.specs.Option.{option_map}
use Rattle.hs_answered.specs.Standing.{store_with}
use Rattle.hs_any_events.proofs.BytesLemmas.{ReadsAnyBytes}
use Rattle.hs_any_events.proofs.CodedHistoryLemmas.{base_is_above, base_of}
use Rattle.hs_any_events.proofs.CodedLemmas.{Code, coded_gives, coded_name}
use Rattle.hs_any_events.proofs.CodedOpeningLemmas.{beside_itself, steady_coded}
use Rattle.hs_any_events.proofs.CodedRightLemmas.{counted_so, sweeps_so}
use Rattle.hs_any_events.proofs.CodedTableLemmas.{brought_by, is_tabled, table_of, table_whole}
use Rattle.hs_any_events.proofs.CodedWalkLemmas.{IsCodedSteady, IsTabledLine, coded_new, views_coded, walks_coded}
use Rattle.hs_any_events.proofs.RightLemmas.{ZerosBehind}
use Rattle.hs_any_events.proofs.SteadyLemmas.{IsSteady}
use Rattle.hs_anatomy.specs.Acts.{Acts, begun as begun_by}
use Rattle.hs_any_events.specs.Events.{AreCountedRight, ComesNext, LineBringsAddress, Sweeps, SweepsRight, any_lines}
use Rattle.hs_awaiting.specs.declared.waiting.Waiting.{Waiting}
use Rattle.hs_core_words.specs.Calls.{IsNextLine, last_line_after}
use Rattle.hs_core_words.specs.declared.event.Event.{Event}
use Rattle.hs_core_words.specs.declared.event.Event.TheVariants as event
use Rattle.hs_core_words.specs.Looking.{group_of, operation_of, shape_of}
use Rattle.hs_core_words.specs.Opening.{new_core}
use Rattle.hs_core_words.specs.State.{Core}
use Rattle.hs_core_words.specs.Step.{step}
use Rattle.hs_desk.specs.declared.done.Done.{Done}
use Rattle.hs_desk.specs.declared.done.Done.TheVariants as done
use Rattle.hs_desk.specs.declared.fault.CoreFault.{CoreFault}
use Rattle.hs_effects.proofs.SweepLemmas.{ByViews}
use Rattle.hs_effects.specs.Taking.{taken}
use Rattle.hs_entry.specs.declared.entry.Entry.{Entry}
use Rattle.hs_events.specs.Course.{steps}
use Rattle.hs_events.specs.Due.{Events}
use Rattle.hs_events.specs.Found.{Found, first_core, opens_with}
use Rattle.hs_fold.specs.Runs.Facts.{Catalogue as Folded}
use Rattle.hs_fold.specs.Shards.Setting.{Setting}
use Rattle.hs_laws.specs.Valid.{IsValid}
use Rattle.hs_limits.specs.declared.address.Address.{Address}
use Rattle.hs_limits.specs.declared.limits.Limits.{Limits}
use Rattle.hs_model.proofs.Members.{Member, member-append_left, member-append_right}
use Rattle.hs_model.specs.declared.command.Command.{Command}
use Rattle.hs_moments.proofs.CoreLemmas.{line_at}
use Rattle.hs_replica.specs.Group.{committed}
use Rattle.hs_settled.proofs.DeletesCountLemmas.{CountLaws}
use Rattle.hs_settled.proofs.DeletesRunLemmas.{steps_ended}
use Rattle.hs_standing.proofs.AlongWalkLemmas.{acts_keep_it, along, come_front, copies_step, knows_begun, seated_begun}
use Rattle.hs_standing.proofs.FewLemmas.{takes_few}
use Rattle.hs_standing.proofs.LegalOpenLemmas.{folds_valid, opened}
use Rattle.hs_standing.proofs.Laws.{Entries, Steps}
use Rattle.hs_standing.proofs.ValidLemmas.{told_valid}
use Rattle.hs_standing.specs.Copies.{AllComeOn, ComesOn}
use Rattle.hs_standing.specs.Held.{GivesAddresses}
use Rattle.hs_standing.specs.Opens.{MayOpen}
use Rattle.hs_standing.specs.Run.{RunStands}
use Rattle.hs_standing.specs.Standing.{judging_of}
use Rattle.hs_standing.specs.Start.{Start}
use Rattle.hs_standing.specs.Telling.{told_so_far}
use Rattle.hs_standing.specs.Walks.{MayEvent, MayReport}
use Rattle.hs_told.proofs.OpenedLemmas.{opened_turn}
use Rattle.hs_told.specs.InTurn.{IsInTurn}

-- the laws below, in one place
pub record LawsBelow : Type 0 where
  pub views : ByViews
  pub steps : Steps
  pub reads : ReadsAnyBytes
  pub laws : Entries

-- a core is beside one that is steady up to its last line
abbrev pub Steady : Code → Limits → Core → Type 0
Steady code limits core = IsCodedSteady code limits core.progress.last_line core

-- ---- as a core opens

-- of a core that stands and has no operation: payloads start above those of its history, and tell the addresses that these events bring
module _ (start : Start) (core : Core) (cs : List Folded) (its : RunStands start core cs) (valid : IsValid start.entry) (idle : (line : ℕ) (w : Waiting) → operation_of line core ≡ Some w → ⊥) where
  abbrev nobody : ℕ → Option Command
  nobody n = None

  abbrev stands_steady : IsSteady start.set.name start.set.limits core.progress.last_line core cs
  stands_steady = record {
    commands = nobody;
    none_above = λ line up. refl;
    limited = its.limits;
    orderly = its.orderly;
    lawful = its.lawful;
    sent = its.sent;
    resting = its.resting;
    stored = its.stored;
    addressed = its.addressed;
    commanded = λ line w at. absurd (idle line w at);
    epochs = its.epochs;
    valid = told_valid (judging_of start) start.entry (told_so_far core) (store_with cs core.sessions) valid its.tells;
  }

  abbrev pub code_for : Events → Code
  code_for events = record { name = start.set.name; base = base_of its.lawful.lawful.history; table = table_of events }

  stands_coded : (events : Events) → Steady (code_for events) start.set.limits core
  stands_coded events = record {
    coded = core;
    beside = beside_itself (code_for events) core idle;
    steady = (
      cs,
      steady_coded (code_for events) core idle start.set.limits core.progress.last_line cs stands_steady
          (base_is_above its.lawful.lawful.history (base_of its.lawful.lawful.history) (omega arith)),
    );
  }

-- no line was begun as it opens
pub none_begun : (core : Core) → IsInTurn (λ n. None) core → (line : ℕ) (w : Waiting) → operation_of line core ≡ Some w → ⊥
none_begun core turn line w at = cc (turn.turns.asked line w.operation.op (ap (λ (y : Option Waiting). option_map (λ (u : Waiting). u.operation.op) y) at)).named

-- ---- one event

-- the last line goes up
more_lines : (name : List ℕ → Address) (limits : Limits) (last next : ℕ) (core : Core) (cs : List Folded) → last ≤ next → IsSteady name limits last core cs → IsSteady name limits next core cs
more_lines name limits last next core cs up its = record {
  commands = its.commands;
  none_above = λ line above. its.none_above line (omega (arith, up, above));
  limited = its.limited;
  orderly = its.orderly;
  lawful = its.lawful;
  sent = its.sent;
  resting = its.resting;
  stored = its.stored;
  addressed = its.addressed;
  commanded = its.commanded;
  epochs = its.epochs;
  valid = its.valid;
}

line_rises : (e : Event) (core : Core) → IsNextLine core e → core.progress.last_line ≤ last_line_after e core
line_rises (event.Line line o) core next = let up : core.progress.last_line < line = next in omega (arith, up)
line_rises (event.Report peer d) core next = omega arith
line_rises (event.Turn line peer) core next = omega arith
line_rises (event.Deliver line number) core next = omega arith
line_rises (event.Lose line number) core next = omega arith
line_rises (event.Repeat line number) core next = omega arith
line_rises (event.Nudge line peer) core next = omega arith
line_rises (event.Fail line peer) core next = omega arith
line_rises (event.Start line peer) core next = omega arith

pub line_more : (code : Code) (limits : Limits) (c : Core) → Steady code limits c → (e : Event) → IsNextLine c e → IsCodedSteady code limits (last_line_after e c) c
line_more code limits c s e next = record {
  coded = s.coded;
  beside = s.beside;
  steady = (s.steady.0, more_lines (coded_name code) limits c.progress.last_line (last_line_after e c) s.coded s.steady.0 (line_rises e c next) s.steady.1);
}

-- what each report may tell
pub any_report : (peer : ℕ) (d : Done) (core : Core) → MayReport (λ number bytes w c. Unit {0}) peer d core
any_report peer (done.Stored number) core = tt
any_report peer (done.Sealed number) core = tt
any_report peer (done.Bytes number bytes) core = λ w r. tt
any_report peer (done.Gone number) core = λ w r. tt
any_report peer done.Emptied core = tt
any_report peer (done.Copied number) core = tt
any_report peer (done.Stepped switched) core = tt
any_report peer (done.Failed disk) core = tt

-- an event brings addresses of a table
abbrev pub IsWithin : Code → List Address → Type 0
IsWithin code addresses = (a : Address) → Member a addresses → Member a code.table

module _ (code : Code) (limits : Limits) (core : Core) (its : Steady code limits core) where
  -- a line above the last one is new
  pub new_line : (line : ℕ) → core.progress.last_line < line → operation_of line core ≡ None
  new_line line up = coded_new code limits core.progress.last_line core its line (by_operation (operation_of line its.coded) refl)
    where
      by_operation : (x : Option Waiting) → operation_of line its.coded ≡ x → operation_of line its.coded ≡ None
      by_operation None at = at
      by_operation (Some w) at =
          let says = (its.steady.1.commanded line w at).says in
          let none : None ≡ Some says.said = sym (its.steady.1.none_above line up) ∙ says.asks in
          absurd (cc none)

  may_event : (e : Event) → IsNextLine core e → LineBringsAddress e core → IsWithin code (brought_by e) → MayEvent (λ line o c. IsTabledLine code (last_line_after e core) line o c) (λ number bytes w c. Unit {0}) (λ line. Unit {0}) e core
  may_event (event.Line line o) next given within =
      let up : core.progress.last_line < line = next in
      record { new = new_line line up; counted = omega (arith, up); until = omega arith; tabled = is_tabled code core.sessions o within given }
  may_event (event.Report peer d) next given within = any_report peer d core
  may_event (event.Turn line peer) next given within = tt
  may_event (event.Deliver line number) next given within = tt
  may_event (event.Lose line number) next given within = tt
  may_event (event.Repeat line number) next given within = tt
  may_event (event.Nudge line peer) next given within = tt
  may_event (event.Fail line peer) next given within = tt
  may_event (event.Start line peer) next given within = tt

-- of some and one more it comes behind them
come_last : (es : Events) (e : Event × ℕ) (c : Core) → AllComeOn ComesNext c (es ++ e ∷ []) → AllComeOn ComesNext c es × ((steps c es).ended ≡ None → ComesOn ComesNext e.0 (steps c es))
come_last [] e c come = (tt, come.0)
come_last (x ∷ es) e c come = let rest = come_last es e (step x.0 x.1 c) come.1 in ((come.0, rest.0), rest.1)

-- the addresses of each are of the table
abbrev pub ComesWithin : Code → Event → Core → Type 0
ComesWithin code event core = ComesNext event core × IsWithin code (brought_by event)

pub all_within : (code : Code) (es : Events) (c : Core) → AllComeOn ComesNext c es → IsWithin code (table_of es) → AllComeOn (ComesWithin code) c es
all_within code [] c come within = tt
all_within code (e ∷ es) c come within = (
  λ going. let it = come.0 going in record { seated = it.seated; known = it.known; room = it.room; may = (it.may, λ a h. within a (member-append_left a (brought_by e.0) (table_of es) h)) },
  all_within code es (step e.0 e.1 c) come.1 (λ a h. within a (member-append_right a (brought_by e.0) (table_of es) h)),
)

module _ (below : LawsBelow) (code : Code) (names : GivesAddresses (coded_name code)) (limits : Limits) where
  next_of : (e : Event) (at : ℕ) (c : Core) → c.ended ≡ None → c.refused ≡ [] → c.entries ≡ [] → ComesOn (ComesWithin code) e c → Steady code limits c → Steady code limits (step e at c)
  next_of e at c going clean told come s =
      let last : ℕ = last_line_after e c in
      subst (λ (n : ℕ). IsCodedSteady code limits n (step e at c)) (sym (line_at c e at going))
      (copies_step (walks_coded below.views below.steps below.reads below.laws code names limits last) c (views_coded below.views below.steps below.reads below.laws code names limits last (shape_of c)) e at going come.seated come.known come.room clean
      (may_event code limits c s e come.may.0.next come.may.0.given come.may.1)
      (line_more code limits c s e come.may.0.next))

  pub all_steady : (es : Events) (c : Core) → c.refused ≡ [] → c.entries ≡ [] → AllComeOn (ComesWithin code) c es → Steady code limits c → Steady code limits (steps c es)
  all_steady es c clean told come s = along (ComesWithin code) (λ (x : Core). Steady code limits x) next_of es c clean told come s

-- ---- from opening on

module _ (below : LawsBelow) (set : Setting) (found : Found) (cs : List Folded) (names : GivesAddresses set.name) (may : MayOpen (any_lines set) set.shape (opens_with set found) found.opened cs) where
  abbrev start_of : Start
  start_of = record { set = set; commands = λ line. None; entry = store_with cs [] }

  abbrev opens : Core
  opens = first_core set found

  pub turn_of : IsInTurn (λ line. None) (first_core set found)
  turn_of = opened_turn (λ line. None) set.shape set.limits (opens_with set found) found.opened refl

  pub its_of : (after : List Folded) × RunStands start_of (first_core set found) after
  its_of = opened below.views below.steps below.laws (any_lines set) names set.shape (opens_with set found) found.opened cs may

  pub valid_of : IsValid (store_with cs [])
  valid_of = folds_valid set.name (new_core set.shape set.limits (opens_with set found) found.opened) cs may.lawful

  -- payloads tell the addresses that these events bring
  abbrev pub code_of : Events → Code
  code_of es = code_for start_of opens its_of.0 its_of.1 valid_of (none_begun opens turn_of) es

  given_of : (es : Events) → GivesAddresses (coded_name (code_of es))
  given_of es = coded_gives (code_of es) names (table_whole es)

  pub first_of : (table : Events) → Steady (code_of table) set.limits (first_core set found)
  first_of table = stands_coded start_of opens its_of.0 its_of.1 valid_of (none_begun opens turn_of) table

  -- behind events whose addresses are among them it is steady
  behind_of : (table es : Events) → AllComeOn ComesNext opens es → IsWithin (code_of table) (table_of es) → Steady (code_of table) set.limits (steps opens es)
  behind_of table es come within = go opens.ended refl
    where
      go : (o : Option CoreFault) → opens.ended ≡ o → Steady (code_of table) set.limits (steps opens es)
      go (Some fault) over = subst (λ (x : Core). Steady (code_of table) set.limits x) (sym (steps_ended opens es fault over)) (first_of table)
      go None going = all_steady below (code_of table) (given_of table) set.limits es opens (turn_of.going going) turn_of.told (all_within (code_of table) es opens come within) (first_of table)

  module _ (laws : CountLaws) (zeros : ZerosBehind) where
    pub copies_right : (es : Events) → AllComeOn ComesNext opens es → (n : ℕ) → AreCountedRight (steps opens (take n es))
    copies_right es come n =
        counted_so (code_of (take n es)) set.limits (steps opens (take n es)).progress.last_line (steps opens (take n es))
        (behind_of (take n es) (take n es) (come_front ComesNext n es opens come) (λ a m. m)) laws zeros (given_of (take n es))

    -- an entry takes effect by the event that comes next, where the addresses of all these are among those of a table
    sweeps_by : (table es : Events) (e : Event) (at : ℕ) → IsWithin (code_of table) (table_of es) → IsWithin (code_of table) (brought_by e) → AllComeOn ComesNext opens es → ComesOn ComesNext e (steps opens es)
        → (reached : Core) → Acts (begun_by e at (steps opens es)) (Some e) reached → (shard number : ℕ) (entry : Entry) → committed (group_of shard reached) ≡ Some (number, entry) → Sweeps shard reached (taken shard entry reached)
        → SweepsRight shard entry reached
    sweeps_by table es e at within brings come comes reached xs shard number entry next sweeps =
        sweeps_so (code_of table) set.limits (last_line_after e (steps opens es)) reached there laws zeros (given_of table) shard number entry next
        (takes_few (begun_by e at (steps opens es)) e (seated_begun e at (steps opens es) comes.seated) (knows_begun e at (steps opens es) comes.known) comes.room reached xs shard number entry next) sweeps
      where
        steady : Steady (code_of table) set.limits (steps opens es)
        steady = behind_of table es come within

        there : IsCodedSteady (code_of table) set.limits (last_line_after e (steps opens es)) reached
        there =
            acts_keep_it (walks_coded below.views below.steps below.reads below.laws (code_of table) (given_of table) set.limits (last_line_after e (steps opens es))) (steps opens es)
            (views_coded below.views below.steps below.reads below.laws (code_of table) (given_of table) set.limits (last_line_after e (steps opens es)) (shape_of (steps opens es))) e at comes.seated comes.known comes.room
            (may_event (code_of table) set.limits (steps opens es) steady e comes.may.next comes.may.given brings) (line_more (code_of table) set.limits (steps opens es) steady e comes.may.next) reached xs

    pub sweeps_right : (es : Events) (e : Event) (at : ℕ) → AllComeOn ComesNext opens (es ++ (e, at) ∷ []) → (steps opens es).ended ≡ None → (reached : Core) → Acts (begun_by e at (steps opens es)) (Some e) reached
        → (shard number : ℕ) (entry : Entry) → committed (group_of shard reached) ≡ Some (number, entry) → Sweeps shard reached (taken shard entry reached) → SweepsRight shard entry reached
    sweeps_right es e at come going =
        sweeps_by ((e, at) ∷ es) es e at (λ a m. member-append_right a (brought_by e) (table_of es) m) (λ a m. member-append_left a (brought_by e) (table_of es) m) (come_last es (e, at) opens come).0
        ((come_last es (e, at) opens come).1 going)
