-- A run goes on by events that are due, with what its disks tell.
use Rattle.std.proofs.Common.{◌≡◌, ◌∙◌, ap, sym, subst, ℕ, ◌<◌, List, [], ◌∷◌, None, take, length}
use Rattle.hs_standing.specs.Walks.{HasRecordRoom}
use Rattle.hs_answered.specs.Telling.{Judging}
use Rattle.hs_standing.proofs.AddressedLemmas.{AllAddressed, LinesAsk}
use Rattle.hs_standing.specs.Answered.{KeepsRecordRoom, TellTheirBlocks}
use Rattle.hs_clauses.proofs.AlongLemmas.{all_keep}
use Rattle.hs_clauses.proofs.RoomLemmas.{keeps_room, last_room}
use Rattle.hs_cluster.specs.Kept.{AreTold, IsTold}
use Rattle.hs_cluster.specs.Rooms.{HaveRecordRoom}
use Rattle.hs_cluster.specs.Steady.{AreSteady}
use Rattle.hs_copies.specs.Machine.{Copies}
use Rattle.hs_core_words.specs.declared.event.Event.{Event}
use Rattle.hs_core_words.specs.State.{Core}
use Rattle.hs_core_words.specs.Step.{step}
use Rattle.hs_settled.specs.Deletion.{TellsDeletion}
use Rattle.hs_effects.specs.Logged.{MayBeginAll}
use Rattle.hs_entry.specs.declared.entry.Entry.{Entry}
use Rattle.hs_events.specs.Asked.{report_in}
use Rattle.hs_events.specs.Course.{steps}
use Rattle.hs_events.specs.Due.{Events, MomentsRise}
use Rattle.hs_events.specs.Whole.{Whole, step_whole}
use Rattle.hs_known_copies.proofs.KnownLemmas.{knows_along}
use Rattle.hs_settled.specs.Moving.{IsMoving}
use Rattle.hs_limits.specs.declared.address.Address.{Address}
use Rattle.hs_limits.specs.declared.shape.Shape.{Shape}
use Rattle.hs_standing.specs.Script.{AreLines, IsNext, Script, all_events}
use Rattle.hs_measure.proofs.RoomyLemmas.{steps_roomy}
use Rattle.hs_moments.specs.Machine.{runs}
use Rattle.hs_moments.specs.WholeMachine.{whole_machine}
use Rattle.hs_clauses.proofs.InStepReadLemmas.{in_step_reads}
use Rattle.hs_clauses.specs.Along.{AllCome, Comes as IsComing}
use Rattle.hs_clauses.specs.Run.{ReadsInStep, ReadsWhatIsSealed}
use Rattle.hs_measure.proofs.RestLemmas.{runs_core}
use Rattle.hs_measure.specs.Between.{IsAlong}
use Rattle.hs_measure.specs.Promised.{KeepsPromise}
use Rattle.hs_settled.proofs.ListLemmas.{take_all}
use Rattle.hs_quiet.proofs.RunLemmas.{going_before}
use Rattle.hs_standing.specs.Coming.{ReportsBlocks}
use Rattle.hs_standing.specs.Run.{MayRun, RunsBefore}
use Rattle.hs_standing.specs.Standing.{AllMayKeep, judging_of}
use Rattle.hs_standing.specs.Start.{Start}
use Rattle.hs_told.specs.InTurn.{AllMayCome, IsInTurn}
use Rattle.hs_whole_copies.specs.Whole.{IsWholeInStep}

-- ---- the laws below, in one place

-- what hs_clauses says of reports
pub record TellLaws : Type 0 where
  pub reports : (start : Start) (c : Whole) (event : Event) → ReadsWhatIsSealed start c → IsTold c (report_in event) → ReportsBlocks (judging_of start) start.entry event c.core
  pub reads : (start : Start) (c : Whole) (event : Event) (moment : ℕ) → ReadsInStep start c → IsComing (judging_of start) c.core event moment → HasRecordRoom c.core → IsTold c (report_in event)
      → (step event moment c.core).ended ≡ None → ReadsInStep start (step_whole event moment c)

-- with what each event of a run keeps, and what hs_settled says of what is open
pub record AlongLaws : Type 0 where
  pub tell : TellLaws
  pub events : (start : Start) (core : Core) (events : Events) → RunsBefore start core events → AllMayKeep start (MayRun start) core events → TellsDeletion (judging_of start) start.entry core
      → (n : ℕ) → KeepsPromise start (steps core (take n events))
  pub moves : (name : List ℕ → Address) (core : Core) (events : Events) → IsMoving name core → MayBeginAll name events core → (steps core events).ended ≡ None → IsMoving name (steps core events)

-- what is known of events: they come, and what is told of disks
pub record Comes (start : Start) (c : Whole) (es : Events) : Type 0 where
  pub come : AllMayCome start.commands c.core es
  pub fresh : MayBeginAll start.set.name es c.core
  pub addressed : AllAddressed (judging_of start) es c.core
  pub rooms : HaveRecordRoom c.core es
  pub told : AreTold c es

all_comes : (start : Start) (es : Events) (core : Core) → AllMayCome start.commands core es → MayBeginAll start.set.name es core → AllAddressed (judging_of start) es core → AllCome (judging_of start) core es
all_comes start [] core come fresh addressed = tt
all_comes start (e ∷ es) core come fresh addressed = (
  (λ going. record { may = come.0 going; begins = fresh.0; addressed = addressed.0 }),
  all_comes start es (step e.0 e.1 core) come.1 fresh.1 addressed.1,
)

-- ---- a run with its events

-- what it reads is sealed, and its core knows its copies along any events
reads_sealed : (start : Start) (c : Whole) → ReadsInStep start c → ReadsWhatIsSealed start c
reads_sealed start c r = in_step_reads c r.machines r.whole start r.folds r.holds r.at_home (λ g low. r.settled g (subst (λ (z : Shape). g < z.shards) r.shape low))

pub before_events : (start : Start) (c : Whole) → ReadsInStep start c → HasRecordRoom c.core → (es : Events) → RunsBefore start c.core es
before_events start c r few es = record {
  names = r.names;
  valid = r.valid;
  turn = r.turn;
  folds = r.folds;
  stands = r.holds.stands;
  few = λ going. few;
  known = knows_along c.core es r.machines (record { shape = r.whole.shape; each = λ g low. (r.whole.each g low).in_step });
}

module _ (laws : TellLaws) (start : Start) where
  -- each report tells its block, as long as the core goes on
  tell_along : (c : Whole) (es : Events) → (c.core.ended ≡ None → ReadsInStep start c) → AllCome (judging_of start) c.core es → KeepsRecordRoom c.core es → AreTold c es → TellTheirBlocks (judging_of start) start.entry c.core es
  tell_along c [] r come room told = tt
  tell_along c (e ∷ es) r come room told = (
    λ going. laws.reports start c e.0 (reads_sealed start c (r going)) told.0,
    tell_along (step_whole e.0 e.1 c) es (λ on. (let going = going_before (e ∷ []) c.core on in laws.reads start c e.0 e.1 (r going) (come.0 going) (room.0 going) told.0 on)) come.1 room.1 told.1,
  )

  -- and behind all of them it reads what is there
  read_along : (c : Whole) (es : Events) → ReadsInStep start c → AllCome (judging_of start) c.core es → KeepsRecordRoom c.core es → AreTold c es → (steps c.core es).ended ≡ None → ReadsInStep start (runs whole_machine c es)
  read_along c [] r come room told going = r
  read_along c (e ∷ es) r come room told going =
      let on : (step e.0 e.1 c.core).ended ≡ None = going_before es (step e.0 e.1 c.core) going in
      read_along (step_whole e.0 e.1 c) es (laws.reads start c e.0 e.1 r (come.0 r.whole.going) (room.0 r.whole.going) told.0 on) come.1 room.1 told.1 going

  module _ (c : Whole) (r : ReadsInStep start c) (few : HasRecordRoom c.core) (es : Events) (comes : Comes start c es) where
    all : AllCome (judging_of start) c.core es
    all = all_comes start es c.core comes.come comes.fresh comes.addressed

    rooms : KeepsRecordRoom c.core es
    rooms = keeps_room c.core es (λ going. few) comes.rooms

    pub last_few : (steps c.core es).ended ≡ None → HasRecordRoom (steps c.core es)
    last_few = last_room c.core es (λ going. few) comes.rooms

    -- each event may come, and keeps the run standing
    pub may_come : AllMayKeep start (MayRun start) c.core es
    may_come = all_keep start c.core es comes.come comes.fresh comes.addressed (record { room = rooms; blocks = tell_along c es (λ going. r) all rooms comes.told }) last_few

    pub reads_behind : (steps c.core es).ended ≡ None → ReadsInStep start (runs whole_machine c es)
    reads_behind going = read_along c es r all rooms comes.told going

module _ (laws : AlongLaws) (start : Start) (c : Whole) (its : IsAlong start c) (es : Events) (comes : Comes start c es) where
  pub run : RunsBefore start c.core es
  run = before_events start c its.reading its.few es

  pub may : AllMayKeep start (MayRun start) c.core es
  may = may_come laws.tell start c its.reading its.few es comes

  pub moments : (n : ℕ) → KeepsPromise start (steps c.core (take n es))
  moments n = laws.events start c.core es run may its.deletes n

  -- behind all of them
  pub kept : KeepsPromise start (steps c.core es)
  kept = subst (λ (xs : Events). KeepsPromise start (steps c.core xs)) (take_all es) (moments (length es))

  module _ (going : (steps c.core es).ended ≡ None) where
    pub goes_on : IsAlong start (runs whole_machine c es)
    goes_on = record {
      reading = reads_behind laws.tell start c its.reading its.few es comes going;
      few = subst (λ (x : Core). HasRecordRoom x) (sym (runs_core c es)) (last_few laws.tell start c its.reading its.few es comes going);
      moving = subst (λ (x : Core). IsMoving start.set.name x) (sym (runs_core c es)) (laws.moves start.set.name c.core es its.moving comes.fresh going);
      deletes = subst (λ (x : Core). TellsDeletion (judging_of start) start.entry x) (sym (runs_core c es)) kept.deletes;
      pool = ap (λ (x : Core). x.pool.limit) (runs_core c es) ∙ (steps_roomy es c.core).limit ∙ its.pool;
    }

-- ---- the events of a line

-- what hs_told and hs_standing say of them
pub record LineLaws : Type 0 where
  pub come : (s : Script) (line : ℕ) (core : Core) (lines : List Events) (to : ℕ) → IsNext s.commands core line → MomentsRise core.moment (all_events lines) to → AreLines s line core lines → AllMayCome s.commands core (all_events lines)
  pub fresh : (s : Script) (line : ℕ) (core : Core) (lines : List Events) (to : ℕ) → IsInTurn s.commands core → IsNext s.commands core line → MomentsRise core.moment (all_events lines) to → AreLines s line core lines → MayBeginAll s.name (all_events lines) core
  pub asks : (by : Judging) → LinesAsk by
  pub steady : (c : Whole) (events : Events) (machines : ℕ → Copies Entry) → IsWholeInStep c machines → AreSteady c events
