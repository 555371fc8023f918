-- A whole of one copy a shard that stands between two events, and events by which it goes on.
use Rattle.std.specs.Prelude.{◌≡◌, ℕ, ◌++◌, ◌<◌, ◌≤◌, List, [], ◌∷◌, Some, None, IsSome, slice_get}
use Rattle.hs_standing.specs.Walks.{HasRecordRoom}
use Rattle.hs_answered.specs.Standing.{IsFolded, store_with}
use Rattle.hs_answered.specs.Telling.{Judging, Tells}
use Rattle.hs_awaiting.specs.declared.waiting.Waiting.{Waiting}
use Rattle.hs_core_words.specs.declared.event.Event.{Event}
use Rattle.hs_core_words.specs.Looking.{front_of, group_of, operation_of, shape_of}
use Rattle.hs_core_words.specs.State.{Core}
use Rattle.hs_core_words.specs.Step.{step}
use Rattle.hs_effects.specs.Logged.{IsOrderly}
use Rattle.hs_entry.specs.declared.entry.Entry.{Entry}
use Rattle.hs_events.specs.Due.{Events}
use Rattle.hs_events.specs.Sane.{IsSane}
use Rattle.hs_events.specs.Whole.{Whole, reach}
use Rattle.hs_fold.specs.Good.{IsBegun}
use Rattle.hs_fold.specs.Runs.Facts.{Catalogue as Folded}
use Rattle.hs_fold.specs.Shards.Images.{Stop}
use Rattle.hs_fold.specs.Shards.Parted.{NamesUpTo}
use Rattle.hs_fold.specs.Shards.Sound.{HasRisingViews}
use Rattle.hs_journal.specs.Events.{client_op}
use Rattle.hs_moments.specs.WholeMachine.{whole_machine}
use Rattle.hs_standing.specs.Settled.{AreSettled}
use Rattle.hs_standing.specs.Stands.{lists_of}
use Rattle.hs_standing.specs.Start.{Start}
use Rattle.hs_told.specs.InTurn.{IsInTurn, MayCome}
use Rattle.hs_waiting.specs.Waits.{EntryWaits}

-- ---- a core with its folds

-- by what the journal of a run is judged that begins so
abbrev pub judging_of : Start → Judging
judging_of start = record { commands = start.commands; name = start.set.name; limits = start.set.limits }

-- an entry that waits of a shard has what it rests on
abbrev pub IsRested : Core → List Folded → ℕ → Entry → Type 0
IsRested core cs shard entry = NamesUpTo (front_of shard core) entry × EntryWaits cs shard entry

-- operations are in order and each is of a client's line; the catalogues are these folds; what was told is a legal run up to their store, and what waits rests on it
pub record CoreStands (start : Start) (core : Core) (cs : List Folded) : Type 0 where
  pub orderly : IsOrderly start.set.name core
  pub folded : IsFolded core cs
  pub told : Tells (judging_of start) start.entry ((core.journal ++ core.refused) ++ core.entries) (store_with cs core.sessions)
  pub rested : (shard place : ℕ) (entry : Entry) → slice_get (group_of shard core).waiting place ≡ Some entry → IsRested core cs shard entry
  pub asked : (line : ℕ) (w : Waiting) → operation_of line core ≡ Some w → IsSome (client_op (start.commands line))

-- ---- a whole between two events

-- it is sane and answers in order, its core stands with the folds of what took effect of its lists, views never fall, and no shard has too many root records
pub record WholeStands (start : Start) (c : Whole) : Type 0 where
  pub shape : shape_of c.core ≡ start.set.shape
  pub limits : c.core.limits ≡ start.set.limits
  pub sane : IsSane c
  pub turn : IsInTurn start.commands c.core
  pub cs : List Folded
  pub stands : CoreStands start c.core cs
  pub settled : AreSettled start.set (lists_of whole_machine c) cs
  pub views : (shard : ℕ) → shard < start.set.shape.shards → HasRisingViews (reach c shard)
  pub few : HasRecordRoom c.core

-- and P is known of its core with these folds
pub record StandsWith (start : Start) (P : Core → List Folded → Type 0) (c : Whole) : Type 0 where
  pub whole : WholeStands start c
  pub holds : P c.core whole.cs

-- each client's line up to the last one was begun below the moment of a stop
abbrev pub AreBegun : Start → Stop → Core → Type 0
AreBegun start stop core = (line : ℕ) → 1 ≤ line → line ≤ core.progress.event_line → IsSome (client_op (start.commands line)) → IsBegun stop.course line stop.moment

-- this is the state of a run at a moment
abbrev pub IsStateAt : Whole → Whole → Type 0
IsStateAt state c = c ≡ state

-- ---- events

-- an event may come, and as May asks; where the core goes on behind it, no shard has too many root records then
pub record MayKeep (start : Start) (May : Event → Core → Type 0) (core : Core) (event : Event) (moment : ℕ) : Type 0 where
  pub comes : MayCome start.commands core event moment
  pub may : May event core
  pub room : (step event moment core).ended ≡ None → HasRecordRoom (step event moment core)

-- so each of some, as long as the core goes on
abbrev pub AllMayKeep : Start → (Event → Core → Type 0) → Core → Events → Type 0
AllMayKeep start May core [] = Unit {0}
AllMayKeep start May core (e ∷ es) = (core.ended ≡ None → MayKeep start May core e.0 e.1) × AllMayKeep start May (step e.0 e.1 core) es
