-- A run over sound lists, from opening on.
use Rattle.std.specs.List.{AllByRecursion}
use Rattle.std.specs.Prelude.{◌≡◌, List, None}
use Rattle.hs_core_words.specs.declared.event.Event.{Event}
use Rattle.hs_core_words.specs.Records.{HasRecordRoom}
use Rattle.hs_core_words.specs.State.{Core}
use Rattle.hs_events.specs.Due.{Events}
use Rattle.hs_events.specs.Found.{Found, opens_with}
use Rattle.hs_events.specs.Whole.{Whole}
use Rattle.hs_fold.specs.Runs.Facts.{Catalogue as Folded}
use Rattle.hs_fold.specs.Runs.Opened.{store_of}
use Rattle.hs_journal.specs.Events.{client_op}
use Rattle.hs_standing.specs.Copies.{AllKnowTheirCopies}
use Rattle.hs_standing.specs.Held.{GivesAddresses, KeepsAddresses}
use Rattle.hs_laws.specs.Valid.{IsValid}
use Rattle.hs_standing.specs.Legal.{IsStanding, MayStand}
use Rattle.hs_limits.specs.Shape.{IsShape}
use Rattle.hs_standing.specs.Opening.{OpensSoundly, OpensWell, opened_folds}
use Rattle.hs_standing.specs.Standing.{StandsWith, judging_of}
use Rattle.hs_standing.specs.Start.{Start}
use Rattle.hs_told.specs.InTurn.{IsInTurn}

-- a run of any number of copies begins over sound lists, at the store of these, and line 0 is no client's
pub record RunBegins (start : Start) (found : Found) : Type 0 where
  pub soundly : OpensSoundly start.set found
  pub entry : start.entry ≡ store_of (opened_folds start.set found)
  pub nobody : client_op (start.commands 0) ≡ None

-- it opens well, of a shape, at the store of its lists; blocks are named by addresses of 32 bytes, and such are all that the lists have
pub record RunOpens (start : Start) (found : Found) : Type 0 where
  pub well : OpensWell start found
  pub shape : IsShape start.set.shape
  pub entry : start.entry ≡ store_of (opened_folds start.set found)
  pub names : GivesAddresses start.set.name
  pub addressed : AllByRecursion KeepsAddresses (opens_with start.set found).catalogues

-- an event of it may come
abbrev pub MayRun : Start → Event → Core → Type 0
MayRun start event core = MayStand (judging_of start) start.entry event core

-- what was told is a legal run up to the store of these folds, and all that keeps it so
abbrev pub RunStands : Start → Core → List Folded → Type 0
RunStands start core cs = IsStanding (judging_of start) start.entry core cs

-- a run of any number of copies between two events, before some: its answers are in order, its core stands for some folds, and has few root records; and it has
-- its seats, and knows its copies, along them
pub record RunsBefore (start : Start) (core : Core) (events : Events) : Type 0 where
  pub names : GivesAddresses start.set.name
  pub valid : IsValid start.entry
  pub turn : IsInTurn start.commands core
  pub folds : List Folded
  pub stands : RunStands start core folds
  pub few : core.ended ≡ None → HasRecordRoom core
  pub known : AllKnowTheirCopies core events

-- a run that opened well between two events
pub record IsRunning (start : Start) (c : Whole) : Type 0 where
  pub names : GivesAddresses start.set.name
  pub valid : IsValid start.entry
  pub stands : StandsWith start (RunStands start) c
