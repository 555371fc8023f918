-- A core whose journal is a legal run of the plain store, and all that keeps it so.
use Rattle.std.specs.Prelude.{◌≡◌, List}
use Rattle.hs_standing.specs.Walks.{MayEvent}
use Rattle.hs_answered.specs.Telling.{Judging}
use Rattle.hs_core_words.specs.declared.event.Event.{Event}
use Rattle.hs_core_words.specs.State.{Core}
use Rattle.hs_effects.specs.Lawful.{IsLawful}
use Rattle.hs_effects.specs.Logged.{IsOrderly}
use Rattle.hs_effects.specs.Taking.{setting_of}
use Rattle.hs_fold.specs.Runs.Facts.{Catalogue as Folded}
use Rattle.hs_standing.specs.Held.{AreAddressed, AreWritten}
use Rattle.hs_standing.specs.Bytes.{TellsItsBlock}
use Rattle.hs_standing.specs.Commands.{AreCommanded, IsLineOf, IsNobodys}
use Rattle.hs_standing.specs.Epochs.{HaveEpochs}
use Rattle.hs_standing.specs.Telling.{IsTelling}
use Rattle.hs_model.specs.Store.{Store}
use Rattle.hs_standing.specs.Rests.{AreResting, AreStored}
use Rattle.hs_standing.specs.Sent.{AreSent}

-- the folds are those of a lawful history, of which all that waits may come, and the journal tells it
pub record IsStanding (by : Judging) (start : Store) (core : Core) (cs : List Folded) : Type 0 where
  pub limits : core.limits ≡ by.limits
  pub orderly : IsOrderly by.name core
  pub lawful : IsLawful by.name core cs
  pub sent : AreSent (setting_of by.name core) lawful.lawful.history core
  pub resting : AreResting core cs
  pub stored : AreStored core cs
  pub addressed : AreAddressed core
  pub written : AreWritten core cs
  pub commands : AreCommanded by core
  pub epochs : HaveEpochs core
  pub tells : IsTelling by start core cs

-- so an event may come: a client's line as its command asks, bytes as those of their block, and another line where it is no client's
abbrev pub MayStand : Judging → Store → Event → Core → Type 0
MayStand by start e core = MayEvent (λ line o c. IsLineOf by c line o) (TellsItsBlock by start) (IsNobodys by) e core
