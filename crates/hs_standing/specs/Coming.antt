-- An event that may come to a core that stands, in the words of what is asked of it elsewhere.
use Rattle.std.specs.Prelude.{◌≡◌, List, Some}
use Rattle.hs_standing.specs.Walks.{MayReport}
use Rattle.hs_answered.specs.Standing.{store_with}
use Rattle.hs_answered.specs.Telling.{Judging}
use Rattle.hs_core_words.specs.declared.event.Event.{Event}
use Rattle.hs_core_words.specs.declared.event.Event.TheVariants as event
use Rattle.hs_core_words.specs.State.{Core}
use Rattle.hs_fold.specs.Runs.Facts.{Catalogue as Folded}
use Rattle.hs_journal.specs.Events.{addressed, client_op}
use Rattle.hs_standing.specs.Bytes.{TellsItsBlock}
use Rattle.hs_model.specs.declared.op.Op.{Op}
use Rattle.hs_model.specs.Store.{Store}

-- the write of a client's line comes with the address that the naming gives its block, where it has one
abbrev pub ComesAddressed : Judging → Event → Core → Type 0
ComesAddressed by (event.Line line o) core = (said : Op) (cs : List Folded) → client_op (by.commands line) ≡ Some said → addressed by.name (store_with cs core.sessions) said ≡ o
ComesAddressed by other core = Unit {0}

-- a report tells bytes of the block that the plain store has
abbrev pub ReportsBlocks : Judging → Store → Event → Core → Type 0
ReportsBlocks by start (event.Report peer d) core = MayReport (TellsItsBlock by start) peer d core
ReportsBlocks by start other core = Unit {0}
