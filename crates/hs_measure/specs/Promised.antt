-- What a core keeps of what is promised, behind each event of a run.
use Rattle.std.specs.Prelude.{◌≤◌, ℕ, IsSome}
use Rattle.hs_answered.specs.Telling.{events_in}
use Rattle.hs_standing.specs.Answered.{AreAnswers}
use Rattle.hs_core_words.specs.State.{Core}
use Rattle.hs_settled.specs.Counts.{CountsRight}
use Rattle.hs_settled.specs.Deletion.{TellsDeletion}
use Rattle.hs_journal.specs.Events.{client_op}
use Rattle.hs_journal.specs.Order.{IsOfLine, IsPrompt}
use Rattle.hs_laws.specs.Kept.{IsLevel}
use Rattle.hs_model.specs.Run.{run}
use Rattle.hs_settled.specs.Settled.{NothingOpen}
use Rattle.hs_standing.specs.Standing.{judging_of}
use Rattle.hs_standing.specs.Start.{Start}
use Rattle.hs_measure.specs.Zeros.{ZerosRight}
use Rattle.hs_told.specs.InTurn.{told_of}

-- its journal is answered as the plain store does, and so it is with what found it full; sweeps and `done` are told as promised; its counts are right, and so are its zero blocks;
-- and each line that is answered in its own event has its entry, up to the last line
pub record KeepsPromise (start : Start) (core : Core) : Type 0 where
  pub journal : AreAnswers (judging_of start) start.entry core.journal
  pub answers : AreAnswers (judging_of start) start.entry (told_of core)
  pub deletes : TellsDeletion (judging_of start) start.entry core
  pub counts : CountsRight start.set.name core
  pub zeros : ZerosRight start.set.name core
  pub prompt : (line : ℕ) → line ≤ core.progress.event_line → IsPrompt (client_op (start.commands line)) → (place : ℕ) × IsOfLine (told_of core) place line

-- nothing is open: each client's line up to the last line has its entry, and the store that the journal leaves is level
pub record IsAtRest (start : Start) (core : Core) : Type 0 where
  pub nothing : NothingOpen core
  pub answered : (line : ℕ) → line ≤ core.progress.event_line → IsSome (client_op (start.commands line)) → (place : ℕ) × IsOfLine core.journal place line
  pub level : IsLevel (run start.set.limits start.entry (events_in (judging_of start) start.entry core.journal))
