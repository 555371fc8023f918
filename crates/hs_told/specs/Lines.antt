-- What the event of a client's line tells, and the store that it leaves.
use Rattle.std.specs.Prelude.{◌≡◌, ℕ, ◌+◌, ◌++◌, true, false, List, [], ◌∷◌, length, nat_lt, Option, Some, None}
use Rattle.hs_answered.specs.Asked.{busy_with, first_step}
use Rattle.hs_answered.specs.Judged.{entry_of, judged_at}
use Rattle.hs_answered.specs.Standing.{IsFolded, store_with}
use Rattle.hs_core_words.specs.declared.event.Event.TheVariants as event
use Rattle.hs_core_words.specs.State.{Core}
use Rattle.hs_core_words.specs.Step.{step}
use Rattle.hs_fold.specs.Runs.Facts.{Catalogue as Folded}
use Rattle.hs_journal.specs.declared.entry.JournalEntry.{JournalEntry}
use Rattle.hs_journal.specs.declared.entry.Who.TheVariants as who
use Rattle.hs_model.specs.declared.deed.Deed.TheVariants as deed
use Rattle.hs_model.specs.declared.op.Op.{Op}
use Rattle.hs_model.specs.declared.reply.Reply.TheVariants as reply
use Rattle.hs_model.specs.Judge.{asked_of}
use Rattle.hs_model.specs.Store.{Store}
use Rattle.hs_ops.specs.declared.step.OpStep.{OpStep}
use Rattle.hs_ops.specs.declared.step.OpStep.TheVariants.{Answer, Compare, Propose, Wait}

-- its session is busy with another line
abbrev pub busy_entry : ℕ → ℕ → ℕ → Op → JournalEntry
busy_entry line moment other o = record { who = who.Line line; moment = moment; deed = deed.Refused (asked_of o); reply = reply.Busy other }

-- that its session is busy, what the judge says where the first step answers, and nothing where the operation waits
abbrev pub told_line : List Folded → Core → ℕ → ℕ → Op → List JournalEntry
told_line cs core line moment o = by_busy (busy_with o core)
  where
    by_step : OpStep → List JournalEntry
    by_step (Answer r) = entry_of line moment (judged_at cs core o) ∷ []
    by_step (Propose entry) = []
    by_step (Compare number) = []
    by_step Wait = []

    by_busy : Option ℕ → List JournalEntry
    by_busy (Some other) = busy_entry line moment other o ∷ []
    by_busy None = by_step (first_step line o core)

-- the judge's store where he was asked, and else the store as it was
abbrev pub left_line : List Folded → Core → ℕ → Op → Store
left_line cs core line o = by_busy (busy_with o core)
  where
    by_step : OpStep → Store
    by_step (Answer r) = (judged_at cs core o).store
    by_step (Propose entry) = store_with cs core.sessions
    by_step (Compare number) = store_with cs core.sessions
    by_step Wait = store_with cs core.sessions

    by_busy : Option ℕ → Store
    by_busy (Some other) = store_with cs core.sessions
    by_busy None = by_step (first_step line o core)

-- the event tells exactly that, behind what was told, and leaves that store; where the journal has no room for it, it stands beside the journal
pub record TakesLine (cs : List Folded) (core : Core) (line moment : ℕ) (o : Op) : Type 0 where
  pub room : nat_lt core.limits.ops (length core.journal + length (told_line cs core line moment o)) ≡ false
      → ((step (event.Line line o) moment core).journal ≡ core.journal ++ told_line cs core line moment o)
      × ((step (event.Line line o) moment core).refused ≡ [])
  pub full : nat_lt core.limits.ops (length core.journal + length (told_line cs core line moment o)) ≡ true
      → ((step (event.Line line o) moment core).journal ≡ core.journal)
      × ((step (event.Line line o) moment core).refused ≡ told_line cs core line moment o)
  pub left : store_with cs (step (event.Line line o) moment core).sessions ≡ left_line cs core line o
  pub folded : IsFolded (step (event.Line line o) moment core) cs
