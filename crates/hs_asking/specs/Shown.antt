-- What an asker tells of itself.
use Rattle.std.specs.Prelude.{ℕ, List, Option}
use Rattle.hs_desk.specs.declared.fault.CoreFault.{CoreFault}
use Rattle.hs_journal.specs.Events.{events_of}
use Rattle.hs_journal.specs.declared.entry.JournalEntry.{JournalEntry}
use Rattle.hs_limits.specs.declared.address.Address.{Address}
use Rattle.hs_limits.specs.declared.limits.Limits.{Limits}
use Rattle.hs_model.specs.Run.{Event, run}
use Rattle.hs_model.specs.Store.{Store}
use Rattle.hs_model.specs.declared.command.Command.{Command}
use Rattle.hs_model.specs.declared.op.Op.{Op}

-- with what it began: the naming of blocks, the limits, and the store
pub record Began : Type 0 where
  pub name : List ℕ → Address
  pub limits : Limits
  pub store : Store

-- the operations that were asked for, in order; the command of each line so far; what was answered;
-- the fault that ended it, if one did; and with what it began, which is told under a condition
pub record Shown (tells : Type 0) : Type 0 where
  pub asked : List Op
  pub commands : ℕ → Option Command
  pub journal : List JournalEntry
  pub ended : Option CoreFault
  pub began : Began

-- this holds of what an asker began with, where that is told
abbrev pub IfTold : {tells : Type 0} → Shown tells → (Began → Type 0) → Type 0
IfTold {tells} s P = tells → P s.began

-- what happened since it began, by its journal
abbrev pub events_since : {tells : Type 0} → Began → Shown tells → List Event
events_since b s = events_of s.commands b.name b.limits b.store s.journal

-- the store after that
abbrev pub store_now : {tells : Type 0} → Began → Shown tells → Store
store_now b s = run b.limits b.store (events_since b s)
