-- A call that changed a side of a disk in memory, as contracts see it.
use Rattle.std.specs.Prelude.{ℕ, Bool}
use Rattle.hs_ports.specs.declared.change.Change.{Change}
use Rattle.hs_ports.specs.declared.change.Deed.{Deed}

-- a call, and whether the record has it: a call that failed has no place there if memory is
-- wanting
pub record Called : Type 0 where
  pub moment : ℕ
  pub deed : Deed
  pub kept : Bool

abbrev pub told : Change → Bool → Called
told change kept = record { moment = change.moment; deed = change.deed; kept = kept }
