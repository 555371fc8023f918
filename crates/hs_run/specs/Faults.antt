-- What a stop says of the counts of faults.
use Rattle.std.specs.Prelude.{ℕ, Result}
use Rattle.hs_ports.specs.Fault.{IsCausedBy}
use Rattle.hs_run.specs.declared.stop.Stop.{Stop}
use Rattle.hs_run.specs.declared.stop.Stop.TheVariants as stop

-- the source's count never falls, and rose where the source failed
abbrev pub SourceCause : {T : Type 0} → ℕ → ℕ → Result T Stop → Type 0
SourceCause before now result = IsCausedBy stop.ReadFault before now result

-- the sink's count never falls, and rose where the sink failed
abbrev pub SinkCause : {T : Type 0} → ℕ → ℕ → Result T Stop → Type 0
SinkCause before now result = IsCausedBy stop.WriteFault before now result
