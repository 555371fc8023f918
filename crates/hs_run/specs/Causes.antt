-- Why a run stops in its script, and what its source and its sink count.
use Rattle.std.specs.Prelude.{IfSome, IsErrOf, List, Option, Result, Some, length, ℕ, ⊤, ◌≡◌, ◌≤◌}
use Rattle.hs_ports.specs.Fault.{HasRisen}
use Rattle.hs_promise.specs.Ends.{HasEnded}
use Rattle.hs_script.specs.Lines.{lines_of}
use Rattle.hs_script.specs.Scripts.{IsBad}
use Rattle.hs_ports.specs.Source.{before}
use Rattle.hs_run.specs.declared.stop.Stop.{Stop}
use Rattle.hs_run.specs.declared.stop.Stop.TheVariants as stop
use Rattle.hs_run.specs.Stopping.{status_of}

-- which bytes of a script were taken, that no line that was begun is bad, and why it ended behind a line
pub record EndsBy (script : List ℕ) (left : Option (List ℕ)) (result : Result ⊤ Stop) (line : ℕ) : Type 0 where
  pub taken : List ℕ
  pub parted : before taken left ≡ Some script
  pub good : (n : ℕ) → n ≤ line → IsBad (lines_of script) n → ⊥
  pub within : line ≤ length (lines_of script)
  pub cause : IfSome left (HasEnded (status_of result line) (lines_of script) line taken)

-- counts never fall, and a fault of a source or a sink comes only where its count rose
pub record StopCause {T : Type 0} (source source' sink sink' : ℕ) (result : Result T Stop) : Type 0 where
  pub source_later : source ≤ source'
  pub sink_later : sink ≤ sink'
  pub read : IsErrOf result stop.ReadFault → HasRisen source source'
  pub write : IsErrOf result stop.WriteFault → HasRisen sink sink'
