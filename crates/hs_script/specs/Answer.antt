-- What the reader answers.
use Rattle.std.specs.Prelude.{◌≡◌, Option, Some, None, Result, Ok, Err}
use Rattle.hs_model.specs.declared.command.Command.{Command}
use Rattle.hs_script.specs.declared.fault.ScriptFault.{ScriptFault}
use Rattle.hs_script.specs.declared.fault.ScriptFault.TheVariants.{BadLine, NoMemory}
use Rattle.hs_script.specs.Reading.{Reading, bad, blank, says}

-- the line says a command
abbrev pub IsSaid : Reading → Type 0
IsSaid bad = ⊥
IsSaid blank = ⊥
IsSaid (says c) = Unit {0}

-- a line is refused as bad where it is, and memory is wanted only where a command is said
abbrev pub IsFaultOf : ScriptFault → Reading → Type 0
IsFaultOf BadLine reading = reading ≡ bad
IsFaultOf NoMemory reading = IsSaid reading

-- a command that is read is the one that is said
abbrev pub ReadsCommand : Result Command ScriptFault → Reading → Type 0
ReadsCommand (Ok c) reading = reading ≡ says c
ReadsCommand (Err fault) reading = IsFaultOf fault reading

-- so for a whole line, which may say nothing
abbrev pub Reads : Result (Option Command) ScriptFault → Reading → Type 0
Reads (Ok None) reading = reading ≡ blank
Reads (Ok (Some c)) reading = reading ≡ says c
Reads (Err fault) reading = IsFaultOf fault reading
