use Rattle.std.proofs.Common.{◌≡◌, ◌++◌, take}
use Rattle.hs_script.specs.Text.{text}
use Rattle.hs_run.proofs.put.write_lines.Given as goal

abbrev pub invariant-loop-entry : goal.invariant-loop-entry
invariant-loop-entry l = l.out.items ≡ l.fn.out.items ++ text (take l.entry-index l.entries)
