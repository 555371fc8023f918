-- So far, the lines of the front of the writers are written.
use Rattle.std.proofs.Common.{◌≡◌, ◌++◌, ◌≤◌, length, take}
use Rattle.std.specs.List.{enumerate_from, flat_map}
use Rattle.hs_script.specs.Summary.{writer_text}
use Rattle.hs_script.proofs.sums.put_writers.Given as goal

abbrev pub invariant-loop-number : goal.invariant-loop-number
invariant-loop-number l = record {
  within : l.number ≤ length l.writers;
  lines : l.out.items ≡ l.initial.out.items ++ flat_map (λ w. writer_text w.0 w.1) (enumerate_from 0 (take l.number l.writers));
}
