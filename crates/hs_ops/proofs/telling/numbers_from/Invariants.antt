use Rattle.std.proofs.Common.{◌≡◌, ◌+◌}
use Rattle.std.specs.List.{range_with_len}
use Rattle.hs_ops.proofs.telling.numbers_from.Given as goal

-- the numbers so far, and the next
abbrev pub invariant-loop : goal.invariant-loop
invariant-loop l = record {
  numbers : l.numbers ≡ range_with_len l.first l.counter;
  next : l.number ≡ l.first + l.counter;
}
