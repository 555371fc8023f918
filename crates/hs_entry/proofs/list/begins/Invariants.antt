-- So far, the fronts are the same.
use Rattle.std.proofs.Common.{◌≡◌, take}
use Rattle.hs_entry.proofs.list.begins.Given as goal

abbrev pub invariant-loop-k : goal.invariant-loop-k
invariant-loop-k l = take l.k l.all ≡ take l.k l.front
