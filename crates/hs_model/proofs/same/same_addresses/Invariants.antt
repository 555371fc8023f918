-- So far, the fronts are the same.
use Rattle.std.proofs.Common.{◌≡◌, take}
use Rattle.hs_model.proofs.same.same_addresses.Given as goal

abbrev pub invariant-loop-k : goal.invariant-loop-k
invariant-loop-k l = take l.k l.b ≡ take l.k l.a
