use Rattle.std.proofs.Common.{◌≡◌, map, take, if◌then◌else◌}
use Rattle.hs_replica.specs.Group.{no_copy, whole_copy}
use Rattle.hs_replica.proofs.copies.copies_of.Given as goal

abbrev pub invariant-loop-good : goal.invariant-loop-good
invariant-loop-good l = l.copies.items ≡ map (λ b. if b then whole_copy l.view l.len else no_copy) (take l.good-index l.good)
