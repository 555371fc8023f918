use Rattle.std.proofs.Common.{◌≡◌, ◌++◌}
use Rattle.hs_model.specs.Pointing.{pointers_in}
use Rattle.hs_plain.proofs.memory_store.sweep.pointing.Given as goal

-- with what the rest of the blocks point to it is what all of them point to
abbrev pub invariant-loop-address : goal.invariant-loop-address
invariant-loop-address l = l.pointing.entries ++ pointers_in l.address-iterator ≡ pointers_in l.blocks.entries
