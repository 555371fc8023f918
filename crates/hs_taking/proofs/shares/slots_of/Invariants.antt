use Rattle.std.proofs.Common.{◌≡◌, map}
use Rattle.hs_taking.specs.Evens.{slot_of}
use Rattle.hs_taking.proofs.shares.slots_of.Given as goal

abbrev pub invariant-loop-view : goal.invariant-loop-view
invariant-loop-view l = l.slots.items ≡ map slot_of l.yielded
