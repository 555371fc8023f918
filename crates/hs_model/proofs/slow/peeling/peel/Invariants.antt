use Rattle.std.proofs.Common.{length}
use Rattle.hs_model.specs.Plain.{plain_of}
use Rattle.hs_model.proofs.PeelLemmas.{IsLeft}
use Rattle.hs_model.proofs.slow.peeling.peel.Given as goal

-- what is left is of the store, and all that stays is left
abbrev pub invariant-rounds : goal.invariant-rounds
invariant-rounds l = IsLeft (plain_of l.store) l.anchors l.left.entries

abbrev pub decreases-rounds : goal.decreases-rounds
decreases-rounds l = length l.left.entries
