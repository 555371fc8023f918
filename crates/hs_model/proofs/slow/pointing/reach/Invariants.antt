use Rattle.std.proofs.Common.{◌+◌, length, sum_by}
use Rattle.std.specs.BTreeSet.{contains}
use Rattle.std.specs.Map.{values_of}
use Rattle.hs_model.specs.Pointing.{pointing_store}
use Rattle.hs_model.specs.Reach.{IsReached}
use Rattle.hs_model.specs.Store.{address_cmp}
use Rattle.hs_model.proofs.PointingLemmas.{Covers}
use Rattle.hs_model.proofs.slow.pointing.reach.Given as goal

-- what was seen, and what the rest of the work reaches over the rest of the blocks, is what is reached
abbrev pub invariant-loop-address : goal.invariant-loop-address
invariant-loop-address l = Covers (λ a. contains address_cmp l.seen a) l.left.entries l.work.items (λ a. IsReached (pointing_store l.initial.left.entries) l.from a)

abbrev pub decreases-loop-address : goal.decreases-loop-address
decreases-loop-address l = length l.work.items + sum_by (λ pointers. length pointers) (values_of l.left.entries)
