-- What is put already stands before what is left.
use Rattle.std.proofs.Common.{◌≡◌, ◌++◌}
use Rattle.hs_shard.specs.Adding.{listed_given}
use Rattle.hs_shard.proofs.plain_blocks.given_in_order.Given as goal

abbrev pub invariant-loop-address : goal.invariant-loop-address
invariant-loop-address l = listed_given l.given ++ l.address-iterator ≡ l.fn.epochs.entries
