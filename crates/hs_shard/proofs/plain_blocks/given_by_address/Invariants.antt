-- What is not taken yet stands before what is.
use Rattle.std.proofs.Common.{◌≡◌, ◌++◌, vec_len}
use Rattle.hs_shard.specs.Adding.{listed_given}
use Rattle.hs_shard.proofs.plain_blocks.given_by_address.Given as goal

abbrev pub invariant-loop-held : goal.invariant-loop-held
invariant-loop-held l = listed_given l.rest.items ++ l.epochs.entries ≡ listed_given l.initial.rest.items

abbrev pub decreases-loop-held : goal.decreases-loop-held
decreases-loop-held l = vec_len l.rest
