use Rattle.std.proofs.Common.{◌≡◌, map, take}
use Rattle.hs_cluster.proofs.opening.lengths_in.Given as goal

abbrev pub invariant-loop-share : goal.invariant-loop-share
invariant-loop-share l = l.lengths.items ≡ map (λ share. share.rank.number) (take l.share-index l.shares)
