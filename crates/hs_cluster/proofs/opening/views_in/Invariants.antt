use Rattle.std.proofs.Common.{◌≡◌, map, take}
use Rattle.hs_cluster.proofs.opening.views_in.Given as goal

abbrev pub invariant-loop-share : goal.invariant-loop-share
invariant-loop-share l = l.views.items ≡ map (λ share. share.rank.view) (take l.share-index l.shares)
