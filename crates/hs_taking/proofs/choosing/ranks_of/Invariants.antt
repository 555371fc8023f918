use Rattle.std.proofs.Common.{◌≡◌, map, take}
use Rattle.std.specs.Option.{option_map}
use Rattle.hs_taking.proofs.choosing.ranks_of.Given as goal

abbrev pub invariant-loop-view : goal.invariant-loop-view
invariant-loop-view l = l.ranks.items ≡ map (λ view. option_map (λ v. v.rank) view) (take l.view-index l.views)
