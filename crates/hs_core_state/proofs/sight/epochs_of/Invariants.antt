use Rattle.std.proofs.Common.{◌≡◌, map, take}
use Rattle.hs_core_state.proofs.sight.epochs_of.Given as goal

abbrev pub invariant-loop-catalogue : goal.invariant-loop-catalogue
invariant-loop-catalogue l = l.epochs ≡ map (λ c. c.epoch) (take l.catalogue-index l.catalogues)
