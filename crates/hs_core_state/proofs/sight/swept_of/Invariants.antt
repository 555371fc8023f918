use Rattle.std.proofs.Common.{◌≡◌, map, take}
use Rattle.hs_core_state.proofs.sight.swept_of.Given as goal

abbrev pub invariant-loop-catalogue : goal.invariant-loop-catalogue
invariant-loop-catalogue l = l.swept ≡ map (λ c. c.swept) (take l.catalogue-index l.catalogues)
