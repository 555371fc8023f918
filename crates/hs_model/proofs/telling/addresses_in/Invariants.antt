-- The addresses so far.
use Rattle.std.proofs.Common.{◌≡◌, map, take}
use Rattle.hs_model.specs.Deed.{address_in}
use Rattle.hs_model.proofs.telling.addresses_in.Given as goal

abbrev pub invariant-loop-handle : goal.invariant-loop-handle
invariant-loop-handle l = l.addresses ≡ map (λ h. address_in l.held h) (take l.handle-index l.handles)
