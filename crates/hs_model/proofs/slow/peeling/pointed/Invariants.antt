use Rattle.std.proofs.Common.{◌≡◌, ◌||◌}
use Rattle.std.specs.List.{flat_map}
use Rattle.hs_limits.specs.declared.address.Address.{Address}
use Rattle.hs_model.specs.Reach.{is_among}
use Rattle.hs_model.proofs.slow.peeling.pointed.Given as goal

-- with what the rest of the blocks point to the set has what all of them point to
abbrev pub invariant-loop-pointers : goal.invariant-loop-pointers
invariant-loop-pointers l = (a : Address) → (is_among l.pointed.keys a || is_among (flat_map (λ e. e.1) l.pointers-iterator) a) ≡ is_among (flat_map (λ e. e.1) l.left.entries) a
