-- What an address leads to.
pub use Rattle.hs_model.specs.Listed.{IsListOf, IsPresent}
use Rattle.std.specs.Prelude.{[], ◌∷◌}
use Rattle.hs_limits.specs.declared.address.Address.{Address}
use Rattle.hs_model.specs.Reach.{IsReached}
use Rattle.hs_model.specs.Store.{Store}

-- all that the address reaches is present, itself too
abbrev pub IsWhole : Store → Address → Type 0
IsWhole s a = (b : Address) → IsReached s (a ∷ []) b → IsPresent s b
