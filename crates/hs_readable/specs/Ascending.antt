-- Deltas that ascend, as far as it is tested.
use Rattle.std.specs.Prelude.{◌&&◌, Bool, true, List, [], ◌∷◌, Option, Some, nat_le}
use Rattle.hs_entry.specs.Reading.{comes_after}
use Rattle.hs_limits.specs.declared.address.Address.{Address}
use Rattle.hs_limits.specs.declared.delta.Delta.{Delta}

-- each is of some amount, and its address comes after the one before
abbrev pub are_ascending : Option Address → List Delta → Bool
are_ascending last [] = true
are_ascending last (delta ∷ deltas) = (nat_le 1 delta.amount && comes_after last delta.address) && are_ascending (Some delta.address) deltas
