-- What a list of addresses has, and what is present.
use Rattle.std.specs.Prelude.{◌↔◌, List, IsTrue, IsSome}
use Rattle.hs_limits.specs.declared.address.Address.{Address}
use Rattle.hs_model.specs.Reach.{is_among}
use Rattle.hs_model.specs.Store.{Store, block_at}

-- a list has exactly the addresses of which the fact holds
abbrev pub IsListOf : List Address → (Address → Type 0) → Type 0
IsListOf addresses Holds = (a : Address) → IsTrue (is_among addresses a) ↔ Holds a

-- a block is present at the address
abbrev pub IsPresent : Store → Address → Type 0
IsPresent s a = IsSome (block_at s a)
