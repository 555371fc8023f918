-- What goes when blocks that nothing holds are taken away again and again.
use Rattle.std.specs.Prelude.{◌⊎◌, List, ◌∷◌, Contains}
use Rattle.hs_limits.specs.declared.address.Address.{Address}
use Rattle.hs_model.specs.Listed.{IsPresent}
use Rattle.hs_model.specs.Reach.{Leads, pointers_of}
use Rattle.hs_model.specs.Store.{Store, block_at}

-- each address of a list is present, and is an anchor or a pointer of a block in the list
pub record IsSupported (s : Store) (anchors list : List Address) : Type 0 where
  pub present : (a : Address) → Contains list a → IsPresent s a
  pub held : (a : Address) → Contains list a → Contains anchors a ⊎ ((b : Address) × Contains list b × Contains (pointers_of (block_at s b)) a)

-- an address stays where some such list has it: then none of that list is ever taken away
pub record IsStaying (s : Store) (anchors : List Address) (a : Address) : Type 0 where
  pub list : List Address
  pub supported : IsSupported s anchors list
  pub listed : Contains list a

-- no list of present blocks, each a pointer of the one before, returns to its start
abbrev pub IsAcyclic : Store → Type 0
IsAcyclic s = (a next : Address) (path : List Address) → ¬ Leads s a (next ∷ path) a
