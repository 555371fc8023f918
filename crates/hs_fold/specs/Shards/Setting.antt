-- What a store is set up with, and what lists are made of.
use Rattle.std.specs.Prelude.{ℕ, List}
use Rattle.hs_limits.specs.declared.address.Address.{Address}
use Rattle.hs_limits.specs.declared.limits.Limits.{Limits}
use Rattle.hs_limits.specs.declared.shape.Shape.{Shape}
use Rattle.hs_entry.specs.declared.entry.Entry.{Entry}
use Rattle.hs_fold.specs.Catalogue.{Shard}

-- entries, each with its number
abbrev pub Numbered : Type 0
Numbered = List (ℕ × Entry)

-- how blocks are named, the limits of a run, and how many shards and copies there are
pub record Setting : Type 0 where
  pub name : List ℕ → Address
  pub limits : Limits
  pub shape : Shape

-- how a shard reads its entries
abbrev pub shard_in : Setting → ℕ → Shard
shard_in set shard = record { name = set.name; shards = set.shape.shards; shard = shard }
