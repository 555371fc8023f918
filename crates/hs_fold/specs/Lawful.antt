-- An entry of a shard that took effect, and the list of a shard.
use Rattle.std.specs.Prelude.{◌≡◌, ℕ, ◌<◌, List, [], slice_index_or}
use Rattle.hs_limits.specs.declared.address.Address.{Address}
use Rattle.hs_entry.specs.declared.entry.Entry.{Entry}
use Rattle.hs_fold.specs.Catalogue.{Shard}

-- an entry of a shard that took effect
pub record Deed : Type 0 where
  pub shard : ℕ
  pub number : ℕ
  pub entry : Entry

-- how a shard of so many reads its entries
abbrev pub shard_at : (List ℕ → Address) → ℕ → ℕ → Shard
shard_at name shards shard = record { name = name; shards = shards; shard = shard }

-- of two entries of a shard the later has the greater number
abbrev pub Ascends : Deed → Deed → Type 0
Ascends first second = first.shard ≡ second.shard → first.number < second.number

-- the list of a shard
abbrev pub list_at : List (List (ℕ × Entry)) → ℕ → List (ℕ × Entry)
list_at lists shard = slice_index_or lists shard []
