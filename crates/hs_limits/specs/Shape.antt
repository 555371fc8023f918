-- Shapes of a store, and which shard and peer keeps what.
use Rattle.std.specs.Prelude.{◌≡◌, ℕ, ◌+◌, ◌*◌, ◌-◌, ◌%◌, ◌≤◌, ◌⊎◌, List, length, slice_index}
use Rattle.hs_limits.specs.declared.address.Address.{Address}
use Rattle.hs_limits.specs.declared.shape.Shape.{Shape}

-- 1, 2, 4 or 8 shards of 1 to 4 copies
pub record IsShape (shape : Shape) : Type 0 where
  pub shards : (shape.shards ≡ 1) ⊎ (shape.shards ≡ 2) ⊎ (shape.shards ≡ 4) ⊎ (shape.shards ≡ 8)
  pub some_copy : 1 ≤ shape.copies
  pub copies : shape.copies ≤ 4

-- a block belongs to the shard that the last byte of its address gives
abbrev pub shard_of : ℕ → Address → ℕ
shard_of shards address = slice_index address.0 31 % shards

-- a root belongs to the shard that the last byte of its key gives
abbrev pub shard_of_key : ℕ → List ℕ → ℕ
shard_of_key shards key = slice_index key (length key - 1) % shards

-- peer g*R+i keeps copy i of shard g
abbrev pub peer_of : Shape → ℕ → ℕ → ℕ
peer_of shape shard copy = shard * shape.copies + copy
