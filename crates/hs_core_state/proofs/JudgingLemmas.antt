-- The shard that judges is one of the store's.
use Rattle.std.proofs.Common.{◌≡◌, ◌⊎◌, inl, inr, ℕ, ◌-◌, ◌<◌, List, length, Option, Some, None, arith, unwrap_or}
use Rattle.std.proofs.Math.Nat.{mod-lt}
use Rattle.std.specs.Option.{option_map, option_or}
use Rattle.std.specs.Prelude.{slice_index}
use Rattle.hs_limits.specs.declared.address.Address.{Address}
use Rattle.hs_limits.specs.declared.shape.Shape.{Shape}
use Rattle.hs_limits.specs.Shape.{IsShape, shard_of, shard_of_key}
use Rattle.hs_model.specs.declared.op.Op.{Op}
use Rattle.hs_model.specs.Op.{named_key}
use Rattle.hs_ops.specs.Speaking.{judging_shard, wanted_address}
use Rattle.hs_tokens.specs.Seats.{Seats}

judging_low : (shards : ℕ) → 0 < shards → (key : Option (List ℕ)) (a : Option Address) → unwrap_or (option_or (option_map (shard_of_key shards) key) (option_map (shard_of shards) a)) 0 < shards
judging_low shards some (Some key) a = mod-lt (slice_index key (length key - 1)) some
judging_low shards some None (Some a) = mod-lt (slice_index a.0 31) some
judging_low shards some None None = some

some_shard : (shape : Shape) → IsShape shape → 0 < shape.shards
some_shard shape valid = go valid.shards
  where
    go : (shape.shards ≡ 1) ⊎ (shape.shards ≡ 2) ⊎ (shape.shards ≡ 4) ⊎ (shape.shards ≡ 8) → 0 < shape.shards
    go (inl e) = omega (arith, e)
    go (inr (inl e)) = omega (arith, e)
    go (inr (inr (inl e))) = omega (arith, e)
    go (inr (inr (inr e))) = omega (arith, e)

pub judges_within : (shape : Shape) (seats : Seats) (o : Op) → IsShape shape → judging_shard shape.shards seats o < shape.shards
judges_within shape seats o valid = judging_low shape.shards (some_shard shape valid) (named_key o) (wanted_address seats o)
