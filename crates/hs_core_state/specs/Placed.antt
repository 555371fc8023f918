-- The shards that judge operations: for private clauses.
use Rattle.std.specs.List.{All}
use Rattle.std.specs.Map.{values_of}
use Rattle.std.specs.Prelude.{ℕ, ◌<◌, List}
use Rattle.hs_awaiting.specs.declared.waiting.Waiting.{Waiting}

-- the shard of each operation is one of so many
pub record AreWithin (shards : ℕ) (es : List (ℕ × Waiting)) : Type 0 where
  pub each : All (λ w. w.shard < shards) (values_of es)
