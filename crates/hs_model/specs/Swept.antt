-- What a sweep removes, by what was seen from its anchors.
use Rattle.std.specs.Prelude.{ℕ, Bool, not, ◌==◌, ◌&&◌, List, nat_lt}
use Rattle.hs_limits.specs.declared.address.Address.{Address}
use Rattle.hs_limits.specs.Shape.{shard_of}
use Rattle.hs_model.specs.declared.slow.unreached.Run.{Run}
use Rattle.hs_model.specs.Reach.{is_among}

-- it removes a block of its shard that was born before its epoch and was not seen
abbrev pub removes : Run → List Address → Address → ℕ → Bool
removes run seen a born = (shard_of run.shape.shards a == run.shard && nat_lt born run.epoch) && not (is_among seen a)
