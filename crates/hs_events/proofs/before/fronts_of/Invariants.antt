use Rattle.std.proofs.Common.{◌≡◌, map}
use Rattle.std.specs.List.{range_with_len}
use Rattle.hs_core_words.specs.Looking.{front_of}
use Rattle.hs_events.proofs.before.fronts_of.Given as goal

abbrev pub invariant-loop-shard : goal.invariant-loop-shard
invariant-loop-shard l = l.fronts.items ≡ map (λ shard. front_of shard l.core) (range_with_len 0 l.shard)
