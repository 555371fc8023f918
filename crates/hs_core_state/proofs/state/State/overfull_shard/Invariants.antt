use Rattle.std.proofs.Common.{◌≡◌, ◌-◌}
use Rattle.std.specs.List.{range_with_len}
use Rattle.std.specs.Prelude.{find}
use Rattle.hs_core_words.specs.Records.{is_overfull}
use Rattle.hs_core_state.proofs.state.State.overfull_shard.Given as goal

abbrev pub invariant-loop-shard : goal.invariant-loop-shard
invariant-loop-shard l =
    find (λ shard. is_overfull shard l.self) (range_with_len l.shard (l.self.members.shape.shards - l.shard))
    ≡ find (λ shard. is_overfull shard l.self) (range_with_len 0 l.self.members.shape.shards)
