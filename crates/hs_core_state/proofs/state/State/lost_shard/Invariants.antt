use Rattle.std.proofs.Common.{◌≡◌, ◌-◌}
use Rattle.std.specs.List.{range_with_len}
use Rattle.std.specs.Prelude.{find, not}
use Rattle.hs_members.specs.Members.{has_good}
use Rattle.hs_core_state.proofs.state.State.lost_shard.Given as goal

abbrev pub invariant-loop-shard : goal.invariant-loop-shard
invariant-loop-shard l =
    find (λ shard. not (has_good shard l.self.members)) (range_with_len l.shard (l.self.members.shape.shards - l.shard))
    ≡ find (λ shard. not (has_good shard l.self.members)) (range_with_len 0 l.self.members.shape.shards)
