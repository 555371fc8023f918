use Rattle.std.proofs.Common.{◌≡◌, map, slice_index}
use Rattle.std.specs.List.{range_with_len}
use Rattle.hs_core_words.specs.Opening.{good_copies}
use Rattle.hs_replica.specs.Group.{new_group}
use Rattle.hs_core_state.proofs.new_core.groups_of.Given as goal

abbrev pub invariant-loop-shard : goal.invariant-loop-shard
invariant-loop-shard l =
    l.groups.items ≡ map (λ shard. new_group l.shape shard (slice_index l.views shard) (slice_index l.lengths shard) (good_copies l.shape l.good shard)) (range_with_len 0 l.shard)
