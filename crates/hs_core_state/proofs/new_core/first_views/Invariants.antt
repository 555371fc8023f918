use Rattle.std.proofs.Common.{◌≡◌, map}
use Rattle.std.specs.List.{range_with_len}
use Rattle.hs_core_words.specs.Opening.{first_view}
use Rattle.hs_core_state.proofs.new_core.first_views.Given as goal

abbrev pub invariant-loop-shard : goal.invariant-loop-shard
invariant-loop-shard l = l.first.items ≡ map (first_view l.members l.views) (range_with_len 0 l.shard)
