use Rattle.std.proofs.Common.{◌≡◌, ◌++◌, ◌+◌, ◌≤◌}
use Rattle.std.specs.List.{range_with_len}
use Rattle.std.specs.Prelude.{flat_map, slice_index_or, vec_capacity, vec_len}
use Rattle.hs_events.specs.Course.{took_items}
use Rattle.hs_core_words.specs.Looking.{front_of}
use Rattle.hs_events.proofs.before.note_fronts.Given as goal

abbrev pub invariant-loop-shard : goal.invariant-loop-shard
invariant-loop-shard l = record {
  items : l.course.items ≡ l.initial.course.items
      ++ flat_map (λ shard. took_items shard (slice_index_or l.before shard 0) (front_of shard l.core) l.moment) (range_with_len 0 l.shard);
  room : vec_len l.course ≤ vec_len l.initial.course + l.shard;
  capacity : vec_capacity l.course ≡ vec_capacity l.initial.course;
}
