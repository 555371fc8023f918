use Rattle.std.proofs.Common.{◌≡◌, ◌++◌, ◌+◌, ◌≤◌, false}
use Rattle.std.specs.List.{range_with_len}
use Rattle.std.specs.Prelude.{flat_map, slice_index_or, vec_capacity, vec_len}
use Rattle.hs_events.specs.Course.{change_item}
use Rattle.hs_core_words.specs.Looking.{status_of}
use Rattle.hs_members.specs.Members.{is_good_status}
use Rattle.hs_events.proofs.before.note_goods.Given as goal

abbrev pub invariant-loop-peer : goal.invariant-loop-peer
invariant-loop-peer l = record {
  items : l.course.items ≡ l.initial.course.items
      ++ flat_map (λ peer. change_item (slice_index_or l.were peer false) (is_good_status (status_of peer l.core)) peer l.moment) (range_with_len 0 l.peer);
  room : vec_len l.course ≤ vec_len l.initial.course + l.peer;
  capacity : vec_capacity l.course ≡ vec_capacity l.initial.course;
}
