use Rattle.std.proofs.Common.{◌≡◌, ◌∙◌, ap, ◌*◌, ◌++◌, ℕ, List, Bool, false}
use Rattle.std.specs.List.{range_with_len}
use Rattle.std.specs.Prelude.{flat_map, slice_index_or}
use Rattle.hs_events.proofs.NotedLemmas.{noted}
use Rattle.hs_events.specs.Course.{change_item, took_items}
use Rattle.hs_core_words.specs.Looking.{front_of, status_of}
use Rattle.hs_limits.specs.declared.shape.Shape.{Shape}
use Rattle.hs_members.specs.Members.{is_good_status}
use Rattle.hs_events.proofs.before.note_event.Goals as goal

pub returns : goal.returns
returns c = record {
  items = λ before shape goods fronts.
      let a = c.args in
      let core = a.core.now in
      let value : c.shape-shape.result ≡ core.members.shape = c.shape-shape.ensures.value in
      noted a.line before core a.goods.now.items a.fronts.now.items a.course.now.items c.note_begun.new.course.items c.note_goods.new.course.items c.note_fronts.new.course.items
      (core.members.shape.shards * core.members.shape.copies) core.members.shape.shards a.moment
      (ap (λ (s : Shape). s.shards * s.copies) shape) (ap (λ (s : Shape). s.shards) shape) goods fronts c.note_begun.ensures.items
      (c.note_goods.ensures.items
      ∙ ap (λ (gs : List Bool). c.note_begun.new.course.items ++ flat_map (λ peer. change_item (slice_index_or gs peer false) (is_good_status (status_of peer core)) peer a.moment) (range_with_len 0 (c.shape-shape.result.shards * c.shape-shape.result.copies))) c.as_slice.ensures.value
      ∙ ap (λ (s : Shape). c.note_begun.new.course.items ++ flat_map (λ peer. change_item (slice_index_or a.goods.now.items peer false) (is_good_status (status_of peer core)) peer a.moment) (range_with_len 0 (s.shards * s.copies))) value)
      (c.note_fronts.ensures.items
      ∙ ap (λ (fs : List ℕ). c.note_goods.new.course.items ++ flat_map (λ shard. took_items shard (slice_index_or fs shard 0) (front_of shard core) a.moment) (range_with_len 0 c.shape-shape.result.shards)) c.as_slice-2.ensures.value
      ∙ ap (λ (s : Shape). c.note_goods.new.course.items ++ flat_map (λ shard. took_items shard (slice_index_or a.fronts.now.items shard 0) (front_of shard core) a.moment) (range_with_len 0 s.shards)) value);
}
