use Rattle.hs_model.specs.declared.course.CourseItem.{CourseItem}
use Rattle.std.proofs.Common.{ℕ, List, ◌∙◌, ap, sym, arith, ◌++◌, append_assoc}
use Rattle.std.specs.List.{range_with_len}
use Rattle.std.specs.Prelude.{flat_map, slice_index_or}
use Rattle.hs_events.proofs.RangeLemmas.{flat_map_range_more}
use Rattle.hs_events.specs.Course.{took_items}
use Rattle.hs_core_words.specs.Looking.{front_of}
use Rattle.hs_events.proofs.before.note_fronts.Goals as goal

pub loop-shard-preserved : goal.loop-shard-preserved
loop-shard-preserved c =
    let a = c.args in
    let l = c.loop-shard in
    let f : ℕ → List CourseItem = λ shard. took_items shard (slice_index_or a.before.now shard 0) (front_of shard a.core.now) a.moment in
    record {
      items = c.note_front.ensures.items
          ∙ ap (λ n. l.course.items ++ took_items l.shard n (front_of l.shard a.core.now) a.moment) c.front_before.ensures
          ∙ ap (λ xs. xs ++ f l.shard) l.invariant.items
          ∙ append_assoc a.course.now.items (flat_map f (range_with_len 0 l.shard)) (f l.shard)
          ∙ ap (λ xs. a.course.now.items ++ xs) (sym (flat_map_range_more f l.shard));
      room = omega (arith, c.note_front.ensures.room, l.invariant.room);
      capacity = c.note_front.ensures.capacity ∙ l.invariant.capacity;
    }
