use Rattle.hs_model.specs.declared.course.CourseItem.{CourseItem}
use Rattle.std.proofs.Common.{ℕ, List, ◌∙◌, ap, sym, arith, ◌++◌, append_assoc, false}
use Rattle.std.specs.List.{range_with_len}
use Rattle.std.specs.Prelude.{flat_map, slice_index_or}
use Rattle.hs_events.proofs.RangeLemmas.{flat_map_range_more}
use Rattle.hs_events.specs.Course.{change_item}
use Rattle.hs_core_words.specs.Looking.{status_of}
use Rattle.hs_members.specs.Members.{is_good_status}
use Rattle.hs_events.proofs.before.note_goods.Goals as goal

pub loop-peer-preserved : goal.loop-peer-preserved
loop-peer-preserved c =
    let a = c.args in
    let l = c.loop-peer in
    let f : ℕ → List CourseItem = λ peer. change_item (slice_index_or a.were.now peer false) (is_good_status (status_of peer a.core.now)) peer a.moment in
    record {
      items = c.note_good.ensures.items
          ∙ ap (λ b. l.course.items ++ change_item b (is_good_status (status_of l.peer a.core.now)) l.peer a.moment) c.was_good.ensures
          ∙ ap (λ xs. xs ++ f l.peer) l.invariant.items
          ∙ append_assoc a.course.now.items (flat_map f (range_with_len 0 l.peer)) (f l.peer)
          ∙ ap (λ xs. a.course.now.items ++ xs) (sym (flat_map_range_more f l.peer));
      room = omega (arith, c.note_good.ensures.room, l.invariant.room);
      capacity = c.note_good.ensures.capacity ∙ l.invariant.capacity;
    }
