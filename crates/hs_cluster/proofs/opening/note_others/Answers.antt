use Rattle.std.proofs.Common.{ℕ, List, ◌∙◌, ◌++◌, ap, append_assoc, sym}
use Rattle.std.specs.List.{range_with_len}
use Rattle.std.specs.Prelude.{flat_map}
use Rattle.hs_cluster.specs.Begins.{good_of}
use Rattle.hs_events.proofs.RangeLemmas.{flat_map_range_more}
use Rattle.hs_model.specs.declared.course.CourseItem.{CourseItem}
use Rattle.hs_cluster.proofs.opening.note_others.Goals as goal

pub loop-peer-preserved : goal.loop-peer-preserved
loop-peer-preserved c =
    let a = c.args in
    let l = c.loop-peer in
    let f : ℕ → List CourseItem = good_of a.shape (record { logs = a.logs.now; shares = a.shares.now }) a.opened in
    c.in_ok-note_other.ensures
    ∙ ap (λ xs. xs ++ f l.peer) l.invariant
    ∙ append_assoc a.course.now.items (flat_map f (range_with_len 0 l.peer)) (f l.peer)
    ∙ ap (λ xs. a.course.now.items ++ xs) (sym (flat_map_range_more f l.peer))
