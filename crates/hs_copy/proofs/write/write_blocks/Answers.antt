use Rattle.std.proofs.lemmas.Result.{err_from_is_err_and}
use Rattle.std.proofs.Common.{◌+◌, ap, drop, length, refl, take}
use Rattle.hs_copy.proofs.DueLemmas.{deletes_none, deletes_then, where_core, where_then, write_refused, write_then}
use Rattle.hs_copy.specs.Due.{DeletesSo, count_of}
use Rattle.hs_copy.proofs.RoundLemmas.{delete_next, stop_delete, stop_quiet}
use Rattle.hs_copy.proofs.StepLemmas.{begun_all, split_at, step_counted, step_written, stop_written}
use Rattle.hs_copy.proofs.write.write_blocks.Goals as goal

pub loop-place-init : goal.loop-place-init
loop-place-init g c = record {
  written = begun_all (g.A.Addresser.name c.args.naming.now) (g.B.Asker.shows c.args.asker.now) c.args.nodes.now.items c.args.deleting.now.asked c.requires.going c.requires.empty c.requires.holds;
  due = deletes_none (count_of c.args.deleting.now) (g.B.Asker.shows c.args.asker.now) c.requires.rest;
  few = c.requires.few;
  counted = ap (λ z. length z) c.requires.empty;
}

pub returns-in_err-node-clause-err : goal.returns-in_err-node-clause-err
returns-in_err-node-clause-err g c =
    let p = err_from_is_err_and c.from_residual.result c.from_residual.ensures.1 in
    rw (p.1, p.2) (λ key. stop_written (g.A.Addresser.name c.args.naming.now) key (g.B.Asker.shows c.args.asker.now) (g.B.Asker.shows c.loop-place.asker) (g.B.Asker.shows c.write_placed.new.asker) c.args.placed.now c.loop-place.nodes.items _ c.args.deleting.now.asked c.loop-place.deleting.asked c.loop-place.place-index c.place-item.result c.in_err-node.field-0.0 c.loop-place-test.true c.place-item.is c.requires.most c.loop-place.invariant.counted c.loop-place.invariant.few c.loop-place.invariant.written c.deref.ensures.value c.in_err-node.ensures.err)

pub returns-in_err-push_to-clause-err : goal.returns-in_err-push_to-clause-err
returns-in_err-push_to-clause-err g c =
    let p = err_from_is_err_and c.from_residual-in_err-push_to.result c.from_residual-in_err-push_to.ensures.1 in
    rw (p.1, p.2) (λ key. stop_quiet (g.A.Addresser.name c.args.naming.now) key (g.B.Asker.shows c.args.asker.now) (g.B.Asker.shows c.write_placed.new.asker) (take (c.loop-place.place-index + 1) c.args.placed.now) (drop (c.loop-place.place-index + 1) c.args.placed.now) c.args.placed.now _ c.push_to.new.items.items c.args.deleting.now.asked c.loop-place.deleting.asked c.loop-place.deleting.asked
    (split_at c.args.placed.now (c.loop-place.place-index + 1)) c.loop-place.invariant.few
    (step_written (g.A.Addresser.name c.args.naming.now) (g.B.Asker.shows c.args.asker.now) (g.B.Asker.shows c.loop-place.asker) (g.B.Asker.shows c.write_placed.new.asker) c.args.placed.now c.loop-place.nodes.items _ _ c.args.deleting.now.asked c.loop-place.deleting.asked c.loop-place.place-index c.place-item.result c.in_ok-node.node c.loop-place-test.true c.place-item.is c.requires.most c.loop-place.invariant.counted c.loop-place.invariant.written c.deref.ensures.value c.in_ok-node.ensures.ok refl))

pub returns-in_err-delete_when_due-clause-err : goal.returns-in_err-delete_when_due-clause-err
returns-in_err-delete_when_due-clause-err g c =
    let p = err_from_is_err_and c.from_residual-in_err-delete_when_due.result c.from_residual-in_err-delete_when_due.ensures.1 in
    rw (p.1, p.2) (λ key. stop_delete (g.A.Addresser.name c.args.naming.now) key (g.B.Asker.shows c.args.asker.now) (g.B.Asker.shows c.write_placed.new.asker) (g.B.Asker.shows c.delete_when_due.new.asker) (take (c.loop-place.place-index + 1) c.args.placed.now) (drop (c.loop-place.place-index + 1) c.args.placed.now) c.args.placed.now c.push_to.new.items.items c.push_to.new.items.items c.args.deleting.now.asked c.loop-place.deleting.asked c.delete_when_due.new.deleting.asked c.in_err-delete_when_due.field-0.0
    (split_at c.args.placed.now (c.loop-place.place-index + 1)) c.loop-place.invariant.few
    (step_written (g.A.Addresser.name c.args.naming.now) (g.B.Asker.shows c.args.asker.now) (g.B.Asker.shows c.loop-place.asker) (g.B.Asker.shows c.write_placed.new.asker) c.args.placed.now c.loop-place.nodes.items _ c.push_to.new.items.items c.args.deleting.now.asked c.loop-place.deleting.asked c.loop-place.place-index c.place-item.result c.in_ok-node.node c.loop-place-test.true c.place-item.is c.requires.most c.loop-place.invariant.counted c.loop-place.invariant.written c.deref.ensures.value c.in_ok-node.ensures.ok c.in_ok-push_to.ensures.ok)
    c.in_err-delete_when_due.ensures.err)

pub loop-place-preserved : goal.loop-place-preserved
loop-place-preserved g c = record {
  written = delete_next (g.A.Addresser.name c.args.naming.now) (g.B.Asker.shows c.args.asker.now) (g.B.Asker.shows c.write_placed.new.asker) (g.B.Asker.shows c.delete_when_due.new.asker) (take (c.loop-place.place-index + 1) c.args.placed.now) c.push_to.new.items.items c.args.deleting.now.asked c.loop-place.deleting.asked c.delete_when_due.new.deleting.asked
      (step_written (g.A.Addresser.name c.args.naming.now) (g.B.Asker.shows c.args.asker.now) (g.B.Asker.shows c.loop-place.asker) (g.B.Asker.shows c.write_placed.new.asker) c.args.placed.now c.loop-place.nodes.items _ c.push_to.new.items.items c.args.deleting.now.asked c.loop-place.deleting.asked c.loop-place.place-index c.place-item.result c.in_ok-node.node c.loop-place-test.true c.place-item.is c.requires.most c.loop-place.invariant.counted c.loop-place.invariant.written c.deref.ensures.value c.in_ok-node.ensures.ok c.in_ok-push_to.ensures.ok)
      c.in_ok-delete_when_due.ensures.ok;
  due = deletes_then (count_of c.args.deleting.now) (count_of c.loop-place.deleting) (count_of c.delete_when_due.new.deleting) (g.B.Asker.shows c.args.asker.now) (g.B.Asker.shows c.loop-place.asker) (g.B.Asker.shows c.delete_when_due.new.asker) c.loop-place.invariant.due
      (write_then (g.A.Addresser.name c.args.naming.now) (count_of c.loop-place.deleting) (count_of c.delete_when_due.new.deleting) (g.B.Asker.shows c.loop-place.asker) (g.B.Asker.shows c.write_placed.new.asker) (g.B.Asker.shows c.delete_when_due.new.asker) _ c.place-item.result c.in_ok-node.node c.loop-place.invariant.due.rest c.in_ok-node.ensures.ok c.in_ok-delete_when_due.ensures.due);
  few = c.delete_when_due.ensures.few;
  counted = step_counted c.loop-place.nodes.items c.push_to.new.items.items c.in_ok-node.node c.loop-place.place-index c.loop-place.invariant.counted c.in_ok-push_to.ensures.ok;
}

pub returns-in_err-node-clause-refused : goal.returns-in_err-node-clause-refused
returns-in_err-node-clause-refused g c =
    let p = err_from_is_err_and c.from_residual.result c.from_residual.ensures.1 in
    rw (p.1, p.2) (where_then (count_of c.args.deleting.now) (count_of c.loop-place.deleting) (g.B.Asker.shows c.args.asker.now) (g.B.Asker.shows c.loop-place.asker) (g.B.Asker.shows c.write_placed.new.asker) c.in_err-node.field-0.0 c.loop-place.invariant.due
    (write_refused (g.A.Addresser.name c.args.naming.now) (count_of c.loop-place.deleting) (g.B.Asker.shows c.loop-place.asker) (g.B.Asker.shows c.write_placed.new.asker) _ c.place-item.result c.in_err-node.field-0.0 c.loop-place.invariant.due.rest c.in_err-node.ensures.err))

pub returns-in_err-delete_when_due-clause-refused : goal.returns-in_err-delete_when_due-clause-refused
returns-in_err-delete_when_due-clause-refused g c =
    let p = err_from_is_err_and c.from_residual-in_err-delete_when_due.result c.from_residual-in_err-delete_when_due.ensures.1 in
    rw (p.1, p.2) (where_core c.in_err-delete_when_due.field-0.0 (DeletesSo (count_of c.args.deleting.now) (count_of c.delete_when_due.new.deleting) (g.B.Asker.shows c.args.asker.now) (g.B.Asker.shows c.delete_when_due.new.asker)) c.in_err-delete_when_due.ensures.err.0)
