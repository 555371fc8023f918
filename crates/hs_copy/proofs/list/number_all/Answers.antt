use Rattle.std.proofs.lemmas.Result.{err_from_is_err_and}
use Rattle.std.proofs.Common.{[], arith, sym, subst}
use Rattle.hs_copy.proofs.FailLemmas.{numbers_fail}
use Rattle.hs_copy.proofs.ListingLemmas.{numbers_none, numbers_step}
use Rattle.hs_copy.specs.Whole.{NumbersAll}
use Rattle.hs_copy.proofs.ListLemmas.{done_stop, reads_none, reads_on, stops_then}
use Rattle.hs_copy.proofs.list.number_all.Goals as goal

pub returns-in_err-number-clause-stops : goal.returns-in_err-number-clause-stops
returns-in_err-number-clause-stops g c =
    let p = err_from_is_err_and c.from_residual.result c.from_residual.ensures.1 in
    rw (p.1, p.2) (stops_then (g.B.Asker.shows c.args.asker.now) (g.B.Asker.shows c.loop-handle.asker) (g.B.Asker.shows c.number_one.new.asker) 0 0 0 c.in_err-number.field-0.0 c.loop-handle.invariant.reads (omega arith) c.in_err-number.ensures.stops)

pub returns-in_err-push_to-clause-stops : goal.returns-in_err-push_to-clause-stops
returns-in_err-push_to-clause-stops g c =
    let p = err_from_is_err_and c.from_residual-in_err-push_to.result c.from_residual-in_err-push_to.ensures.1 in
    rw (p.1, p.2) (done_stop (g.B.Asker.shows c.args.asker.now) (g.B.Asker.shows c.number_one.new.asker) 0 0 (omega arith) (reads_on (g.B.Asker.shows c.args.asker.now) (g.B.Asker.shows c.loop-handle.asker) (g.B.Asker.shows c.number_one.new.asker) c.loop-handle.invariant.reads c.in_ok-number.ensures.reads))

pub loop-handle-preserved : goal.loop-handle-preserved
loop-handle-preserved g c = record {
  reads = reads_on (g.B.Asker.shows c.args.asker.now) (g.B.Asker.shows c.loop-handle.asker) (g.B.Asker.shows c.number_one.new.asker) c.loop-handle.invariant.reads c.in_ok-number.ensures.reads;
  numbers = numbers_step (g.B.Asker.shows c.args.asker.now) (g.B.Asker.shows c.loop-handle.asker) (g.B.Asker.shows c.number_one.new.asker) c.args.handles.now c.loop-handle.handle-index _ c.args.numbers.now.entries c.loop-handle.numbers.entries c.number_one.new.numbers.entries c.args.found.now.items c.loop-handle.found.items c.number_one.new.found.items c.loop-handle.pointers.items c.push_to.new.items.items c.in_ok-number.number c.loop-handle-test.true c.in_ok-number.ensures.reads.began c.loop-handle.invariant.numbers c.in_ok-number.ensures.numbers c.in_ok-push_to.ensures.ok;
  few = λ h. c.in_ok-number.ensures.few (c.loop-handle.invariant.few h);
}

pub loop-handle-init : goal.loop-handle-init
loop-handle-init g c = record {
  reads = reads_none (g.B.Asker.shows c.args.asker.now) c.requires.going;
  numbers = subst (λ z. NumbersAll (g.B.Asker.shows c.args.asker.now) (g.B.Asker.shows c.args.asker.now) [] c.args.numbers.now.entries c.args.numbers.now.entries c.args.found.now.items c.args.found.now.items z) (sym c.new-pointers.ensures.items) (numbers_none (g.B.Asker.shows c.args.asker.now) c.args.numbers.now.entries c.args.found.now.items);
  few = λ h. h;
}

pub returns-in_err-number-clause-fails : goal.returns-in_err-number-clause-fails
returns-in_err-number-clause-fails g c =
    let p = err_from_is_err_and c.from_residual.result c.from_residual.ensures.1 in
    rw (p.1, p.2) (numbers_fail (g.B.Asker.shows c.args.asker.now) (g.B.Asker.shows c.loop-handle.asker) c.args.handles.now c.loop-handle.handle-index _ c.args.numbers.now.entries c.loop-handle.numbers.entries c.args.found.now.items c.loop-handle.found.items c.loop-handle.pointers.items c.in_err-number.field-0.0 c.loop-handle-test.true c.loop-handle.invariant.reads c.loop-handle.invariant.numbers c.in_err-number.ensures.fails)
