use Rattle.std.proofs.Common.{◌∙◌, ap, min, sym}
use Rattle.std.proofs.lemmas.Result.{err_from_is_err_and}
use Rattle.hs_tree.proofs.RowReads.{goes_at, over_at, stops_at, wrong_at}
use Rattle.hs_tree.proofs.RunsLemmas.{span-1}
use Rattle.hs_tree.proofs.parts.fetch_runs.Goals as goal

pub returns-in_err-fetch_run-clause-err : goal.returns-in_err-fetch_run-clause-err
returns-in_err-fetch_run-clause-err g c =
    let p = err_from_is_err_and c.from_residual.result c.from_residual.ensures.1 in
    rw (p.1, p.2) (stops_at c.args.session.now (g.B.Asker.shows c.args.asker.now) (g.B.Asker.shows c.loop-handle.asker) (g.B.Asker.shows c.fetch_run.new.asker) 1 c.args.handles.now c.args.bytes c.args.out.now.items c.loop-handle.handle-index _ c.loop-handle.left c.loop-handle.out.items c.loop-handle.invariant.so_far c.loop-handle-test.true c.in_err-fetch_run.field-0.0 c.in_err-fetch_run.ensures.err)

pub returns-then-not-branch-clause-ok : goal.returns-then-not-branch-clause-ok
returns-then-not-branch-clause-ok g c =
    wrong_at c.args.session.now (g.B.Asker.shows c.args.asker.now) (g.B.Asker.shows c.loop-handle.asker) (g.B.Asker.shows c.fetch_run.new.asker) 1 c.args.handles.now c.args.bytes c.args.out.now.items c.loop-handle.handle-index _ c.loop-handle.left c.loop-handle.out.items c.loop-handle.invariant.so_far c.loop-handle-test.true c.in_run-part.result c.fetch_run.new.out.items c.in_ok-fetch_run.field-0 c.if-not-branch.true
    (c.in_run-part.ensures ∙ ap (λ z. min c.loop-handle.left z) (sym span-1)) c.in_ok-fetch_run.ensures.ok

pub loop-handle-preserved : goal.loop-handle-preserved
loop-handle-preserved g c =
    let row = goes_at c.args.session.now (g.B.Asker.shows c.args.asker.now) (g.B.Asker.shows c.loop-handle.asker) (g.B.Asker.shows c.fetch_run.new.asker) 1 c.args.handles.now c.args.bytes c.args.out.now.items c.loop-handle.handle-index _ c.loop-handle.left c.loop-handle.out.items c.loop-handle.invariant.so_far c.loop-handle-test.true c.in_run-part.result c.fetch_run.new.out.items c.in_ok-fetch_run.field-0 c.if-not-branch.false
    (c.in_run-part.ensures ∙ ap (λ z. min c.loop-handle.left z) (sym span-1)) c.in_ok-fetch_run.ensures.ok in
    record { so_far = row; going = row.going }

pub returns-clause-ok : goal.returns-clause-ok
returns-clause-ok g c =
    over_at c.args.session.now (g.B.Asker.shows c.args.asker.now) (g.B.Asker.shows c.loop-handle.asker) (g.B.Asker.shows c.loop-handle.asker) 1 c.args.handles.now c.args.bytes c.args.out.now.items c.loop-handle.handle-index 0 c.loop-handle.left c.loop-handle.out.items c.loop-handle.invariant.so_far c.loop-handle-test.false
