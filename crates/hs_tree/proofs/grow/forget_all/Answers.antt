use Rattle.std.proofs.lemmas.Result.{err_from_is_err_and}
use Rattle.hs_tree.proofs.PartLemmas.{forget_stopped, forgets_all, forgets_next}
use Rattle.hs_tree.proofs.grow.forget_all.Goals as goal

pub returns-in_err-forget-clause-err : goal.returns-in_err-forget-clause-err
returns-in_err-forget-clause-err g c =
    let p = err_from_is_err_and c.from_residual.result c.from_residual.ensures.1 in
    rw (p.1, p.2) (forget_stopped c.args.session.now (g.B.Asker.shows c.args.asker.now) (g.B.Asker.shows c.loop-node.asker) (g.B.Asker.shows c.forget.new.asker) c.args.nodes.now c.loop-node.node-index _ c.in_err-forget.field-0.0 c.loop-node-test.true c.loop-node.invariant.forgets c.in_err-forget.ensures.err)

pub loop-node-preserved : goal.loop-node-preserved
loop-node-preserved g c = record {
  forgets = forgets_next c.args.session.now (g.B.Asker.shows c.args.asker.now) (g.B.Asker.shows c.loop-node.asker) (g.B.Asker.shows c.forget.new.asker) c.args.nodes.now c.loop-node.node-index _ c.loop-node-test.true c.loop-node.invariant.forgets c.in_ok-forget.ensures.ok;
  going = c.in_ok-forget.ensures.ok.going;
}

pub returns-clause-ok : goal.returns-clause-ok
returns-clause-ok g c = forgets_all c.args.session.now (g.B.Asker.shows c.args.asker.now) (g.B.Asker.shows c.loop-node.asker) c.args.nodes.now c.loop-node.node-index c.loop-node-test.false c.loop-node.invariant.forgets
