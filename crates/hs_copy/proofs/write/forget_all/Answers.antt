use Rattle.std.proofs.lemmas.Result.{err_from_is_err_and}
use Rattle.hs_copy.proofs.StepLemmas.{forget_of, forgets_next}
use Rattle.hs_copy.proofs.write.forget_all.Goals as goal

pub loop-node-preserved : goal.loop-node-preserved
loop-node-preserved g c = forgets_next (g.A.Addresser.name c.args._naming.now) (g.B.Asker.shows c.args.asker.now) (g.B.Asker.shows c.loop-node.asker) (g.B.Asker.shows c.forget.new.asker) c.args.session.now c.args.nodes.now c.loop-node.node-index _ c.requires.ours c.loop-node-test.true c.loop-node.invariant c.in_ok-forget.ensures.ok

pub returns-in_err-forget-clause-granted : goal.returns-in_err-forget-clause-granted
returns-in_err-forget-clause-granted g c =
    let p = err_from_is_err_and c.from_residual.result c.from_residual.ensures.1 in
    rw (p.1, p.2) (forget_of (g.A.Addresser.name c.args._naming.now) (g.B.Asker.shows c.args.asker.now) (g.B.Asker.shows c.loop-node.asker) (g.B.Asker.shows c.forget.new.asker) c.args.session.now c.args.nodes.now c.loop-node.node-index _ c.in_err-forget.field-0.0 c.requires.ours c.loop-node-test.true c.loop-node.invariant c.in_err-forget.ensures.err)
