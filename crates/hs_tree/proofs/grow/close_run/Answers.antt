use Rattle.std.proofs.Common.{subst}
use Rattle.std.proofs.lemmas.Result.{err_from_is_err_and}
use Rattle.hs_tree.proofs.PartLemmas.{closes_run, eight_short, run_unforgotten, run_unpushed, run_unstarted, run_unwritten}
use Rattle.hs_tree.specs.Calls.{CallFails}
use Rattle.hs_tree.specs.Growing.{write_above}
use Rattle.hs_tree.specs.Steps.{ForgetStops, Forgets, WritesNode}
use Rattle.hs_tree.proofs.grow.close_run.Goals as goal

pub returns-in_err-payload-clause-err : goal.returns-in_err-payload-clause-err
returns-in_err-payload-clause-err g c =
    let p = err_from_is_err_and c.from_residual.result c.from_residual.ensures.1 in
    rw (p.1, p.2) (run_unstarted (g.A.Addresser.name c.args.naming.now) c.args.session.now (g.B.Asker.shows c.args.asker.now) c.args.bytes c.args.run.now.items c.args.above.now.items)

pub returns-in_err-node-clause-err : goal.returns-in_err-node-clause-err
returns-in_err-node-clause-err g c =
    let p = err_from_is_err_and c.from_residual-in_err-node.result c.from_residual-in_err-node.ensures.1 in
    rw (p.1, p.2) (run_unwritten (g.A.Addresser.name c.args.naming.now) c.args.session.now (g.B.Asker.shows c.args.asker.now) c.args.bytes c.args.run.now.items c.args.above.now.items c.in_ok-payload.payload c.in_ok-payload.ensures c.requires.few (eight_short c.in_ok-payload.payload c.args.bytes c.in_ok-payload.ensures) (g.B.Asker.shows c.write_node.new.asker) c.in_err-node.field-0.0
    (subst (λ z. CallFails (g.B.Asker.shows c.args.asker.now) (g.B.Asker.shows c.write_node.new.asker) (write_above (g.A.Addresser.name c.args.naming.now) c.args.session.now z c.in_ok-payload.payload) c.in_err-node.field-0.0) c.deref.ensures.value c.in_err-node.ensures.err))

pub returns-in_err-forget_all-clause-err : goal.returns-in_err-forget_all-clause-err
returns-in_err-forget_all-clause-err g c =
    let p = err_from_is_err_and c.from_residual-in_err-forget_all.result c.from_residual-in_err-forget_all.ensures.1 in
    rw (p.1, p.2) (run_unforgotten (g.A.Addresser.name c.args.naming.now) c.args.session.now (g.B.Asker.shows c.args.asker.now) c.args.bytes c.args.run.now.items c.args.above.now.items c.in_ok-payload.payload c.in_ok-payload.ensures c.requires.few (eight_short c.in_ok-payload.payload c.args.bytes c.in_ok-payload.ensures) (g.B.Asker.shows c.write_node.new.asker) (g.B.Asker.shows c.forget_all.new.asker) c.in_ok-node.node c.in_err-forget_all.field-0.0
    (subst (λ z. WritesNode (g.A.Addresser.name c.args.naming.now) c.args.session.now (g.B.Asker.shows c.args.asker.now) (g.B.Asker.shows c.write_node.new.asker) z c.in_ok-payload.payload c.in_ok-node.node) c.deref.ensures.value c.in_ok-node.ensures.ok)
    (subst (λ z. ForgetStops c.args.session.now (g.B.Asker.shows c.write_node.new.asker) (g.B.Asker.shows c.forget_all.new.asker) z c.in_err-forget_all.field-0.0) c.deref-2.ensures.value c.in_err-forget_all.ensures.err))

pub returns-in_err-push_node-clause-err : goal.returns-in_err-push_node-clause-err
returns-in_err-push_node-clause-err g c =
    let p = err_from_is_err_and c.from_residual-in_err-push_node.result c.from_residual-in_err-push_node.ensures.1 in
    rw (p.1, p.2) (run_unpushed (g.A.Addresser.name c.args.naming.now) c.args.session.now (g.B.Asker.shows c.args.asker.now) c.args.bytes c.args.run.now.items c.args.above.now.items c.in_ok-payload.payload c.in_ok-payload.ensures c.requires.few (eight_short c.in_ok-payload.payload c.args.bytes c.in_ok-payload.ensures) (g.B.Asker.shows c.write_node.new.asker) (g.B.Asker.shows c.forget_all.new.asker) c.in_ok-node.node
    (subst (λ z. WritesNode (g.A.Addresser.name c.args.naming.now) c.args.session.now (g.B.Asker.shows c.args.asker.now) (g.B.Asker.shows c.write_node.new.asker) z c.in_ok-payload.payload c.in_ok-node.node) c.deref.ensures.value c.in_ok-node.ensures.ok)
    (subst (λ z. Forgets c.args.session.now (g.B.Asker.shows c.write_node.new.asker) (g.B.Asker.shows c.forget_all.new.asker) z) c.deref-2.ensures.value c.in_ok-forget_all.ensures.ok))

pub returns-clause-ok : goal.returns-clause-ok
returns-clause-ok g c =
    closes_run (g.A.Addresser.name c.args.naming.now) c.args.session.now (g.B.Asker.shows c.args.asker.now) c.args.bytes c.args.run.now.items c.args.above.now.items c.in_ok-payload.payload c.in_ok-payload.ensures c.requires.few (eight_short c.in_ok-payload.payload c.args.bytes c.in_ok-payload.ensures) (g.B.Asker.shows c.write_node.new.asker) (g.B.Asker.shows c.forget_all.new.asker) c.in_ok-node.node c.push_node.new.nodes.items
    (subst (λ z. WritesNode (g.A.Addresser.name c.args.naming.now) c.args.session.now (g.B.Asker.shows c.args.asker.now) (g.B.Asker.shows c.write_node.new.asker) z c.in_ok-payload.payload c.in_ok-node.node) c.deref.ensures.value c.in_ok-node.ensures.ok)
    (subst (λ z. Forgets c.args.session.now (g.B.Asker.shows c.write_node.new.asker) (g.B.Asker.shows c.forget_all.new.asker) z) c.deref-2.ensures.value c.in_ok-forget_all.ensures.ok)
    c.in_ok-push_node.ensures.ok
