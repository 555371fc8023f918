use Rattle.std.proofs.Common.{[], subst}
use Rattle.std.proofs.lemmas.Result.{err_from_is_err_and}
use Rattle.hs_tree.proofs.PartLemmas.{adds_piece, piece_unpushed, piece_unwritten}
use Rattle.hs_tree.specs.Calls.{CallFails}
use Rattle.hs_tree.specs.Growing.{write_above}
use Rattle.hs_tree.specs.Steps.{WritesNode}
use Rattle.hs_tree.proofs.grow.add_piece.Goals as goal

pub returns-in_err-node-clause-err : goal.returns-in_err-node-clause-err
returns-in_err-node-clause-err g c =
    let p = err_from_is_err_and c.from_residual.result c.from_residual.ensures.1 in
    rw (p.1, p.2) (piece_unwritten (g.A.Addresser.name c.args.naming.now) c.args.session.now (g.B.Asker.shows c.args.asker.now) (g.B.Asker.shows c.write_node.new.asker) c.args.piece.items c.args.run.now.items c.requires.short c.in_err-node.field-0.0
    (subst (λ z. CallFails (g.B.Asker.shows c.args.asker.now) (g.B.Asker.shows c.write_node.new.asker) (write_above (g.A.Addresser.name c.args.naming.now) c.args.session.now [] z) c.in_err-node.field-0.0) c.from_vec.ensures c.in_err-node.ensures.err))

pub returns-in_err-push_node-clause-err : goal.returns-in_err-push_node-clause-err
returns-in_err-push_node-clause-err g c =
    let p = err_from_is_err_and c.from_residual-in_err-push_node.result c.from_residual-in_err-push_node.ensures.1 in
    rw (p.1, p.2) (piece_unpushed (g.A.Addresser.name c.args.naming.now) c.args.session.now (g.B.Asker.shows c.args.asker.now) (g.B.Asker.shows c.write_node.new.asker) c.args.piece.items c.args.run.now.items c.requires.short c.in_ok-node.node
    (subst (λ z. WritesNode (g.A.Addresser.name c.args.naming.now) c.args.session.now (g.B.Asker.shows c.args.asker.now) (g.B.Asker.shows c.write_node.new.asker) [] z c.in_ok-node.node) c.from_vec.ensures c.in_ok-node.ensures.ok))

pub returns-clause-ok : goal.returns-clause-ok
returns-clause-ok g c =
    adds_piece (g.A.Addresser.name c.args.naming.now) c.args.session.now (g.B.Asker.shows c.args.asker.now) (g.B.Asker.shows c.write_node.new.asker) c.args.piece.items c.args.run.now.items c.requires.short c.in_ok-node.node c.push_node.new.nodes.items
    (subst (λ z. WritesNode (g.A.Addresser.name c.args.naming.now) c.args.session.now (g.B.Asker.shows c.args.asker.now) (g.B.Asker.shows c.write_node.new.asker) [] z c.in_ok-node.node) c.from_vec.ensures c.in_ok-node.ensures.ok)
    c.in_ok-push_node.ensures.ok
