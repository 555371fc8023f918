use Rattle.std.proofs.Common.{◌≡◌, length, rules}
use Rattle.std.proofs.lemmas.Result.{err_from_is_err_and}
use Rattle.hs_tree.proofs.GatherLemmas.{take_quiet}
use Rattle.hs_tree.proofs.NextLemmas.{piece_stopped, taken_nothing, taken_piece, taking_stopped}
use Rattle.hs_tree.proofs.store.take_next.Goals as goal

pub returns-in_err-piece-clause-err : goal.returns-in_err-piece-clause-err
returns-in_err-piece-clause-err g c =
    let p = err_from_is_err_and c.from_residual.result c.from_residual.ensures.1 in
    rw (p.1, p.2) (taking_stopped (g.A.Addresser.name c.args.naming.now) c.args.session.now (g.B.Asker.shows c.args.asker.now) c.args.upper.now.items c.args.lower.now.items c.args.bytes (g.S.Source.left c.args.source.now) (g.S.Source.left c.take_piece.new.source) c.in_err-piece.field-0.0 (take_quiet _ _ c.in_err-piece.field-0.0 c.in_err-piece.ensures.fault) c.in_err-piece.ensures.gone)

pub returns-then-bytes-gt0-clause-ok : goal.returns-then-bytes-gt0-clause-ok
returns-then-bytes-gt0-clause-ok g c =
    let none : length c.in_ok-piece.piece.items ≡ 0 = search rules in
    taken_nothing (g.A.Addresser.name c.args.naming.now) c.args.session.now (g.B.Asker.shows c.args.asker.now) c.args.upper.now.items c.args.lower.now.items c.args.bytes (g.S.Source.left c.args.source.now) (g.S.Source.left c.take_piece.new.source) c.in_ok-piece.piece.items none c.in_ok-piece.ensures.stream c.in_ok-piece.ensures.short c.if-bytes-gt0.true

pub returns-clause-ok : goal.returns-clause-ok
returns-clause-ok g c =
    let counted : c.len-taken.result ≡ length c.in_ok-piece.piece.items = search rules in
    taken_piece (g.A.Addresser.name c.args.naming.now) c.args.session.now (g.B.Asker.shows c.args.asker.now) c.args.upper.now.items c.args.lower.now.items c.args.bytes (g.B.Asker.shows c.add_next.new.asker) (g.S.Source.left c.args.source.now) (g.S.Source.left c.take_piece.new.source) c.in_ok-piece.piece.items c.add_next.new.upper.items c.add_next.new.lower.items c.len-taken.result counted c.in_ok-piece.ensures.bound c.in_ok-piece.ensures.stream c.in_ok-piece.ensures.short c.in_ok-add_next.ensures.ok

pub returns-in_err-add_next-clause-err : goal.returns-in_err-add_next-clause-err
returns-in_err-add_next-clause-err g c =
    let p = err_from_is_err_and c.from_residual-in_err-add_next.result c.from_residual-in_err-add_next.ensures.1 in
    rw (p.1, p.2) (piece_stopped (g.A.Addresser.name c.args.naming.now) c.args.session.now (g.B.Asker.shows c.args.asker.now) c.args.upper.now.items c.args.lower.now.items c.args.bytes (g.B.Asker.shows c.add_next.new.asker) (g.S.Source.left c.args.source.now) (g.S.Source.left c.take_piece.new.source) c.in_ok-piece.piece.items c.in_err-add_next.field-0.0 c.in_ok-piece.ensures.stream c.in_err-add_next.ensures.err)
