use Rattle.std.proofs.Common.{arith}
use Rattle.std.proofs.lemmas.Result.{err_from_is_err_and}
use Rattle.hs_tree.proofs.NextLemmas.{added_closed, added_ok, close_stopped, closed_named, stopped_closed, stopped_ok, under_named}
use Rattle.hs_tree.proofs.store.add_next.Goals as goal

pub returns-then-len-lt-MOST_POINTERS-clause-ok : goal.returns-then-len-lt-MOST_POINTERS-clause-ok
returns-then-len-lt-MOST_POINTERS-clause-ok g c =
    added_ok (g.A.Addresser.name c.args.naming.now) c.args.session.now (g.B.Asker.shows c.args.asker.now) c.args.upper.now.items c.args.lower.now.items c.args.bytes (g.B.Asker.shows c.add_piece.new.asker) c.add_piece.new.run.items c.args.piece.items (omega arith) c.requires.short c.requires.some c.add_piece.result c.add_piece.ensures.ok c.add_piece.ensures.one

pub returns-then-len-lt-MOST_POINTERS-clause-err : goal.returns-then-len-lt-MOST_POINTERS-clause-err
returns-then-len-lt-MOST_POINTERS-clause-err g c = stopped_ok (g.A.Addresser.name c.args.naming.now) c.args.session.now (g.B.Asker.shows c.args.asker.now) c.args.upper.now.items c.args.lower.now.items c.args.bytes (g.B.Asker.shows c.add_piece.new.asker) c.add_piece.new.run.items c.args.piece.items (omega arith) c.requires.short c.requires.some c.add_piece.result c.add_piece.ensures.err

pub close_run-requires-clause-named : goal.close_run-requires-clause-named
close_run-requires-clause-named g c = under_named (g.A.Addresser.name c.args.naming.now) c.args.session.now (g.B.Asker.shows c.args.asker.now) c.args.upper.now.items c.args.lower.now.items c.args.bytes c.requires.taking

pub returns-in_err-close_run-clause-err : goal.returns-in_err-close_run-clause-err
returns-in_err-close_run-clause-err g c =
    let p = err_from_is_err_and c.from_residual.result c.from_residual.ensures.1 in
    rw (p.1, p.2) (close_stopped (g.A.Addresser.name c.args.naming.now) c.args.session.now (g.B.Asker.shows c.args.asker.now) c.args.upper.now.items c.args.lower.now.items c.args.bytes (omega arith) (g.B.Asker.shows c.close_run.new.asker) c.args.piece.items c.in_err-close_run.field-0.0 c.in_err-close_run.ensures.err)

pub add_piece-requires-2-clause-named : goal.add_piece-requires-2-clause-named
add_piece-requires-2-clause-named g c = closed_named (g.A.Addresser.name c.args.naming.now) c.args.session.now (g.B.Asker.shows c.args.asker.now) c.args.upper.now.items c.args.lower.now.items c.args.bytes (omega arith) (g.B.Asker.shows c.close_run.new.asker) c.close_run.new.above.items c.in_ok-close_run.ensures.ok c.in_ok-close_run.ensures.one c.requires.taking

pub returns-clause-ok : goal.returns-clause-ok
returns-clause-ok g c =
    added_closed (g.A.Addresser.name c.args.naming.now) c.args.session.now (g.B.Asker.shows c.args.asker.now) c.args.upper.now.items c.args.lower.now.items c.args.bytes (omega arith) (g.B.Asker.shows c.close_run.new.asker) c.close_run.new.above.items c.in_ok-close_run.ensures.ok c.in_ok-close_run.ensures.one c.close_run.new.run.items c.in_ok-close_run.ensures.empty (g.B.Asker.shows c.add_piece-2.new.asker) c.add_piece-2.new.run.items c.args.piece.items c.requires.short c.requires.some c.add_piece-2.result c.add_piece-2.ensures.ok c.add_piece-2.ensures.one

pub returns-clause-err : goal.returns-clause-err
returns-clause-err g c =
    stopped_closed (g.A.Addresser.name c.args.naming.now) c.args.session.now (g.B.Asker.shows c.args.asker.now) c.args.upper.now.items c.args.lower.now.items c.args.bytes (omega arith) (g.B.Asker.shows c.close_run.new.asker) c.close_run.new.above.items c.in_ok-close_run.ensures.ok c.in_ok-close_run.ensures.one c.close_run.new.run.items c.in_ok-close_run.ensures.empty (g.B.Asker.shows c.add_piece-2.new.asker) c.add_piece-2.new.run.items c.args.piece.items c.requires.short c.requires.some c.add_piece-2.result c.add_piece-2.ensures.err
