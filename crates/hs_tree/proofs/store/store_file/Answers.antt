use Rattle.std.proofs.Common.{refl}
use Rattle.std.proofs.lemmas.Result.{err_from_is_err_and}
use Rattle.hs_tree.proofs.EndLemmas.{nothing_stopped}
use Rattle.hs_tree.proofs.FileLemmas.{first_taking, first_under_way, halted_unfinished, none_unfinished, nothing_unwritten, root_left, root_stopped, stopped_as, stored_at_last, whole_from}
use Rattle.hs_tree.proofs.store.store_file.Goals as goal

pub gather-requires-clause-begun : goal.gather-requires-clause-begun
gather-requires-clause-begun g c = first_under_way (g.A.Addresser.name c.args.naming.now) c.in_ok-session.session (g.B.Asker.shows c.args.asker.now) (g.B.Asker.shows c.begin.new.asker) c.new-upper.result.items c.new-lower.result.items c.in_ok-session.ensures c.new-upper.ensures.items c.new-lower.ensures.items c.in_ok-begin.ensures.ok

pub returns-in_err-bytes-clause-stopped : goal.returns-in_err-bytes-clause-stopped
returns-in_err-bytes-clause-stopped g c =
    let p = err_from_is_err_and c.from_residual-in_err-bytes.result c.from_residual-in_err-bytes.ensures.1 in
    rw (p.1, p.2) (stopped_as c.in_ok-session.session c.args.key.now (g.B.Asker.shows c.args.asker.now) (g.B.Asker.shows c.gather.new.asker) c.in_err-bytes.field-0.0 c.in_ok-session.ensures (c.in_err-bytes.ensures.err c.args.key.now (g.B.Asker.shows c.args.asker.now) (first_taking (g.A.Addresser.name c.args.naming.now) c.in_ok-session.session (g.B.Asker.shows c.args.asker.now) (g.B.Asker.shows c.begin.new.asker) c.new-upper.result.items c.new-lower.result.items c.in_ok-session.ensures c.new-upper.ensures.items c.new-lower.ensures.items c.in_ok-begin.ensures.ok)).halted.stopped)

pub finish-requires-clause-whole : goal.finish-requires-clause-whole
finish-requires-clause-whole g c = whole_from (g.A.Addresser.name c.args.naming.now) c.in_ok-session.session (g.B.Asker.shows c.args.asker.now) (g.B.Asker.shows c.gather.new.asker) (g.S.Source.left c.args.source.now) (g.S.Source.left c.gather.new.source) c.gather.new.upper.items c.gather.new.lower.items c.in_ok-bytes.bytes (c.in_ok-bytes.ensures.ok (g.B.Asker.shows c.args.asker.now) (first_taking (g.A.Addresser.name c.args.naming.now) c.in_ok-session.session (g.B.Asker.shows c.args.asker.now) (g.B.Asker.shows c.begin.new.asker) c.new-upper.result.items c.new-lower.result.items c.in_ok-session.ensures c.new-upper.ensures.items c.new-lower.ensures.items c.in_ok-begin.ensures.ok))

pub returns-in_err-top-clause-stopped : goal.returns-in_err-top-clause-stopped
returns-in_err-top-clause-stopped g c =
    let h = c.in_ok-bytes.ensures.ok (g.B.Asker.shows c.args.asker.now) (first_taking (g.A.Addresser.name c.args.naming.now) c.in_ok-session.session (g.B.Asker.shows c.args.asker.now) (g.B.Asker.shows c.begin.new.asker) c.new-upper.result.items c.new-lower.result.items c.in_ok-session.ensures c.new-upper.ensures.items c.new-lower.ensures.items c.in_ok-begin.ensures.ok) in
    let p = err_from_is_err_and c.from_residual-in_err-top.result c.from_residual-in_err-top.ensures.1 in
    rw (p.1, p.2) (stopped_as c.in_ok-session.session c.args.key.now (g.B.Asker.shows c.args.asker.now) (g.B.Asker.shows c.finish.new.asker) c.in_err-top.field-0.0 c.in_ok-session.ensures (c.in_err-top.ensures.err c.args.key.now (g.B.Asker.shows c.args.asker.now) h.file h.gathered h.counted).stopped)

pub returns-in_err-root-clause-stopped : goal.returns-in_err-root-clause-stopped
returns-in_err-root-clause-stopped g c =
    let h = c.in_ok-bytes.ensures.ok (g.B.Asker.shows c.args.asker.now) (first_taking (g.A.Addresser.name c.args.naming.now) c.in_ok-session.session (g.B.Asker.shows c.args.asker.now) (g.B.Asker.shows c.begin.new.asker) c.new-upper.result.items c.new-lower.result.items c.in_ok-session.ensures c.new-upper.ensures.items c.new-lower.ensures.items c.in_ok-begin.ensures.ok) in
    let p = err_from_is_err_and c.from_residual-in_err-root.result c.from_residual-in_err-root.ensures.1 in
    rw (p.1, p.2) (root_stopped (g.A.Addresser.name c.args.naming.now) c.in_ok-session.session c.args.key.now (g.B.Asker.shows c.args.asker.now) (g.B.Asker.shows c.finish.new.asker) (g.B.Asker.shows c.root.new.asker) c.in_ok-top.top h.file c.in_err-root.field-0.0 c.in_ok-session.ensures (c.in_ok-top.ensures.ok (g.B.Asker.shows c.args.asker.now) h.file h.gathered h.counted) c.in_err-root.ensures.err)

pub returns-clause-stored : goal.returns-clause-stored
returns-clause-stored g c =
    let h = c.in_ok-bytes.ensures.ok (g.B.Asker.shows c.args.asker.now) (first_taking (g.A.Addresser.name c.args.naming.now) c.in_ok-session.session (g.B.Asker.shows c.args.asker.now) (g.B.Asker.shows c.begin.new.asker) c.new-upper.result.items c.new-lower.result.items c.in_ok-session.ensures c.new-upper.ensures.items c.new-lower.ensures.items c.in_ok-begin.ensures.ok) in
    stored_at_last (g.A.Addresser.name c.args.naming.now) c.in_ok-session.session c.args.key.now (g.B.Asker.shows c.args.asker.now) (g.B.Asker.shows c.gather.new.asker) (g.B.Asker.shows c.finish.new.asker) (g.B.Asker.shows c.root.new.asker) (g.S.Source.left c.args.source.now) (g.S.Source.left c.gather.new.source) c.gather.new.upper.items c.gather.new.lower.items c.in_ok-bytes.bytes c.in_ok-top.top c.in_ok-session.ensures h (c.in_ok-top.ensures.ok (g.B.Asker.shows c.args.asker.now) h.file h.gathered h.counted) c.in_ok-root.ensures.ok

pub returns-in_err-session-clause-stopped : goal.returns-in_err-session-clause-stopped
returns-in_err-session-clause-stopped g c =
    let p = err_from_is_err_and c.from_residual.result c.from_residual.ensures.1 in
    rw (p.1, p.2) (nothing_stopped c.args.key.now (g.B.Asker.shows c.args.asker.now) c.requires.going)

pub returns-in_err-session-clause-unfinished : goal.returns-in_err-session-clause-unfinished
returns-in_err-session-clause-unfinished g c =
    let p = err_from_is_err_and c.from_residual.result c.from_residual.ensures.1 in
    rw p.1 (none_unfinished (g.A.Addresser.name c.args.naming.now) (g.B.Asker.shows c.args.asker.now) (g.B.Asker.shows c.args.asker.now) (g.S.Source.left c.args.source.now) (g.S.Source.left c.args.source.now) refl (nothing_unwritten (g.B.Asker.shows c.args.asker.now)))

pub returns-in_err-begin-clause-unfinished : goal.returns-in_err-begin-clause-unfinished
returns-in_err-begin-clause-unfinished g c =
    let p = err_from_is_err_and c.from_residual-in_err-begin.result c.from_residual-in_err-begin.ensures.1 in
    rw p.1 (none_unfinished (g.A.Addresser.name c.args.naming.now) (g.B.Asker.shows c.args.asker.now) (g.B.Asker.shows c.begin.new.asker) (g.S.Source.left c.args.source.now) (g.S.Source.left c.args.source.now) refl c.in_err-begin.ensures.unwritten)

pub returns-in_err-bytes-clause-unfinished : goal.returns-in_err-bytes-clause-unfinished
returns-in_err-bytes-clause-unfinished g c =
    let h = c.in_err-bytes.ensures.err c.args.key.now (g.B.Asker.shows c.args.asker.now) (first_taking (g.A.Addresser.name c.args.naming.now) c.in_ok-session.session (g.B.Asker.shows c.args.asker.now) (g.B.Asker.shows c.begin.new.asker) c.new-upper.result.items c.new-lower.result.items c.in_ok-session.ensures c.new-upper.ensures.items c.new-lower.ensures.items c.in_ok-begin.ensures.ok) in
    let p = err_from_is_err_and c.from_residual-in_err-bytes.result c.from_residual-in_err-bytes.ensures.1 in
    rw p.1 (halted_unfinished (g.A.Addresser.name c.args.naming.now) (g.B.Asker.shows c.args.asker.now) (g.B.Asker.shows c.gather.new.asker) (g.S.Source.left c.args.source.now) (g.S.Source.left c.gather.new.source) c.in_ok-session.session c.args.key.now h.more c.in_err-bytes.field-0.0 h.stream h.halted)

pub returns-in_err-top-clause-unfinished : goal.returns-in_err-top-clause-unfinished
returns-in_err-top-clause-unfinished g c =
    let h = c.in_ok-bytes.ensures.ok (g.B.Asker.shows c.args.asker.now) (first_taking (g.A.Addresser.name c.args.naming.now) c.in_ok-session.session (g.B.Asker.shows c.args.asker.now) (g.B.Asker.shows c.begin.new.asker) c.new-upper.result.items c.new-lower.result.items c.in_ok-session.ensures c.new-upper.ensures.items c.new-lower.ensures.items c.in_ok-begin.ensures.ok) in
    let p = err_from_is_err_and c.from_residual-in_err-top.result c.from_residual-in_err-top.ensures.1 in
    rw p.1 (halted_unfinished (g.A.Addresser.name c.args.naming.now) (g.B.Asker.shows c.args.asker.now) (g.B.Asker.shows c.finish.new.asker) (g.S.Source.left c.args.source.now) (g.S.Source.left c.gather.new.source) c.in_ok-session.session c.args.key.now h.file c.in_err-top.field-0.0 h.stream (c.in_err-top.ensures.err c.args.key.now (g.B.Asker.shows c.args.asker.now) h.file h.gathered h.counted))

pub returns-in_err-root-clause-unfinished : goal.returns-in_err-root-clause-unfinished
returns-in_err-root-clause-unfinished g c =
    let h = c.in_ok-bytes.ensures.ok (g.B.Asker.shows c.args.asker.now) (first_taking (g.A.Addresser.name c.args.naming.now) c.in_ok-session.session (g.B.Asker.shows c.args.asker.now) (g.B.Asker.shows c.begin.new.asker) c.new-upper.result.items c.new-lower.result.items c.in_ok-session.ensures c.new-upper.ensures.items c.new-lower.ensures.items c.in_ok-begin.ensures.ok) in
    let p = err_from_is_err_and c.from_residual-in_err-root.result c.from_residual-in_err-root.ensures.1 in
    rw p.1 (root_left (g.A.Addresser.name c.args.naming.now) c.in_ok-session.session c.args.key.now (g.B.Asker.shows c.args.asker.now) (g.B.Asker.shows c.gather.new.asker) (g.B.Asker.shows c.finish.new.asker) (g.B.Asker.shows c.root.new.asker) (g.S.Source.left c.args.source.now) (g.S.Source.left c.gather.new.source) c.gather.new.upper.items c.gather.new.lower.items c.in_ok-bytes.bytes c.in_ok-top.top c.in_err-root.field-0.0 c.in_ok-session.ensures h (c.in_ok-top.ensures.ok (g.B.Asker.shows c.args.asker.now) h.file h.gathered h.counted) c.in_err-root.ensures.err)
