use Rattle.std.proofs.Common.{◌∙◌, ◌<◌, ◌≤◌, ◌++◌, ap, arith, length, subst, sym}
use Rattle.std.proofs.lemmas.Result.{err_from_is_err_and}
use Rattle.hs_tree.proofs.RunsLemmas.{height-1, height-2}
use Rattle.hs_tree.proofs.TopLemmas.{not_zero, zero_from}
use Rattle.hs_tree.proofs.TopReads.{reads_leaf, reads_nothing, reads_row, row_err, row_ok, some_is, top_stops, unread_top}
use Rattle.hs_tree.specs.Rows.{ReadsRow, ReadsTop, RowStops, TopStops}
use Rattle.hs_tree.proofs.fetch.fetch_top.Goals as goal
use Rattle.hs_tree.proofs.fetch.fetch_top.Goals.{then-bytes-via-then-bytes, then-bytes-via-else-bytes+then-bytes-gt-MOST_FILE}

pub returns-in_err-content-clause-err : goal.returns-in_err-content-clause-err
returns-in_err-content-clause-err g c =
    let p = err_from_is_err_and c.from_residual.result c.from_residual.ensures.1 in
    rw (p.1, p.2) (unread_top c.args.session.now (g.B.Asker.shows c.args.asker.now) c.args.handle c.requires.going (g.B.Asker.shows c.read.new.asker) c.in_err-content.field-0.0 c.in_err-content.ensures.err)

pub returns-then-is_empty-clause-ok : goal.returns-then-is_empty-clause-ok
returns-then-is_empty-clause-ok g c =
    reads_leaf c.args.session.now (g.B.Asker.shows c.args.asker.now) (g.B.Asker.shows c.read.new.asker) c.args.handle c.in_ok-content.content c.in_ok-content.handles c.in_ok-content.ensures.ok (zero_from (length c.in_ok-content.handles) (sym c.is_empty.ensures ∙ c.if-is_empty.true)) c.args.out.now.items c.extend_from_slice.new.self.items
    (c.in_ok-extend_from_slice.ensures.items ∙ ap (λ z. c.args.out.now.items ++ z) c.as_slice.ensures)

pub returns-in_default-clause-ok : goal.returns-in_default-clause-ok
returns-in_default-clause-ok g c =
    reads_nothing c.args.session.now (g.B.Asker.shows c.args.asker.now) (g.B.Asker.shows c.read.new.asker) c.args.handle c.in_ok-content.content c.in_ok-content.handles c.in_ok-content.ensures.ok (not_zero (length c.in_ok-content.handles) (sym c.is_empty.ensures ∙ c.if-is_empty.false)) c.args.out.now.items
    (λ n more most e. let k = c.in_default.ensures.number n (omega (arith, most)) (c.as_slice-2.ensures ∙ e) in cc k)

pub returns-then-bytes-clause-ok : goal.returns-then-bytes-clause-ok
returns-then-bytes-clause-ok g c =
    reads_nothing c.args.session.now (g.B.Asker.shows c.args.asker.now) (g.B.Asker.shows c.read.new.asker) c.args.handle c.in_ok-content.content c.in_ok-content.handles c.in_ok-content.ensures.ok (not_zero (length c.in_ok-content.handles) (sym c.is_empty.ensures ∙ c.if-is_empty.false)) c.args.out.now.items
    (λ n more most e.
    let same = some_is c.in-Some.bytes n (c.in-Some.ensures.number n (omega (arith, most)) (c.as_slice-2.ensures ∙ e)) in
    elim c.then-bytes.branch [ then-bytes-via-then-bytes w ↦ omega (arith, same, more, w.if-bytes.true) | then-bytes-via-else-bytes+then-bytes-gt-MOST_FILE w ↦ omega (arith, same, most, w.if-bytes-gt-MOST_FILE.true) ])

pub returns-then-bytes-le-RUN_BYTES-clause-ok : goal.returns-then-bytes-le-RUN_BYTES-clause-ok
returns-then-bytes-le-RUN_BYTES-clause-ok g c =
    let more : 65536 < c.in-Some.bytes = omega (arith, c.if-bytes.false) in
    let most : c.in-Some.bytes ≤ 67108864 = omega (arith, c.if-bytes-gt-MOST_FILE.false) in
    row_ok c.fetch_pieces.result
    (λ good. ReadsRow c.args.session.now (g.B.Asker.shows c.read.new.asker) (g.B.Asker.shows c.fetch_pieces.new.asker) 0 c.as_slice-then-bytes-le-RUN_BYTES.result.now c.in-Some.bytes c.args.out.now.items c.fetch_pieces.new.out.items good)
    (λ good. ReadsTop c.args.session.now (g.B.Asker.shows c.args.asker.now) (g.B.Asker.shows c.fetch_pieces.new.asker) c.args.handle c.args.out.now.items c.fetch_pieces.new.out.items good)
    (λ good row. reads_row c.args.session.now (g.B.Asker.shows c.args.asker.now) (g.B.Asker.shows c.read.new.asker) c.args.handle c.in_ok-content.content c.in_ok-content.handles c.in_ok-content.ensures.ok (not_zero (length c.in_ok-content.handles) (sym c.is_empty.ensures ∙ c.if-is_empty.false)) 0 c.in-Some.bytes (omega arith) (height-1 c.in-Some.bytes more c.if-bytes-le-RUN_BYTES.true) most (sym c.as_slice-2.ensures ∙ c.in-Some.ensures.some)
    (λ m few e. some_is c.in-Some.bytes m (c.in-Some.ensures.number m (omega (arith, few)) (c.as_slice-2.ensures ∙ e))) (g.B.Asker.shows c.fetch_pieces.new.asker) c.args.out.now.items c.fetch_pieces.new.out.items good
    (subst (λ z. ReadsRow c.args.session.now (g.B.Asker.shows c.read.new.asker) (g.B.Asker.shows c.fetch_pieces.new.asker) 0 z c.in-Some.bytes c.args.out.now.items c.fetch_pieces.new.out.items good) c.as_slice-then-bytes-le-RUN_BYTES.ensures row))
    c.fetch_pieces.ensures.ok

pub returns-then-bytes-le-RUN_BYTES-clause-err : goal.returns-then-bytes-le-RUN_BYTES-clause-err
returns-then-bytes-le-RUN_BYTES-clause-err g c =
    let more : 65536 < c.in-Some.bytes = omega (arith, c.if-bytes.false) in
    let most : c.in-Some.bytes ≤ 67108864 = omega (arith, c.if-bytes-gt-MOST_FILE.false) in
    row_err c.fetch_pieces.result
    (λ f. RowStops c.args.session.now (g.B.Asker.shows c.read.new.asker) (g.B.Asker.shows c.fetch_pieces.new.asker) 0 c.as_slice-then-bytes-le-RUN_BYTES.result.now f)
    (λ f. TopStops c.args.session.now (g.B.Asker.shows c.args.asker.now) (g.B.Asker.shows c.fetch_pieces.new.asker) c.args.handle f)
    (λ f row. top_stops c.args.session.now (g.B.Asker.shows c.args.asker.now) (g.B.Asker.shows c.read.new.asker) c.args.handle c.in_ok-content.content c.in_ok-content.handles c.in_ok-content.ensures.ok (not_zero (length c.in_ok-content.handles) (sym c.is_empty.ensures ∙ c.if-is_empty.false)) 0 c.in-Some.bytes (omega arith) (height-1 c.in-Some.bytes more c.if-bytes-le-RUN_BYTES.true) most (sym c.as_slice-2.ensures ∙ c.in-Some.ensures.some)
    (λ m few e. some_is c.in-Some.bytes m (c.in-Some.ensures.number m (omega (arith, few)) (c.as_slice-2.ensures ∙ e))) (g.B.Asker.shows c.fetch_pieces.new.asker) f
    (subst (λ z. RowStops c.args.session.now (g.B.Asker.shows c.read.new.asker) (g.B.Asker.shows c.fetch_pieces.new.asker) 0 z f) c.as_slice-then-bytes-le-RUN_BYTES.ensures row))
    c.fetch_pieces.ensures.err

pub returns-clause-ok : goal.returns-clause-ok
returns-clause-ok g c =
    let more : 65536 < c.in-Some.bytes = omega (arith, c.if-bytes.false) in
    let most : c.in-Some.bytes ≤ 67108864 = omega (arith, c.if-bytes-gt-MOST_FILE.false) in
    let above : 4194304 < c.in-Some.bytes = omega (arith, c.if-bytes-le-RUN_BYTES.false) in
    row_ok c.fetch_runs.result
    (λ good. ReadsRow c.args.session.now (g.B.Asker.shows c.read.new.asker) (g.B.Asker.shows c.fetch_runs.new.asker) 1 c.as_slice-else-bytes-le-RUN_BYTES.result.now c.in-Some.bytes c.args.out.now.items c.fetch_runs.new.out.items good)
    (λ good. ReadsTop c.args.session.now (g.B.Asker.shows c.args.asker.now) (g.B.Asker.shows c.fetch_runs.new.asker) c.args.handle c.args.out.now.items c.fetch_runs.new.out.items good)
    (λ good row. reads_row c.args.session.now (g.B.Asker.shows c.args.asker.now) (g.B.Asker.shows c.read.new.asker) c.args.handle c.in_ok-content.content c.in_ok-content.handles c.in_ok-content.ensures.ok (not_zero (length c.in_ok-content.handles) (sym c.is_empty.ensures ∙ c.if-is_empty.false)) 1 c.in-Some.bytes (omega arith) (height-2 c.in-Some.bytes above) most (sym c.as_slice-2.ensures ∙ c.in-Some.ensures.some)
    (λ m few e. some_is c.in-Some.bytes m (c.in-Some.ensures.number m (omega (arith, few)) (c.as_slice-2.ensures ∙ e))) (g.B.Asker.shows c.fetch_runs.new.asker) c.args.out.now.items c.fetch_runs.new.out.items good
    (subst (λ z. ReadsRow c.args.session.now (g.B.Asker.shows c.read.new.asker) (g.B.Asker.shows c.fetch_runs.new.asker) 1 z c.in-Some.bytes c.args.out.now.items c.fetch_runs.new.out.items good) c.as_slice-else-bytes-le-RUN_BYTES.ensures row))
    c.fetch_runs.ensures.ok

pub returns-clause-err : goal.returns-clause-err
returns-clause-err g c =
    let more : 65536 < c.in-Some.bytes = omega (arith, c.if-bytes.false) in
    let most : c.in-Some.bytes ≤ 67108864 = omega (arith, c.if-bytes-gt-MOST_FILE.false) in
    let above : 4194304 < c.in-Some.bytes = omega (arith, c.if-bytes-le-RUN_BYTES.false) in
    row_err c.fetch_runs.result
    (λ f. RowStops c.args.session.now (g.B.Asker.shows c.read.new.asker) (g.B.Asker.shows c.fetch_runs.new.asker) 1 c.as_slice-else-bytes-le-RUN_BYTES.result.now f)
    (λ f. TopStops c.args.session.now (g.B.Asker.shows c.args.asker.now) (g.B.Asker.shows c.fetch_runs.new.asker) c.args.handle f)
    (λ f row. top_stops c.args.session.now (g.B.Asker.shows c.args.asker.now) (g.B.Asker.shows c.read.new.asker) c.args.handle c.in_ok-content.content c.in_ok-content.handles c.in_ok-content.ensures.ok (not_zero (length c.in_ok-content.handles) (sym c.is_empty.ensures ∙ c.if-is_empty.false)) 1 c.in-Some.bytes (omega arith) (height-2 c.in-Some.bytes above) most (sym c.as_slice-2.ensures ∙ c.in-Some.ensures.some)
    (λ m few e. some_is c.in-Some.bytes m (c.in-Some.ensures.number m (omega (arith, few)) (c.as_slice-2.ensures ∙ e))) (g.B.Asker.shows c.fetch_runs.new.asker) f
    (subst (λ z. RowStops c.args.session.now (g.B.Asker.shows c.read.new.asker) (g.B.Asker.shows c.fetch_runs.new.asker) 1 z f) c.as_slice-else-bytes-le-RUN_BYTES.ensures row))
    c.fetch_runs.ensures.err
