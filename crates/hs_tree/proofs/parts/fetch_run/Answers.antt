use Rattle.std.proofs.Common.{◌∙◌, refl, subst, sym}
use Rattle.std.proofs.lemmas.Result.{err_from_is_err_and}
use Rattle.hs_tree.proofs.FetchLemmas.{unread}
use Rattle.hs_tree.proofs.PartReads.{forgets_part, run_given, run_no_row, run_stops, run_wrong, unforgotten}
use Rattle.hs_tree.specs.Rows.{ReadsRow, RowStops}
use Rattle.hs_tree.proofs.parts.fetch_run.Goals as goal

pub returns-in_err-content-clause-err : goal.returns-in_err-content-clause-err
returns-in_err-content-clause-err g c =
    let p = err_from_is_err_and c.from_residual.result c.from_residual.ensures.1 in
    rw (p.1, p.2) (unread c.args.session.now (g.B.Asker.shows c.args.asker.now) 1 c.args.handle c.requires.going (g.B.Asker.shows c.read.new.asker) c.in_err-content.field-0.0 c.in_err-content.ensures.err)

pub returns-then-not-is_run-clause-ok : goal.returns-then-not-is_run-clause-ok
returns-then-not-is_run-clause-ok g c =
    run_wrong c.args.session.now (g.B.Asker.shows c.args.asker.now) (g.B.Asker.shows c.read.new.asker) 0 c.args.handle c.args.part c.in_ok-content.content c.in_ok-content.below c.args.out.now.items c.in_ok-content.ensures.ok
    (λ some e. c.if-not-is_run.ensures.no refl some (c.as_slice.ensures ∙ e))

pub returns-in_err-fetch_pieces-clause-err : goal.returns-in_err-fetch_pieces-clause-err
returns-in_err-fetch_pieces-clause-err g c =
    let p = err_from_is_err_and c.from_residual-in_err-fetch_pieces.result c.from_residual-in_err-fetch_pieces.ensures.1 in
    rw (p.1, p.2) (run_stops c.args.session.now (g.B.Asker.shows c.args.asker.now) (g.B.Asker.shows c.read.new.asker) 0 c.args.handle c.args.part c.in_ok-content.content c.in_ok-content.below c.args.out.now.items c.in_ok-content.ensures.ok (g.B.Asker.shows c.fetch_pieces.new.asker) c.in_err-fetch_pieces.field-0.0
    (subst (λ z. RowStops c.args.session.now (g.B.Asker.shows c.read.new.asker) (g.B.Asker.shows c.fetch_pieces.new.asker) 0 z c.in_err-fetch_pieces.field-0.0) c.as_slice-2.ensures c.in_err-fetch_pieces.ensures.err))

pub returns-then-not-branch-clause-ok : goal.returns-then-not-branch-clause-ok
returns-then-not-branch-clause-ok g c =
    let row = subst (λ z. ReadsRow c.args.session.now (g.B.Asker.shows c.read.new.asker) (g.B.Asker.shows c.fetch_pieces.new.asker) 0 z c.args.part c.args.out.now.items c.fetch_pieces.new.out.items c.in_ok-fetch_pieces.field-0) c.as_slice-2.ensures c.in_ok-fetch_pieces.ensures.ok in
    run_no_row c.args.session.now (g.B.Asker.shows c.args.asker.now) (g.B.Asker.shows c.read.new.asker) 0 c.args.handle c.args.part c.in_ok-content.content c.in_ok-content.below c.args.out.now.items c.in_ok-content.ensures.ok (g.B.Asker.shows c.fetch_pieces.new.asker) c.fetch_pieces.new.out.items
    (subst (λ z. ReadsRow c.args.session.now (g.B.Asker.shows c.read.new.asker) (g.B.Asker.shows c.fetch_pieces.new.asker) 0 c.in_ok-content.below c.args.part c.args.out.now.items c.fetch_pieces.new.out.items z) c.if-not-branch.true row)

pub returns-in_err-forget-clause-err : goal.returns-in_err-forget-clause-err
returns-in_err-forget-clause-err g c =
    let is = c.if-not-is_run.ensures.yes refl in
    let row = subst (λ z. ReadsRow c.args.session.now (g.B.Asker.shows c.read.new.asker) (g.B.Asker.shows c.fetch_pieces.new.asker) 0 z c.args.part c.args.out.now.items c.fetch_pieces.new.out.items c.in_ok-fetch_pieces.field-0) c.as_slice-2.ensures c.in_ok-fetch_pieces.ensures.ok in
    let given = run_given c.args.session.now (g.B.Asker.shows c.args.asker.now) (g.B.Asker.shows c.read.new.asker) 0 c.args.handle c.args.part c.in_ok-content.content c.in_ok-content.below c.args.out.now.items c.in_ok-content.ensures.ok (g.B.Asker.shows c.fetch_pieces.new.asker) c.fetch_pieces.new.out.items (is.0, sym c.as_slice.ensures ∙ is.1)
    (subst (λ z. ReadsRow c.args.session.now (g.B.Asker.shows c.read.new.asker) (g.B.Asker.shows c.fetch_pieces.new.asker) 0 c.in_ok-content.below c.args.part c.args.out.now.items c.fetch_pieces.new.out.items z) c.if-not-branch.false row) in
    let p = err_from_is_err_and c.from_residual-in_err-forget.result c.from_residual-in_err-forget.ensures.1 in
    rw (p.1, p.2) (unforgotten c.args.session.now (g.B.Asker.shows c.args.asker.now) (g.B.Asker.shows c.fetch_pieces.new.asker) (g.B.Asker.shows c.forget.new.asker) 1 c.args.handle c.args.part c.args.out.now.items c.fetch_pieces.new.out.items given c.in_err-forget.field-0.0 c.in_err-forget.ensures.err)

pub returns-clause-ok : goal.returns-clause-ok
returns-clause-ok g c =
    let is = c.if-not-is_run.ensures.yes refl in
    let row = subst (λ z. ReadsRow c.args.session.now (g.B.Asker.shows c.read.new.asker) (g.B.Asker.shows c.fetch_pieces.new.asker) 0 z c.args.part c.args.out.now.items c.fetch_pieces.new.out.items c.in_ok-fetch_pieces.field-0) c.as_slice-2.ensures c.in_ok-fetch_pieces.ensures.ok in
    let given = run_given c.args.session.now (g.B.Asker.shows c.args.asker.now) (g.B.Asker.shows c.read.new.asker) 0 c.args.handle c.args.part c.in_ok-content.content c.in_ok-content.below c.args.out.now.items c.in_ok-content.ensures.ok (g.B.Asker.shows c.fetch_pieces.new.asker) c.fetch_pieces.new.out.items (is.0, sym c.as_slice.ensures ∙ is.1)
    (subst (λ z. ReadsRow c.args.session.now (g.B.Asker.shows c.read.new.asker) (g.B.Asker.shows c.fetch_pieces.new.asker) 0 c.in_ok-content.below c.args.part c.args.out.now.items c.fetch_pieces.new.out.items z) c.if-not-branch.false row) in
    forgets_part c.args.session.now (g.B.Asker.shows c.args.asker.now) (g.B.Asker.shows c.fetch_pieces.new.asker) (g.B.Asker.shows c.forget.new.asker) 1 c.args.handle c.args.part c.args.out.now.items c.fetch_pieces.new.out.items given c.in_ok-forget.ensures.ok
