use Rattle.std.proofs.Common.{◌∙◌, ap, length, refl}
use Rattle.std.proofs.lemmas.Result.{err_from_is_err_and}
use Rattle.hs_tree.proofs.FetchLemmas.{unread}
use Rattle.hs_tree.proofs.PartReads.{forgets_part, gives_piece, piece_wrong, unforgotten}
use Rattle.hs_tree.proofs.parts.fetch_piece.Goals as goal

pub returns-in_err-content-clause-err : goal.returns-in_err-content-clause-err
returns-in_err-content-clause-err g c =
    let p = err_from_is_err_and c.from_residual.result c.from_residual.ensures.1 in
    rw (p.1, p.2) (unread c.args.session.now (g.B.Asker.shows c.args.asker.now) 0 c.args.handle c.requires.going (g.B.Asker.shows c.read.new.asker) c.in_err-content.field-0.0 c.in_err-content.ensures.err)

pub returns-then-not-is_piece-clause-ok : goal.returns-then-not-is_piece-clause-ok
returns-then-not-is_piece-clause-ok g c =
    piece_wrong c.args.session.now (g.B.Asker.shows c.args.asker.now) (g.B.Asker.shows c.read.new.asker) c.args.handle c.args.part c.in_ok-content.content c.in_ok-content.below c.args.out.now.items c.in_ok-content.ensures.ok
    (λ some none long. c.if-not-is_piece.ensures.no refl some (ap (λ z. length z) c.as_slice-2.ensures ∙ none) (ap (λ z. length z) c.as_slice.ensures ∙ long))

pub returns-in_err-forget-clause-err : goal.returns-in_err-forget-clause-err
returns-in_err-forget-clause-err g c =
    let given = gives_piece c.args.session.now (g.B.Asker.shows c.args.asker.now) (g.B.Asker.shows c.read.new.asker) c.args.handle c.args.part c.in_ok-content.content c.in_ok-content.below c.args.out.now.items c.in_ok-content.ensures.ok
    c.as_slice.result.now c.as_slice-2.result.now c.as_slice-3.result.now c.as_slice.ensures c.as_slice-2.ensures c.as_slice-3.ensures (c.if-not-is_piece.ensures.yes refl) c.extend_from_slice.new.self.items c.in_ok-extend_from_slice.ensures.items in
    let p = err_from_is_err_and c.from_residual-in_err-forget.result c.from_residual-in_err-forget.ensures.1 in
    rw (p.1, p.2) (unforgotten c.args.session.now (g.B.Asker.shows c.args.asker.now) (g.B.Asker.shows c.read.new.asker) (g.B.Asker.shows c.forget.new.asker) 0 c.args.handle c.args.part c.args.out.now.items c.extend_from_slice.new.self.items given c.in_err-forget.field-0.0 c.in_err-forget.ensures.err)

pub returns-clause-ok : goal.returns-clause-ok
returns-clause-ok g c =
    let given = gives_piece c.args.session.now (g.B.Asker.shows c.args.asker.now) (g.B.Asker.shows c.read.new.asker) c.args.handle c.args.part c.in_ok-content.content c.in_ok-content.below c.args.out.now.items c.in_ok-content.ensures.ok
    c.as_slice.result.now c.as_slice-2.result.now c.as_slice-3.result.now c.as_slice.ensures c.as_slice-2.ensures c.as_slice-3.ensures (c.if-not-is_piece.ensures.yes refl) c.extend_from_slice.new.self.items c.in_ok-extend_from_slice.ensures.items in
    forgets_part c.args.session.now (g.B.Asker.shows c.args.asker.now) (g.B.Asker.shows c.read.new.asker) (g.B.Asker.shows c.forget.new.asker) 0 c.args.handle c.args.part c.args.out.now.items c.extend_from_slice.new.self.items given c.in_ok-forget.ensures.ok
