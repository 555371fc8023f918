use Rattle.std.proofs.Common.{◌∙◌, ap, subst, [], replicate}
use Rattle.hs_book.proofs.HistoryLemmas.{opens}
use Rattle.hs_book.specs.Book.{Book, count_of_peers}
use Rattle.hs_book.specs.History.{NobodyJoins}
use Rattle.hs_book.proofs.book.Book.open.Goals as goal

pub invariant_of-result : goal.invariant_of-result
invariant_of-result g c =
    let is = c.in_ok-keeper.ensures.ok in
    opens g.O.Opening.start c.in_ok-keeper.keeper
    (ap (λ (b : Book). b.core) is ∙ c.requires.start)
    (subst NobodyJoins c.requires.start c.requires.calm)
    (ap (λ (b : Book). b.core.ended) is ∙ c.requires.going)
    (ap (λ (b : Book). b.reported) is ∙ ap (λ core. replicate (count_of_peers core) []) c.requires.start)
    (ap (λ (b : Book). b.ended) is)
