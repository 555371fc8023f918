use Rattle.std.proofs.Common.{◌≡◌, ◌∙◌, List, ℕ, ap, subst}
use Rattle.std.specs.Prelude.{slice_get}
use Rattle.hs_load.specs.Compared.{PartAt, answer_in, own_answers}
use Rattle.hs_load.specs.Owners.{is_of}
use Rattle.hs_load.proofs.JudgeLemmas.{answers_part}
use Rattle.hs_load.proofs.judging.answers_differ.Goals as goal

pub returns-in-Some-clause-some : goal.returns-in-Some-clause-some
returns-in-Some-clause-some c = λ writers stored sessions.
    answers_part writers c.args.journal.now c.args.kept.now stored _ c.loop-owner.owner c.in-Some.parting.place c.index-kept-owner.result c.in-Some.parting.journal c.loop-owner-test.true c.index-kept-owner.is
    (subst (λ (names : List (List ℕ)). PartAt c.in-Some.parting.place c.index-kept-owner.result.answers (own_answers (is_of names c.loop-owner.owner) c.args.journal.now)) sessions
    (subst (λ xs. PartAt c.in-Some.parting.place xs (own_answers (is_of c.args.sessions.now c.loop-owner.owner) c.args.journal.now)) c.as_slice.ensures c.in-Some.ensures.some))
    (subst (λ (names : List (List ℕ)). slice_get (own_answers (is_of names c.loop-owner.owner) c.args.journal.now) c.in-Some.parting.place ≡ answer_in c.args.journal.now c.in-Some.parting.journal) sessions c.in-Some.ensures.there)
    c.in_ok-answers_part-in-Some.ensures.session c.in_ok-answers_part-in-Some.ensures.place c.in_ok-answers_part-in-Some.ensures.told c.in_ok-answers_part-in-Some.ensures.kept
