use Rattle.std.proofs.Common.{◌≡◌, IfOk, subst, sym, true}
use Rattle.hs_core_words.specs.Plain.{plain_store}
use Rattle.hs_core_words.specs.State.{Core}
use Rattle.hs_load.specs.Reached.{EachIsReached}
use Rattle.hs_load.proofs.reaching.last_core.Goals as goal

pub returns-clause-found : goal.returns-clause-found
returns-clause-found c =
    subst (λ (k : Core). IfOk c.reaches_all-reached.result (λ are. are ≡ true → EachIsReached (plain_store k))) (sym c.reaches_all-reached.ensures.same) c.reaches_all-reached.ensures.found

pub returns-clause-only : goal.returns-clause-only
returns-clause-only c =
    subst (λ (k : Core). IfOk c.reaches_all-reached.result (λ are. EachIsReached (plain_store k) → are ≡ true)) (sym c.reaches_all-reached.ensures.same) c.reaches_all-reached.ensures.only
