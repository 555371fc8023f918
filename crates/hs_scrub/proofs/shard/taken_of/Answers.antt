use Rattle.std.proofs.Common.{◌∙◌, ◌-◌, ap, drop, refl, sym, take}
use Rattle.std.specs.Prelude.{is_some}
use Rattle.hs_scrub.proofs.TakenLemmas.{none_is, taken_is}
use Rattle.hs_scrub.proofs.shard.taken_of.Goals as goal

pub returns-in-Some-clause-found : goal.returns-in-Some-clause-found
returns-in-Some-clause-found c =
    taken_is c.args.views.now c.as_slice.result.now (take (c.args.to - c.args.from) (drop c.args.from c.as_slice.result.now)) c.args.from c.args.to c.in-Some.copy c.requires.order c.requires.within
    (c.as_slice.ensures.value ∙ c.in_ok-ranks.ensures) refl (sym c.choose.ensures.value ∙ c.in-Some.is)

pub returns-clause-none : goal.returns-clause-none
returns-clause-none c = λ e.
    none_is c.args.views.now c.as_slice.result.now (take (c.args.to - c.args.from) (drop c.args.from c.as_slice.result.now)) c.args.from c.args.to c.requires.order c.requires.within
    (c.as_slice.ensures.value ∙ c.in_ok-ranks.ensures) refl (sym c.choose.ensures.found ∙ ap is_some c.in-None.is)
