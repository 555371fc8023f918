use Rattle.std.proofs.Common.{◌∙◌, ap, sym, map}
use Rattle.std.proofs.lemmas.Iterator.Adapters.{YieldsList-from_vec}
use Rattle.std.proofs.lemmas.Iterator.Consumers.{YieldsList-end}
use Rattle.std.proofs.lemmas.List.{map-id}
use Rattle.hs_taking.specs.Evens.{slot_of}
use Rattle.hs_taking.proofs.shares.slots_of.Goals as goal

pub returns : goal.returns
returns c =
    let t = YieldsList-end (YieldsList-from_vec c.args.views.items c.into_iter-view-iterator.ensures.into_iter_gives.0 (c.into_iter-view-iterator.ensures.into_iter_gives.1 ∙ c.args.views.ok.0)) c.loop-view.yielded c.loop-view.view-iterator c.loop-view.yielded_by c.next.result c.next.new.self c.in-None.is c.next.ensures.steps in
    c.loop-view.invariant ∙ ap (λ xs. map slot_of xs) (sym (map-id c.loop-view.yielded) ∙ t.0)
