use Rattle.std.proofs.Common.{◌∙◌, ap, sym, map}
use Rattle.std.proofs.lemmas.Iterator.Adapters.{YieldsList-from_vec}
use Rattle.std.proofs.lemmas.Iterator.Consumers.{YieldsList-end}
use Rattle.std.proofs.lemmas.List.{map-id}
use Rattle.hs_taking.specs.Evens.{log_of}
use Rattle.hs_taking.proofs.shares.logs_of.Goals as goal

pub returns : goal.returns
returns c =
    let t = YieldsList-end (YieldsList-from_vec c.args.slots.items c.into_iter-slot-iterator.ensures.into_iter_gives.0 (c.into_iter-slot-iterator.ensures.into_iter_gives.1 ∙ c.args.slots.ok.0)) c.loop-slot.yielded c.loop-slot.slot-iterator c.loop-slot.yielded_by c.next.result c.next.new.self c.in-None.is c.next.ensures.steps in
    c.loop-slot.invariant ∙ ap (λ xs. map log_of xs) (sym (map-id c.loop-slot.yielded) ∙ t.0)
