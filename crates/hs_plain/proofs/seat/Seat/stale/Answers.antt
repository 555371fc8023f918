use Rattle.std.proofs.Common.{◌∙◌, sym, arith, Some}
use Rattle.hs_plain.proofs.FirstLemmas.{stale_found}
use Rattle.hs_plain.proofs.seat.Seat.stale.Goals as goal

pub returns-in-Some : goal.returns-in-Some
returns-in-Some c =
    sym (stale_found (Some c.args.self.now) c.args.now c.args.handles.now c.loop-handle.handle-index _ (omega arith) (cc)) ∙ c.loop-handle.invariant
