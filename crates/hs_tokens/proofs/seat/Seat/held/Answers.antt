use Rattle.std.proofs.Common.{arith}
use Rattle.std.proofs.lemmas.Grind.{common_steps}
use Rattle.std.proofs.lemmas.List.{length-map}
use Rattle.hs_tokens.proofs.SeatLemmas.{keys_below}
use Rattle.hs_tokens.proofs.seat.Seat.held.Goals as goal

pub overflow_cast-result : goal.overflow_cast-result
overflow_cast-result c =
    let few = keys_below c.self.inside.next c.self.inside.handles.entries c.len.ensures.ordered c.self.invariant.below in
    grind (arith, common_steps, length-map, few, c.self.invariant.fits)
