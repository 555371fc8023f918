use Rattle.std.proofs.Common.{◌∙◌, sym, arith, Some}
use Rattle.std.proofs.lemmas.Grind.{common_steps}
use Rattle.hs_plain.proofs.FirstLemmas.{no_handle_found}
use Rattle.hs_plain.proofs.seat.Seat.no_handle.Goals as goal

pub returns-then-is_none : goal.returns-then-is_none
returns-then-is_none c =
    sym (no_handle_found (Some c.args.self.now) c.args.handles.now c.loop-handle.handle-index _ (omega arith) (grind (arith, common_steps))) ∙ c.loop-handle.invariant
