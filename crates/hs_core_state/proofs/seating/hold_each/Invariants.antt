use Rattle.std.proofs.Common.{◌≡◌, drop}
use Rattle.hs_core_state.specs.Going.{hold_each}
use Rattle.hs_core_state.proofs.seating.hold_each.Given as goal

abbrev pub invariant-loop-held : goal.invariant-loop-held
invariant-loop-held l = record {
  held : hold_each l.session (drop l.held-index l.helds) l.sessions.seats ≡ hold_each l.session l.helds l.initial.sessions.seats;
  limits : l.sessions.limits ≡ l.initial.sessions.limits;
}
