-- Moments of events that never fall.
use Rattle.std.proofs.Common.{ℕ, ◌≤◌, [], ◌∷◌, arith}
use Rattle.hs_events.specs.Due.{Events, MomentsRise}
use Rattle.hs_run.specs.Going.{IsFirstBy}

pub rise_le : (from to : ℕ) (es : Events) → MomentsRise from es to → from ≤ to
rise_le from to [] h = h
rise_le from to (e ∷ es) h =
    let low = h.0 in
    let rest = rise_le e.1 to es h.1 in
    omega (arith, low, rest)

pub rise_on : (from to later : ℕ) (es : Events) → to ≤ later → MomentsRise from es to → MomentsRise from es later
rise_on from to later [] up h = let low = h in omega (arith, low, up)
rise_on from to later (e ∷ es) up h = (h.0, rise_on e.1 to later es up h.1)

-- the first of them is no later than their end
pub first_by : (from to : ℕ) (es : Events) → MomentsRise from es to → IsFirstBy to es
first_by from to [] h = tt
first_by from to (e ∷ es) h = rise_le e.1 to es h.1

pub first_on : (now later : ℕ) (es : Events) → now ≤ later → IsFirstBy now es → IsFirstBy later es
first_on now later [] up h = tt
first_on now later (e ∷ es) up h = let low = h in omega (arith, low, up)
