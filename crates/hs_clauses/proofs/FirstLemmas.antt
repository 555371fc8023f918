-- As a core opens: its shape, its limits and its moment, and that it has no line.
use Rattle.std.proofs.Common.{◌≡◌, ℕ}
use Rattle.hs_core_words.specs.Opening.{Taken, new_core, open_core}
use Rattle.hs_core_words.specs.State.{Core}
use Rattle.hs_events.proofs.GoingLemmas.{Stays as OpensSo, opening_line, opening_stays}
use Rattle.hs_limits.specs.declared.limits.Limits.{Limits}
use Rattle.hs_limits.specs.declared.shape.Shape.{Shape}

-- what no first view and no note changes
pub record Stays (c d : Core) : Type 0 where
  pub shape : d.members.shape ≡ c.members.shape
  pub limits : d.limits ≡ c.limits
  pub moment : d.moment ≡ c.moment
  pub event_line : d.progress.event_line ≡ c.progress.event_line

-- the shape, the moment and no line
pub opens_first : (shape : Shape) (limits : Limits) (taken : Taken) (moment : ℕ) → Stays (new_core shape limits taken moment) (open_core shape limits taken moment)
opens_first shape limits taken moment =
    let c : Core = new_core shape limits taken moment in
    let opens : OpensSo c (open_core shape limits taken moment) = opening_stays c in
    record { shape = opens.shape; limits = opens.limits; moment = opens.moment; event_line = opening_line c }
