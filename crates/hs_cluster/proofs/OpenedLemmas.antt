-- What a core has as it opens.
use Rattle.std.proofs.Common.{◌≡◌, ◌∙◌, ap, ℕ}
use Rattle.hs_core_words.specs.Opening.{Taken, new_core, open_core}
use Rattle.hs_core_words.specs.State.{Core}
use Rattle.hs_events.proofs.GoingLemmas.{Stays, opening_stays}
use Rattle.hs_limits.specs.declared.limits.Limits.{Limits}
use Rattle.hs_limits.specs.declared.shape.Shape.{Shape}

-- the shape, the moment and no line
pub opens_so : (shape : Shape) (limits : Limits) (taken : Taken) (moment : ℕ) → Stays (new_core shape limits taken moment) (open_core shape limits taken moment)
opens_so shape limits taken moment = opening_stays (new_core shape limits taken moment)

-- over these lists
pub core_opens : (shape : Shape) (limits : Limits) (made taken : Taken) (moment : ℕ) (core : Core) → core ≡ open_core shape limits made moment
    → made.catalogues ≡ taken.catalogues → made.views ≡ taken.views → made.lengths ≡ taken.lengths → made.good ≡ taken.good → core ≡ open_core shape limits taken moment
core_opens shape limits made taken moment core is catalogues views lengths good = is ∙ ap (λ (x : Taken). open_core shape limits x moment) same
  where
    same : made ≡ taken
    same = λ i. record { catalogues = catalogues i; views = views i; lengths = lengths i; good = good i }

pub shape_opens : (shape : Shape) (limits : Limits) (taken : Taken) (moment : ℕ) (core : Core) → core ≡ open_core shape limits taken moment → core.members.shape ≡ shape
shape_opens shape limits taken moment core is = ap (λ (c : Core). c.members.shape) is ∙ (opens_so shape limits taken moment).shape

pub moment_opens : (shape : Shape) (limits : Limits) (taken : Taken) (moment : ℕ) (core : Core) → core ≡ open_core shape limits taken moment → core.moment ≡ moment
moment_opens shape limits taken moment core is = ap (λ (c : Core). c.moment) is ∙ (opens_so shape limits taken moment).moment
