-- Events that come one after another.
use Rattle.std.specs.Prelude.{◌≡◌, ℕ, [], ◌∷◌, None}
use Rattle.hs_answered.specs.Telling.{Judging}
use Rattle.hs_core_words.specs.declared.event.Event.{Event}
use Rattle.hs_core_words.specs.State.{Core}
use Rattle.hs_core_words.specs.Step.{step}
use Rattle.hs_effects.specs.Logged.{MayBegin}
use Rattle.hs_events.specs.Due.{Events}
use Rattle.hs_standing.specs.Coming.{ComesAddressed}
use Rattle.hs_told.specs.InTurn.{MayCome}

-- an event comes in order, its line is new where it is a client's, and a write has the address of its block; of what a report tells nothing is asked
pub record Comes (by : Judging) (core : Core) (event : Event) (moment : ℕ) : Type 0 where
  pub may : MayCome by.commands core event moment
  pub begins : MayBegin by.name event core
  pub addressed : ComesAddressed by event core

-- so does each of some, as long as the core goes on
abbrev pub AllCome : Judging → Core → Events → Type 0
AllCome by core [] = Unit {0}
AllCome by core (e ∷ es) = (core.ended ≡ None → Comes by core e.0 e.1) × AllCome by (step e.0 e.1 core) es
