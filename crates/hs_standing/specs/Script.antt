-- The lines of a script with their events, one after another.
use Rattle.std.specs.Prelude.{◌≡◌, ℕ, ◌+◌, ◌<◌, Bool, true, List, [], ◌∷◌, ◌++◌, Option, None}
use Rattle.hs_core_words.specs.State.{Core}
use Rattle.hs_events.specs.Commands.{AreOfLine, LineAt}
use Rattle.hs_events.specs.Course.{steps}
use Rattle.hs_events.specs.Due.{Events}
use Rattle.hs_limits.specs.declared.address.Address.{Address}
use Rattle.hs_model.specs.declared.command.Command.{Command}
use Rattle.hs_told.specs.InTurn.{NoneBetween}

-- a naming, the command of each line by its number, and whether the last line was gone past
pub record Script : Type 0 where
  pub name : List ℕ → Address
  pub commands : ℕ → Option Command
  pub past : Bool

-- a line is above the last line of a core, and no client's line lies between
pub record IsNext (commands : ℕ → Option Command) (core : Core) (line : ℕ) : Type 0 where
  pub above : core.progress.event_line < line
  pub next : NoneBetween commands core line

-- a line is begun by a core that goes on, and its events are those of its command
pub record IsLine (s : Script) (at : LineAt) : Type 0 where
  pub going : at.core.ended ≡ None
  pub events : AreOfLine s.name at (s.commands at.line)

-- the lines from one on, each behind the one before; the last may be cut short
abbrev pub AreLines : Script → ℕ → Core → List Events → Type 0
AreLines s line core [] = Unit {0}
AreLines s line core (es ∷ []) = IsLine s (record { line = line; core = core; events = es; whole = s.past })
AreLines s line core (es ∷ next ∷ rest) =
    IsLine s (record { line = line; core = core; events = es; whole = true }) × AreLines s (line + 1) (steps core es) (next ∷ rest)

-- the events of all lines
abbrev pub all_events : List Events → Events
all_events [] = []
all_events (es ∷ rest) = es ++ all_events rest
