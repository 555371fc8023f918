-- A core whose answers are in order, and events that may come next.
use Rattle.std.specs.Prelude.{◌≡◌, ◌⊎◌, ℕ, ◌+◌, ◌<◌, ◌≤◌, ◌++◌, List, [], ◌∷◌, Option, Some, None, IsSome}
use Rattle.std.specs.Option.{option_map}
pub use Rattle.hs_anatomy.specs.Refusing.{message_refusal, refusal_in, repeat_refusal}
use Rattle.hs_core_words.specs.declared.event.Event.{Event}
use Rattle.hs_core_words.specs.declared.event.Event.TheVariants as event
use Rattle.hs_core_words.specs.State.{Core}
use Rattle.hs_core_words.specs.Step.{line_of, step}
use Rattle.hs_journal.specs.declared.entry.JournalEntry.{JournalEntry}
use Rattle.hs_journal.specs.Events.{client_op}
use Rattle.hs_journal.specs.Order.{IsOrdered, session_of}
use Rattle.hs_model.specs.declared.command.Command.{Command}
use Rattle.hs_model.specs.declared.op.Op.{Op}
use Rattle.hs_model.specs.declared.op.Op.TheVariants as op
use Rattle.hs_tokens.specs.Seats.{seat_of}
use Rattle.hs_told.specs.Apart.{Apart}
use Rattle.hs_told.specs.Part.{asking}
use Rattle.hs_told.specs.Turns.{Turns}

-- ---- a core

-- what was told, with what found the journal full
abbrev pub told_of : Core → List JournalEntry
told_of core = core.journal ++ core.refused

-- between two events: the answers are in order and each client's line up to the last line has its answer or waits; no line waits twice, and the session of each that waits is open
pub record IsInTurn (commands : ℕ → Option Command) (core : Core) : Type 0 where
  pub turns : Turns commands (core.progress.event_line + 1) core.moment (told_of core) (asking core.operations)
  pub journal : IsOrdered commands core.journal
  pub apart : Apart core.operations
  pub opened : (n : ℕ) (o : Op) (name : List ℕ) → asking core.operations n ≡ Some o → session_of (Some o) ≡ Some name → IsSome (seat_of name core.sessions)
  pub told : core.entries ≡ []
  pub going : core.ended ≡ None → core.refused ≡ []

-- ---- an event

-- an operation without the address of its block
abbrev pub bare : Op → Op
bare (op.Write name payload handles address) = op.Write name payload handles None
bare other = other

-- no client's line lies between the last line and this one
abbrev pub NoneBetween : (ℕ → Option Command) → Core → ℕ → Type 0
NoneBetween commands core line = (k : ℕ) → core.progress.event_line < k → k < line → client_op (commands k) ≡ None

-- a client's line is above the last one, and its operation is asked for
pub record ClientMay (commands : ℕ → Option Command) (core : Core) (line : ℕ) (o : Op) : Type 0 where
  pub above : core.progress.event_line < line
  pub next : NoneBetween commands core line
  pub asks : option_map bare (client_op (commands line)) ≡ Some (bare o)

-- another line, 0 where there is none, is not below the last one, and is no client's; only its first event may be refused, where it has a command
pub record OtherMay (commands : ℕ → Option Command) (core : Core) (line : ℕ) (event : Event) : Type 0 where
  pub upward : core.progress.event_line ≤ line
  pub next : NoneBetween commands core line
  pub nobody : client_op (commands line) ≡ None
  pub once : ((core.progress.event_line < line) × IsSome (commands line)) ⊎ (refusal_in event core ≡ None)

abbrev pub MayBegin : (ℕ → Option Command) → Core → Event → Type 0
MayBegin commands core (event.Line line o) = ClientMay commands core line o
MayBegin commands core (event.Report peer d) = Unit {0}
MayBegin commands core other = OtherMay commands core (line_of other) other

-- an event may come at a moment
pub record MayCome (commands : ℕ → Option Command) (core : Core) (event : Event) (moment : ℕ) : Type 0 where
  pub later : core.moment ≤ moment
  pub begins : MayBegin commands core event

-- ---- events

abbrev pub after_all : Core → List (Event × ℕ) → Core
after_all core [] = core
after_all core (e ∷ es) = after_all (step e.0 e.1 core) es

-- each may come where it comes, as long as the core goes on
abbrev pub AllMayCome : (ℕ → Option Command) → Core → List (Event × ℕ) → Type 0
AllMayCome commands core [] = Unit {0}
AllMayCome commands core (e ∷ es) = (core.ended ≡ None → MayCome commands core e.0 e.1) × AllMayCome commands (step e.0 e.1 core) es
