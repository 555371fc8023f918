-- The events of a line of a script, by its command.
use Rattle.std.specs.Prelude.{Bool, List, None, Option, Some, [], false, true, ℕ, ◌∷◌, ◌≡◌}
use Rattle.hs_core_words.specs.State.{Core}
use Rattle.hs_core_words.specs.Step.{step}
use Rattle.hs_core_words.specs.declared.event.Event.{Event}
use Rattle.hs_core_words.specs.declared.event.Event.TheVariants as event
use Rattle.hs_limits.specs.declared.address.Address.{Address}
use Rattle.hs_model.specs.declared.command.Command.{Command}
use Rattle.hs_model.specs.declared.command.Command.TheVariants as command
use Rattle.hs_events.specs.Asked.{addressed}
use Rattle.hs_events.specs.declared.due.Due.{Due}
use Rattle.hs_events.specs.Due.{Events, is_one, is_walk, next_due, turn_behind}

-- a line of a script: its number, the core at which it is begun, its events, and whether it was gone past
pub record LineAt : Type 0 where
  pub line : ℕ
  pub core : Core
  pub events : Events
  pub whole : Bool

-- the events are this one, and then what is due behind it; or none yet
abbrev pub BeginsWith : LineAt → Event → (Core → Option Due) → Type 0
BeginsWith at asked due = from at.events
  where
    from : Events → Type 0
    from [] = at.whole ≡ false
    from (e ∷ es) = (e.0 ≡ asked) × (is_one (due (step e.0 e.1 at.core)) at.whole at.line (step e.0 e.1 at.core) es ≡ true)

-- the event that a line asks for, with its own operation and the address of its block, and for a turn the turn; for `settle` what is due, to the end
abbrev pub AreOfCommand : (List ℕ → Address) → LineAt → Command → Type 0
AreOfCommand name at (command.Client o) = BeginsWith at (event.Line at.line (addressed name at.core.sessions o)) (λ core. None)
AreOfCommand name at command.Settle = is_walk next_due at.whole at.line at.core at.events ≡ true
AreOfCommand name at (command.Turn peer) = BeginsWith at (event.Turn at.line peer) (turn_behind peer)
AreOfCommand name at (command.Nudge peer) = BeginsWith at (event.Nudge at.line peer) (λ core. None)
AreOfCommand name at (command.Deliver message) = BeginsWith at (event.Deliver at.line message) (λ core. None)
AreOfCommand name at (command.Lose message) = BeginsWith at (event.Lose at.line message) (λ core. None)
AreOfCommand name at (command.Repeat message) = BeginsWith at (event.Repeat at.line message) (λ core. None)
AreOfCommand name at (command.Fail peer) = BeginsWith at (event.Fail at.line peer) (λ core. None)
AreOfCommand name at (command.Start peer) = BeginsWith at (event.Start at.line peer) (λ core. None)
AreOfCommand name at (command.Reclaim peer) = ⊥

-- a line that says nothing has no events
abbrev pub AreOfLine : (List ℕ → Address) → LineAt → Option Command → Type 0
AreOfLine name at None = at.events ≡ []
AreOfLine name at (Some c) = AreOfCommand name at c

-- ---- kinds of lines

-- a line that asks to reclaim a disk is not served yet
abbrev pub is_served : Command → Bool
is_served (command.Client o) = true
is_served command.Settle = true
is_served (command.Turn peer) = true
is_served (command.Nudge peer) = true
is_served (command.Deliver message) = true
is_served (command.Lose message) = true
is_served (command.Repeat message) = true
is_served (command.Fail peer) = true
is_served (command.Start peer) = true
is_served (command.Reclaim peer) = false

-- turns and `settle` are handed to the disks, and nothing else is
abbrev pub uses_disks : Command → Bool
uses_disks (command.Client o) = false
uses_disks command.Settle = true
uses_disks (command.Turn peer) = true
uses_disks (command.Nudge peer) = false
uses_disks (command.Deliver message) = false
uses_disks (command.Lose message) = false
uses_disks (command.Repeat message) = false
uses_disks (command.Fail peer) = false
uses_disks (command.Start peer) = false
uses_disks (command.Reclaim peer) = false
