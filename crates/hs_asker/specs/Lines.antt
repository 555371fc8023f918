-- The lines of an asker, and what was asked for by them.
use Rattle.std.specs.List.{filter_map}
use Rattle.std.specs.Prelude.{Bool, List, None, Option, Some, [], false, if◌then◌else◌, true, ℕ, ◌-◌, ◌==◌, ◌∷◌, ◌≡◌}
use Rattle.hs_journal.specs.Events.{client_op}
use Rattle.hs_model.specs.declared.command.Command.{Command}
use Rattle.hs_model.specs.declared.command.Command.TheVariants as command
use Rattle.hs_model.specs.declared.op.Op.{Op}

-- a line that has peers do what is due: a turn, or a settle
abbrev pub drives : Command → Bool
drives (command.Client o) = false
drives command.Settle = true
drives (command.Turn peer) = true
drives (command.Nudge peer) = false
drives (command.Deliver message) = false
drives (command.Lose message) = false
drives (command.Repeat message) = false
drives (command.Fail peer) = false
drives (command.Start peer) = false
drives (command.Reclaim peer) = false

abbrev pub IsDriving : Command → Type 0
IsDriving c = drives c ≡ true

-- a line of an asker is an operation's, or drives
abbrev pub IsOfAsker : Command → Type 0
IsOfAsker (command.Client o) = Unit {0}
IsOfAsker other = IsDriving other

-- the operations that some lines ask for, in order
abbrev pub ops_of : List Command → List Op
ops_of said = filter_map (λ c. client_op (Some c)) said

-- the command of the line of a number, from 1, where there is one
abbrev pub command_at : List Command → ℕ → Option Command
command_at [] n = None
command_at (c ∷ cs) n = if n == 1 then Some c else command_at cs (n - 1)

-- some commands have these as their first lines
abbrev pub AreAsked : (ℕ → Option Command) → List Command → Type 0
AreAsked commands said = (n : ℕ) (c : Command) → command_at said n ≡ Some c → commands n ≡ Some c
