-- Whether what an asker asked for was answered.
use Rattle.std.specs.Prelude.{IsSome, None, Some, ℕ, ◌<◌, ◌≡◌}
use Rattle.hs_asker.specs.Going.{Inside}
use Rattle.hs_asker.specs.Lines.{command_at}
use Rattle.hs_journal.specs.Events.{client_op}
use Rattle.hs_journal.specs.Order.{IsOfLine}
use Rattle.hs_model.specs.declared.command.Command.TheVariants as command

-- while it goes on, each operation of a line before a settle has its entry
abbrev pub SettlesAsks : Inside → Type 0
SettlesAsks s =
    s.ended ≡ None → (line n : ℕ) → command_at s.said line ≡ Some command.Settle → n < line → IsSome (client_op (command_at s.said n)) → (place : ℕ) × IsOfLine s.cluster.core.journal place n
