-- In which order answers come.
use Rattle.std.specs.Prelude.{◌≡◌, ◌⊎◌, ℕ, ◌<◌, ◌≤◌, List, Option, Some, IsSome}
use Rattle.hs_journal.specs.declared.entry.JournalEntry.{JournalEntry}
use Rattle.hs_journal.specs.Events.{client_op}
use Rattle.hs_journal.specs.Order.{IsAt, IsOfLine, IsOrdered, IsPrompt, session_of}
use Rattle.hs_model.specs.declared.command.Command.{Command}
use Rattle.hs_model.specs.declared.op.Op.{Op}

-- an operation that waits is of its line's session, and neither is answered in its own event
pub record IsFor (command : Option Command) (o : Op) : Type 0 where
  pub named : IsSome command
  pub same : session_of (client_op command) ≡ session_of (Some o)
  pub slow : IsPrompt (client_op command) → ⊥
  pub waits : IsPrompt (Some o) → ⊥

-- each client's line below a bound has its answer or waits, and none has both; no session has two that wait; the answers are in order, up to a moment
pub record Turns (commands : ℕ → Option Command) (bound moment : ℕ) (entries : List JournalEntry) (waits : ℕ → Option Op) : Type 0 where
  pub ordered : IsOrdered commands entries
  pub begun : (i n : ℕ) → IsOfLine entries i n → n < bound
  pub until : (i : ℕ) (entry : JournalEntry) → IsAt entries i entry → entry.moment ≤ moment
  pub below : (n : ℕ) (o : Op) → waits n ≡ Some o → n < bound
  pub unanswered : (n : ℕ) (o : Op) → waits n ≡ Some o → (i : ℕ) → IsOfLine entries i n → ⊥
  pub each : (k : ℕ) (o : Op) → k < bound → client_op (commands k) ≡ Some o → ((i : ℕ) × IsOfLine entries i k) ⊎ ((p : Op) × (waits k ≡ Some p))
  pub asked : (n : ℕ) (o : Op) → waits n ≡ Some o → IsFor (commands n) o
  pub alone : (m n : ℕ) (o p : Op) (name : List ℕ) → waits m ≡ Some o → waits n ≡ Some p → session_of (Some o) ≡ Some name → session_of (Some p) ≡ Some name → m ≡ n
