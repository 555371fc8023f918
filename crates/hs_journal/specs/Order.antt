-- In which order a journal's entries stand.
use Rattle.std.specs.Prelude.{◌≡◌, ℕ, ◌<◌, ◌≤◌, List, Option, Some, None, IsSome, slice_get}
use Rattle.hs_model.specs.declared.command.Command.{Command}
use Rattle.hs_model.specs.Op as naming
use Rattle.hs_model.specs.declared.op.Op.{Op}
use Rattle.hs_model.specs.declared.op.Op.TheVariants as op
use Rattle.hs_model.specs.declared.reply.Reply.TheVariants as reply
use Rattle.hs_journal.specs.declared.entry.JournalEntry.{JournalEntry}
use Rattle.hs_journal.specs.declared.entry.Who.TheVariants as who
use Rattle.hs_journal.specs.Events.{client_op}

-- place i has this entry
abbrev pub IsAt : List JournalEntry → ℕ → JournalEntry → Type 0
IsAt entries i entry = slice_get entries i ≡ Some entry

-- place i has an entry of line n
pub record IsOfLine (entries : List JournalEntry) (i n : ℕ) : Type 0 where
  pub entry : JournalEntry
  pub at : IsAt entries i entry
  pub line : entry.who ≡ who.Line n

-- the session of a client's operation, where it has one
abbrev pub session_of : Option Op → Option (List ℕ)
session_of None = None
session_of (Some o) = naming.session_of o

-- the operation opens a session
abbrev pub IsOpen : Option Op → Type 0
IsOpen (Some (op.Open name)) = Unit {0}
IsOpen other = ⊥

-- an operation that is answered in its own event
abbrev pub IsPrompt : Option Op → Type 0
IsPrompt (Some (op.Open name)) = Unit {0}
IsPrompt (Some (op.Close name)) = Unit {0}
IsPrompt (Some (op.Look name key)) = Unit {0}
IsPrompt (Some (op.Forget name handle)) = Unit {0}
IsPrompt (Some (op.Name name handle)) = Unit {0}
IsPrompt (Some op.Stat) = Unit {0}
IsPrompt other = ⊥

-- a line below line k, of its session, has no entry before place i
pub record IsWaiting (commands : ℕ → Option Command) (entries : List JournalEntry) (i k line : ℕ) : Type 0 where
  pub earlier : line < k
  pub same_session : session_of (client_op (commands line)) ≡ session_of (client_op (commands k))
  pub unanswered : (j : ℕ) → j < i → IsOfLine entries j line → ⊥

-- in which order entries stand
-- named: an entry of a line names a line of the script that has a command
-- once: no two entries name the same line
-- alone: beside an entry of a session's line, at most one earlier line of the session is without its answer
-- busy: where there is one, the line is refused as busy with it
-- only_busy: and no line is refused as busy with anything else
-- prompt: a line that is answered in its own event has its entry before those of all later lines
-- prompt_busy: so has one that is refused as busy
-- moments: moments never fall
pub record IsOrdered (commands : ℕ → Option Command) (entries : List JournalEntry) : Type 0 where
  pub named : (i n : ℕ) → IsOfLine entries i n → IsSome (commands n)
  pub once : (i j n : ℕ) → IsOfLine entries i n → IsOfLine entries j n → i ≡ j
  pub alone : (i k : ℕ) (session : List ℕ) → IsOfLine entries i k → session_of (client_op (commands k)) ≡ Some session → (IsOpen (client_op (commands k)) → ⊥)
      → (l m : ℕ) → IsWaiting commands entries i k l → IsWaiting commands entries i k m → l ≡ m
  pub busy : (i k : ℕ) (session : List ℕ) (entry : JournalEntry) → IsAt entries i entry → entry.who ≡ who.Line k → session_of (client_op (commands k)) ≡ Some session → (IsOpen (client_op (commands k)) → ⊥)
      → (l : ℕ) → IsWaiting commands entries i k l → entry.reply ≡ reply.Busy l
  pub only_busy : (i k l : ℕ) (entry : JournalEntry) → IsAt entries i entry → entry.who ≡ who.Line k → entry.reply ≡ reply.Busy l
      → (session : List ℕ) × (session_of (client_op (commands k)) ≡ Some session) × (IsOpen (client_op (commands k)) → ⊥) × IsWaiting commands entries i k l
  pub prompt : (i j k n : ℕ) → IsOfLine entries i k → IsPrompt (client_op (commands k)) → IsOfLine entries j n → k < n → i < j
  pub prompt_busy : (i j k n l : ℕ) (entry : JournalEntry) → IsAt entries i entry → entry.who ≡ who.Line k → entry.reply ≡ reply.Busy l → IsOfLine entries j n → k < n → i < j
  pub moments : (i j : ℕ) (first second : JournalEntry) → IsAt entries i first → IsAt entries j second → i ≤ j → first.moment ≤ second.moment
