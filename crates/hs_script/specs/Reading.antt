-- What a line of a script says.
use Rattle.std.specs.Prelude.{ℕ, ◌==◌, if◌then◌else◌, List, [], ◌∷◌, length, Option, Some, None, bytes_eq, codes, nat_lt}
use Rattle.std.specs.Option.{option_zip}
use Rattle.hs_model.specs.declared.command.Command.{Command}
use Rattle.hs_model.specs.declared.command.Command.TheVariants as command
use Rattle.hs_model.specs.declared.op.Op.TheVariants as op
use Rattle.hs_script.specs.declared.read.TheConstants.{LONGEST_LINE}
use Rattle.hs_script.specs.Lines.{lines_of, line_at, words_of}
use Rattle.hs_script.specs.Parts.{name_of, key_of, peer_number, message_number, handle_of, handles_of, payload_of}

-- a line is outside the language, or blank or a comment, or says a command
pub data Reading : Type 0 where
  bad : Reading
  blank : Reading
  says : Command → Reading

-- the command of what some words give, and a bad line where they give nothing
abbrev pub says_by : {A : Type 0} → (A → Command) → Option A → Reading
says_by f None = bad
says_by f (Some x) = says (f x)

-- ---- the words behind a verb

-- there are none
abbrev pub no_word : List (List ℕ) → Option (Unit {0})
no_word [] = Some tt
no_word words = None

-- there is one, and it gives this
abbrev pub only : {A : Type 0} → (List ℕ → Option A) → List (List ℕ) → Option A
only part (word ∷ []) = part word
only part words = None

-- the first gives this, and those behind it give that
abbrev pub leading : {A B : Type 0} → (List ℕ → Option A) → (List (List ℕ) → Option B) → List (List ℕ) → Option (A × B)
leading part parts [] = None
leading part parts (word ∷ words) = option_zip (part word) (parts words)

-- ---- the table of lines: each verb, and what the words behind it say

-- the lines that drive the store
unfoldable pub driving_line : List ℕ → List (List ℕ) → Reading
driving_line verb words =
    if bytes_eq verb (codes "settle") then says_by (λ none. command.Settle) (no_word words)
    else if bytes_eq verb (codes "turn") then says_by (λ peer. command.Turn peer) (only peer_number words)
    else if bytes_eq verb (codes "nudge") then says_by (λ peer. command.Nudge peer) (only peer_number words)
    else if bytes_eq verb (codes "deliver") then says_by (λ k. command.Deliver k) (only message_number words)
    else if bytes_eq verb (codes "lose") then says_by (λ k. command.Lose k) (only message_number words)
    else if bytes_eq verb (codes "repeat") then says_by (λ k. command.Repeat k) (only message_number words)
    else if bytes_eq verb (codes "fail") then says_by (λ peer. command.Fail peer) (only peer_number words)
    else if bytes_eq verb (codes "start") then says_by (λ peer. command.Start peer) (only peer_number words)
    else if bytes_eq verb (codes "reclaim") then says_by (λ peer. command.Reclaim peer) (only peer_number words)
    else bad

-- the lines on which a client asks, and then the others
unfoldable pub line_of : List ℕ → List (List ℕ) → Reading
line_of verb words =
    if bytes_eq verb (codes "open") then says_by (λ s. command.Client (op.Open s)) (only name_of words)
    else if bytes_eq verb (codes "close") then says_by (λ s. command.Client (op.Close s)) (only name_of words)
    else if bytes_eq verb (codes "write") then says_by (λ p. command.Client (op.Write p.0 p.1.0 p.1.1 None)) (leading name_of (leading payload_of handles_of) words)
    else if bytes_eq verb (codes "read") then says_by (λ p. command.Client (op.Read p.0 p.1)) (leading name_of (only handle_of) words)
    else if bytes_eq verb (codes "look") then says_by (λ p. command.Client (op.Look p.0 p.1)) (leading name_of (only key_of) words)
    else if bytes_eq verb (codes "root") then says_by (λ p. command.Client (op.Root p.0 p.1.0 p.1.1)) (leading name_of (leading key_of (only handle_of)) words)
    else if bytes_eq verb (codes "drop") then says_by (λ key. command.Client (op.Drop key)) (only key_of words)
    else if bytes_eq verb (codes "forget") then says_by (λ p. command.Client (op.Forget p.0 p.1)) (leading name_of (only handle_of) words)
    else if bytes_eq verb (codes "name") then says_by (λ p. command.Client (op.Name p.0 p.1)) (leading name_of (only handle_of) words)
    else if bytes_eq verb (codes "delete") then says_by (λ none. command.Client op.Delete) (no_word words)
    else if bytes_eq verb (codes "stat") then says_by (λ none. command.Client op.Stat) (no_word words)
    else driving_line verb words

-- the command of a line's words: its verb is the first
abbrev pub command_of : List (List ℕ) → Reading
command_of [] = bad
command_of (verb ∷ words) = line_of verb words

-- ---- a line

-- an empty line and one that begins with # say nothing
abbrev pub reading_of : List ℕ → Reading
reading_of [] = blank
reading_of (first ∷ rest) = if first == 35 then blank else command_of (words_of (first ∷ rest))

-- a line of more bytes than the longest is outside the language, whatever it says
unfoldable pub reading : List ℕ → Reading
reading line = if nat_lt LONGEST_LINE (length line) then bad else reading_of line

-- ---- scripts

-- the command that a reading has
abbrev pub command_in : Reading → Option Command
command_in bad = None
command_in blank = None
command_in (says c) = Some c

abbrev pub command_at : Option (List ℕ) → Option Command
command_at None = None
command_at (Some line) = command_in (reading line)

-- the command of the line of a number
abbrev pub commands_of : List (List ℕ) → ℕ → Option Command
commands_of lines n = command_at (line_at lines n)

-- the commands of a script by the number of their line
abbrev pub commands : List ℕ → ℕ → Option Command
commands script n = commands_of (lines_of script) n
