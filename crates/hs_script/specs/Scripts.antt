-- Lines of a script that are bad or complete, and how many bytes it may have.
use Rattle.std.specs.Prelude.{Bool, List, Some, bytes_eq, codes, count_by, false, true, ℕ, ◌==◌, ◌≡◌}
use Rattle.hs_model.specs.declared.command.Command.{Command}
use Rattle.hs_model.specs.declared.command.Command.TheVariants as command
use Rattle.hs_script.specs.Lines.{line_at}
use Rattle.hs_script.specs.Reading.{Reading, bad, blank, reading, says}

-- how many bytes a script may have
abbrev pub input_limit : ℕ
input_limit = 4294967296

-- a line that asks to reclaim a disk, which is not served yet
abbrev pub is_unserved : Command → Bool
is_unserved (command.Client o) = false
is_unserved command.Settle = false
is_unserved (command.Turn peer) = false
is_unserved (command.Nudge peer) = false
is_unserved (command.Deliver message) = false
is_unserved (command.Lose message) = false
is_unserved (command.Repeat message) = false
is_unserved (command.Fail peer) = false
is_unserved (command.Start peer) = false
is_unserved (command.Reclaim peer) = true

-- a line is outside the language, or not served
abbrev pub is_bad : Reading → Bool
is_bad bad = true
is_bad blank = false
is_bad (says c) = is_unserved c

-- such is the line of a number
pub record IsBad (lines : List (List ℕ)) (n : ℕ) : Type 0 where
  pub line : List ℕ
  pub at : line_at lines n ≡ Some line
  pub outside : is_bad (reading line) ≡ true

-- how many lines of some bytes are complete
abbrev pub complete_lines : List ℕ → ℕ
complete_lines bytes = count_by (λ byte. byte == 10) bytes

-- how many lines of a script are `delete`
abbrev pub delete_count : List (List ℕ) → ℕ
delete_count lines = count_by (λ line. bytes_eq line (codes "delete")) lines
