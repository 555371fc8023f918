-- How far a script was read.
use Rattle.std.specs.Prelude.{Bool, List, Option, Some, drop, false, length, take, ℕ, ◌-◌, ◌≡◌, ◌≤◌}
use Rattle.hs_script.specs.Lines.{lines_of}
use Rattle.hs_script.specs.Scripts.{IsBad, complete_lines, input_limit}

-- the first n lines of a script were read; pending is what is left of it, and cost how many bytes may still come or are held
pub record IsReadThrough (script : List ℕ) (pending : Option (List ℕ)) (cost : ℕ) (ended : Bool) (n : ℕ) : Type 0 where
  pub left : pending ≡ Some (drop (input_limit - cost) script)
  pub low : cost ≤ input_limit
  pub high : input_limit - cost ≤ length script
  pub lines : lines_of (drop (input_limit - cost) script) ≡ drop n (lines_of script)
  pub complete : ended ≡ false → complete_lines (take (input_limit - cost) script) ≡ n
  pub within : n ≤ length (lines_of script)
  pub good : (k : ℕ) → k ≤ n → IsBad (lines_of script) k → ⊥
