-- What a reader holds.
use Rattle.std.specs.Prelude.{◌≡◌, ℕ, ◌+◌, ◌-◌, ◌≤◌, Bool, true, false, List, [], ◌∷◌, length, take, drop, Option, IfSome}
use Rattle.std.specs.Option.{option_map}
use Rattle.hs_ports.specs.Source.{before}
use Rattle.hs_script.specs.Lines.{lines_of}
use Rattle.hs_script.specs.Scripts.{complete_lines}
use Rattle.hs_run.specs.declared.reader.Reader.{Reader}

-- the current line
abbrev pub line_of : Reader → List ℕ
line_of r = take (r.end - r.start) (drop r.start r.buffer.items)

-- what the reader holds behind the current line
abbrev pub held_of : Reader → List ℕ
held_of r = drop r.rest r.buffer.items

-- what it holds and then what the source has left, where that is told
abbrev pub pending : Reader → Option (List ℕ) → Option (List ℕ)
pending r left = before (held_of r) left

-- the lines of what the reader holds and then of what the source has left, where it tells that
abbrev pub left_lines : Reader → Option (List ℕ) → Option (List (List ℕ))
left_lines r left = option_map lines_of (before (drop r.rest r.buffer.items) left)

-- how many bytes it may still take, and those that it holds
abbrev pub cost : Reader → ℕ
cost r = r.budget + (length r.buffer.items - r.rest)

-- the first of the lines was read, or there is none
abbrev pub Reads : Bool → Option (List (List ℕ)) → List ℕ → Option (List (List ℕ)) → Type 0
Reads true before line after = before ≡ option_map (λ lines. line ∷ lines) after
Reads false before line after = before ≡ option_map (λ lines. []) after

-- count bytes were read: the current line and, but for a last line without one, its line feed
pub record Spends (ended : Bool) (pending pending' : Option (List ℕ)) (cost cost' count : ℕ) : Type 0 where
  pub moved : pending' ≡ option_map (λ all. drop count all) pending
  pub spent : cost' + count ≡ cost
  pub within : IfSome pending (λ all. count ≤ length all)
  pub one : ended ≡ false → IfSome pending (λ all. complete_lines (take count all) ≡ 1)
