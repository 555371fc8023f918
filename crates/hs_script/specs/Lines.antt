-- A script as bytes: its lines, and the words of a line.
use Rattle.std.specs.Prelude.{ℕ, ◌-◌, ◌==◌, if◌then◌else◌, List, [], ◌∷◌, Option, None, slice_get}

-- a byte before the first of some pieces, or a piece of its own where there is none
abbrev pub before_first : ℕ → List (List ℕ) → List (List ℕ)
before_first byte [] = (byte ∷ []) ∷ []
before_first byte (piece ∷ pieces) = (byte ∷ piece) ∷ pieces

-- the lines of a script: each ends at a line feed, which the last may lack
unfoldable pub lines_of : List ℕ → List (List ℕ)
lines_of [] = []
lines_of (byte ∷ bytes) = if byte == 10 then [] ∷ lines_of bytes else before_first byte (lines_of bytes)

-- the words of a line: each space ends one, and the end of the line the last
unfoldable pub words_of : List ℕ → List (List ℕ)
words_of [] = [] ∷ []
words_of (byte ∷ bytes) = if byte == 32 then [] ∷ words_of bytes else before_first byte (words_of bytes)

-- the line of a number, from 1, where there is one
abbrev pub line_at : List (List ℕ) → ℕ → Option (List ℕ)
line_at lines n = if n == 0 then None else slice_get lines (n - 1)
