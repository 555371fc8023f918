-- Lists whose entries are numbered one after another.
use Rattle.std.specs.Prelude.{◌≡◌, ℕ, ◌+◌, false, List, [], ◌∷◌}
use Rattle.hs_entry.specs.declared.entry.Entry.{Entry}
use Rattle.hs_entry.specs.Entries.{rank_of, is_of_base}

-- the number of the last entry
abbrev pub last_of : List (ℕ × Entry) → ℕ
last_of entries = (rank_of entries).number

-- there is no Base, and the numbers go on by one behind this one
abbrev pub GoOn : ℕ → List (ℕ × Entry) → Type 0
GoOn number [] = Unit {0}
GoOn number (e ∷ es) = (e.0 ≡ number + 1) × (is_of_base e.1 ≡ false) × GoOn (number + 1) es

-- so from 1 on
abbrev pub IsNumbered : List (ℕ × Entry) → Type 0
IsNumbered entries = GoOn 0 entries
