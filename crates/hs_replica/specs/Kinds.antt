-- What entries are, as far as it is asked which of them wait.
use Rattle.std.specs.Prelude.{ℕ, ◌==◌, ◌&&◌, Bool, true, false}
use Rattle.hs_entry.specs.declared.entry.Entry.{Entry}
use Rattle.hs_entry.specs.declared.entry.Entry.TheVariants as kind

-- whether an entry stores a block, or puts a root
abbrev pub is_block : Entry → Bool
is_block (kind.Block line least bytes) = true
is_block other = false

abbrev pub is_root : Entry → Bool
is_root (kind.Root line held a key) = true
is_root other = false

-- whether it stores the block that this line asked for
abbrev pub stores_for : ℕ → Entry → Bool
stores_for asked (kind.Block line least bytes) = line == asked
stores_for asked other = false

-- whether it enters this epoch
abbrev pub enters : ℕ → Entry → Bool
enters next (kind.Enter line epoch) = epoch == next
enters next other = false

-- whether it is the Got of a round
abbrev pub is_got : ℕ → ℕ → ℕ → Entry → Bool
is_got from epoch round (kind.Got sender e r total deltas) = sender == from && (e == epoch && r == round)
is_got from epoch round other = false
