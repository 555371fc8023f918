-- Entries by number, none twice.
use Rattle.std.specs.Prelude.{◌≡◌, ℕ, List, [], ◌∷◌, None}
use Rattle.std.specs.BTreeMap.{is_at}
use Rattle.std.specs.Map.{lookup}
use Rattle.std.specs.Ordering.{nat_cmp}

abbrev pub Apart : {V : Type 0} → List (ℕ × V) → Type 0
Apart [] = Unit {0}
Apart (e ∷ es) = (lookup (is_at (nat_cmp e.0)) es ≡ None) × Apart es
