-- Operations by line, where no line has two, and what one waits for that may go on.
use Rattle.std.specs.BTreeMap.{is_at}
use Rattle.std.specs.Map.{lookup}
use Rattle.std.specs.Ordering.{nat_cmp}
use Rattle.std.specs.Prelude.{◌≡◌, ℕ, List, [], ◌∷◌, None}
use Rattle.hs_awaiting.specs.declared.wait.Wait.{Wait}
use Rattle.hs_awaiting.specs.declared.wait.Wait.TheVariants as wait

-- no key stands in a map twice
abbrev pub AreOnce : {X : Type 0} → List (ℕ × X) → Type 0
AreOnce [] = Unit {0}
AreOnce (e ∷ es) = (lookup (is_at (nat_cmp e.0)) es ≡ None) × AreOnce es

-- what is waited for is no entry
abbrev pub IsIdle : Wait → Type 0
IsIdle wait.View = Unit {0}
IsIdle wait.Address = Unit {0}
IsIdle wait.Room = Unit {0}
IsIdle (wait.Bytes number) = Unit {0}
IsIdle (wait.Entry number) = ⊥
