-- Words by which changes are joined: each reads as a sentence of a program.
use Rattle.std.specs.Prelude.{ℕ, zero, suc, Bool, true, false, List, [], ◌∷◌, Option, Some, None}

infixl 3 ◌▸◌
-- x, and then f of it
abbrev pub ◌▸◌ : {A B : Type 0} → A → (A → B) → B
x ▸ f = f x

-- the same again, so many times
abbrev pub times : {A : Type 0} → ℕ → (A → A) → A → A
times zero f x = x
times (suc n) f x = times n f (f x)

-- a change where the test holds, and nothing else
abbrev pub change_if : {A : Type 0} → Bool → (A → A) → A → A
change_if true f x = f x
change_if false f x = x

-- a change by a value, where there is one
abbrev pub change_with : {A B : Type 0} → Option B → (B → A → A) → A → A
change_with None f x = x
change_with (Some y) f x = f y x

-- a change by each item in turn
abbrev pub each : {A B : Type 0} → List B → (B → A → A) → A → A
each [] f x = x
each (y ∷ ys) f x = each ys f (f y x)
