-- Lists of entries with their views, and how they stand to each other.
use Rattle.std.specs.Prelude.{◌≡◌, ◌≢◌, ◌⊎◌, ℕ, ◌<◌, ◌≤◌, List, [], ◌∷◌, length}
use Rattle.hs_entry.specs.declared.rank.Rank.{Rank}

-- an entry with the view in which it was proposed
pub record Item (X : Type 0) : Type 0 where
  pub view : ℕ
  pub what : X

-- is it one of them?
abbrev pub IsAmong : {X : Type 0} → X → List X → Type 0
IsAmong x [] = ⊥
IsAmong x (y ∷ ys) = (x ≡ y) ⊎ IsAmong x ys

-- the first list stands at the front of the second
abbrev pub IsFront : {X : Type 0} → List X → List X → Type 0
IsFront [] ys = Unit {0}
IsFront (x ∷ xs) [] = ⊥
IsFront (x ∷ xs) (y ∷ ys) = (x ≡ y) × IsFront xs ys

-- all are of a view below this one
abbrev pub AreBelow : {X : Type 0} → ℕ → List (Item X) → Type 0
AreBelow v [] = Unit {0}
AreBelow v (x ∷ xs) = (x.view < v) × AreBelow v xs

-- the views never fall, and none is below this one
abbrev pub Rises : {X : Type 0} → ℕ → List (Item X) → Type 0
Rises v [] = Unit {0}
Rises v (x ∷ xs) = (v ≤ x.view) × Rises x.view xs

-- the list follows the log, and where it leaves it the log has a view above all that is left of the list
abbrev pub IsBehind : {X : Type 0} → List (Item X) → List (Item X) → Type 0
IsBehind [] log = Unit {0}
IsBehind (y ∷ ys) [] = ⊥
IsBehind (y ∷ ys) (l ∷ log) = ((y ≡ l) × IsBehind ys log) ⊎ AreBelow l.view (y ∷ ys)

-- at no place have both an item of one view
abbrev pub AreApart : {X : Type 0} → List (Item X) → List (Item X) → Type 0
AreApart [] ys = Unit {0}
AreApart (x ∷ xs) [] = Unit {0}
AreApart (x ∷ xs) (y ∷ ys) = (x.view ≢ y.view) × AreApart xs ys

-- the lists are one up to their first difference, and from there on their views differ at each place
abbrev pub Agree : {X : Type 0} → List (Item X) → List (Item X) → Type 0
Agree [] ys = Unit {0}
Agree (x ∷ xs) [] = Unit {0}
Agree (x ∷ xs) (y ∷ ys) = ((x ≡ y) × Agree xs ys) ⊎ AreApart (x ∷ xs) (y ∷ ys)

-- the view of the last item, or this one where there is none
abbrev pub end_view : {X : Type 0} → ℕ → List (Item X) → ℕ
end_view v [] = v
end_view v (x ∷ xs) = end_view x.view xs

-- of ranks the view counts first, and then the number
abbrev pub IsAtMost : Rank → Rank → Type 0
IsAtMost a b = (a.view < b.view) ⊎ ((a.view ≡ b.view) × (a.number ≤ b.number))

-- the rank of a list by its stamps: the view of its last item, and its length
abbrev pub rank_by_stamps : {X : Type 0} → List (Item X) → Rank
rank_by_stamps xs = record { view = end_view 0 xs; number = length xs }
