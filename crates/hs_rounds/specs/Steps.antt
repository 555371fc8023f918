-- What single steps of a call do, for private clauses.
use Rattle.std.specs.Option.{option_map_or}
use Rattle.std.specs.Prelude.{ℕ, ◌-◌, ◌++◌, ◌==◌, ◌&&◌, Bool, false, List, [], ◌∷◌, length, take, drop}
use Rattle.hs_rounds.specs.declared.place.Place.{Place}
use Rattle.hs_rounds.specs.Rounds.{GotList, Run, is_before}

-- whether a place is of the open round
abbrev pub is_open : Place → Run → Bool
is_open place run = option_map_or (λ at. place.epoch == at.0 && place.round == at.1) run.opened false

-- whether the first is of an earlier round
abbrev pub starts_before : ℕ → ℕ → GotList → Bool
starts_before epoch round [] = false
starts_before epoch round (e ∷ es) = is_before epoch round e.0

-- a list with its last so many items at this place
abbrev pub moved : {A : Type 0} → ℕ → ℕ → List A → List A
moved at more xs = take at xs ++ (drop (length (drop at xs) - more) (drop at xs) ++ take (length (drop at xs) - more) (drop at xs))
