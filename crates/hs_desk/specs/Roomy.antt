-- Words of a list that takes room beforehand.
use Rattle.std.specs.Prelude.{List, [], ◌∷◌, Option, Some, None}

-- an item where there is one
abbrev pub option_list : {T : Type 0} → Option T → List T
option_list None = []
option_list (Some x) = x ∷ []
