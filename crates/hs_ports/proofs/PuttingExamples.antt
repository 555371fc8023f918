-- What a sink got by a moment.
use Rattle.std.specs.Prelude.{◌≡◌, refl, [], ◌∷◌, Some}
use Rattle.hs_ports.specs.Putting.{got_by}

-- what was put at the moment counts
what_was_got : got_by 2 (Some ((7, 1) ∷ (8, 2) ∷ (9, 3) ∷ [])) ≡ Some ((7, 1) ∷ (8, 2) ∷ [])
what_was_got = refl
