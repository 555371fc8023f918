-- The list of all calls that changed a side.
use Rattle.std.specs.Prelude.{List, [], ◌∷◌}
use Rattle.hs_ports.specs.declared.history.Newest.{Newest}
use Rattle.hs_ports.specs.declared.history.Newest.TheVariants.{Nothing, Call}
use Rattle.hs_ports.specs.Called.{Called, told}

-- the newest call, and then those before it
abbrev pub calls : Newest → List Called
calls Nothing = []
calls (Call change kept older) = told change.value kept ∷ older.value
