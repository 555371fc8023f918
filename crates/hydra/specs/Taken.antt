-- What the program says where another run has the folder.
use Rattle.std.specs.Prelude.{ℕ, Bool, true, false, List, [], codes}

-- the line on standard error, where another run has a disk of the folder
abbrev pub taken_text : Bool → List ℕ
taken_text true = codes "hydra: another run has the folder\n"
taken_text false = []
