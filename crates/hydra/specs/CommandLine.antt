-- What the words of the command line ask for.
use Rattle.std.specs.Prelude.{◌≡◌, ℕ, ◌+◌, ◌*◌, if◌then◌else◌, List, [], ◌∷◌, None, Option, bytes_eq, codes}
use Rattle.std.specs.Option.{option_map_or}
use Rattle.hs_limits.specs.declared.shape.Shape.{Shape}
use Rattle.hs_top.specs.Words.{second_in, shape_in}
use Rattle.hydra.specs.declared.command_line.Request.{Request}
use Rattle.hydra.specs.declared.command_line.Request.TheVariants.{Help, Version, Run}

-- `--help` or `--version` alone asks for a text, and all else for a run
abbrev pub request_in : List (List ℕ) → Request
request_in (word ∷ []) =
    if bytes_eq word (codes "--help") then Help else (if bytes_eq word (codes "--version") then Version else Run)
request_in words = Run

-- they ask for a run, and are outside the command language
pub record IsFaulty (words : List (List ℕ)) : Type 0 where
  pub run : request_in words ≡ Run
  pub no_shape : shape_in words ≡ None

-- how many peers a store of a shape has, and 0 where there is none
abbrev pub peers_of : Option Shape → ℕ
peers_of shape = option_map_or (λ shape. shape.shards * shape.copies) shape 0

-- how many peers the stores have that they name: one, or two where a root is copied
abbrev pub peers_in : List (List ℕ) → ℕ
peers_in words = peers_of (shape_in words) + peers_of (second_in words)
