-- What the program says of words that are outside the command language.
use Rattle.std.specs.Prelude.{ℕ, if◌then◌else◌, List, [], ◌∷◌, Option, Some, None, bytes_eq, codes}
use Rattle.std.specs.List.{list_any}
use Rattle.hs_limits.specs.declared.shape.Shape.{Shape}
use Rattle.hs_top.specs.Words.{shape_in}
use Rattle.hydra.specs.declared.usage.Later.{Later}
use Rattle.hydra.specs.declared.usage.Later.TheVariants as later

-- an option that a later step serves
unfoldable pub later_option : List (List ℕ) → Option Later
later_option words =
    if list_any (λ word. bytes_eq word (codes "--visits")) words then Some later.Visits
    else None

-- an option of a script that a later step serves
unfoldable pub later_part : List ℕ → List (List ℕ) → Option Later
later_part command options = if bytes_eq command (codes "script") then later_option options else None

-- the first part of the words that a later step serves
abbrev pub later_in : List (List ℕ) → Option Later
later_in (command ∷ dir ∷ shards ∷ copies ∷ options) = later_part command options
later_in other = None

-- the line on standard error of words outside the language
abbrev pub later_text : Option Later → List ℕ
later_text None = codes "hydra: see hydra --help\n"
later_text (Some later.Visits) = codes "hydra: --visits is not served yet: see hydra --help\n"

-- the line where the words name no shape, and nothing where they name one
abbrev pub unshaped_text : Option Shape → List (List ℕ) → List ℕ
unshaped_text None words = later_text (later_in words)
unshaped_text (Some shape) words = []

abbrev pub usage_text : List (List ℕ) → List ℕ
usage_text words = unshaped_text (shape_in words) words
