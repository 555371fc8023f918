-- What the words of the command line ask for.
use Rattle.std.specs.Option.{option_and_then, option_map}
use Rattle.std.specs.Prelude.{Bool, List, None, Option, Some, [], bytes_eq, codes, false, if◌then◌else◌, true, ℕ, ◌∷◌}
use Rattle.hs_limits.specs.declared.shape.Shape.{Shape}
use Rattle.hs_script.specs.CommandLine.{invocation_of, invocation_on}
use Rattle.hs_script.specs.declared.invocation.Invocation.{Invocation}
use Rattle.hs_script.specs.declared.invocation.Task.{Task}
use Rattle.hs_script.specs.declared.invocation.Task.TheVariants as task

-- a load is asked for
abbrev pub is_load_task : Task → Bool
is_load_task (task.Load seed writers files) = true
is_load_task other = false

-- what is served so far: a script without --visits, a load, an audit, a scrub, storing and fetching a file, and copying a root
abbrev pub is_served : Task → Bool
is_served (task.Script limits None cache) = true
is_served (task.Load seed writers files) = true
is_served task.Audit = true
is_served (task.Store key) = true
is_served (task.Fetch key) = true
is_served (task.Scrub from) = true
is_served (task.Copy key dir second delete) = true
is_served other = false

abbrev pub where_served : Invocation → Option Invocation
where_served asked = if is_served asked.task then Some asked else None

-- what they ask for, where it is served and is run on so many disks
abbrev pub served_on : List (List ℕ) → ℕ → Option Invocation
served_on words disks = option_and_then where_served (invocation_on words disks)

-- the shape of the store that they ask for, where it is served
abbrev pub shape_in : List (List ℕ) → Option Shape
shape_in words = option_map (λ asked. asked.shape) (option_and_then where_served (invocation_of words))

-- the first word is `load`
abbrev pub is_load : List (List ℕ) → Bool
is_load [] = false
is_load (command ∷ words) = bytes_eq command (codes "load")

-- the shape of the second store that they ask for, where they ask for a copy
abbrev pub second_of : Task → Option Shape
second_of (task.Copy key dir second delete) = Some second
second_of other = None

abbrev pub second_in : List (List ℕ) → Option Shape
second_in words = option_and_then (λ asked. second_of asked.task) (invocation_of words)
