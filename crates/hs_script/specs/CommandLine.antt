-- The words of a command line, and what they ask for: the commands with what stands behind R, and the options of each.
use Rattle.std.specs.List.{list_any}
use Rattle.std.specs.Option.{option_and_then, option_map}
use Rattle.std.specs.Prelude.{Bool, List, None, Option, Some, [], bytes_eq, codes, false, find, if◌then◌else◌, length, map, nat_le, nat_lt, true, ℕ, ◌&&◌, ◌*◌, ◌+◌, ◌==◌, ◌∷◌}
use Rattle.hs_limits.specs.Limits.{greatest_limits}
use Rattle.hs_limits.specs.declared.limits.Limits.{Limits}
use Rattle.hs_limits.specs.declared.shape.Shape.{Shape}
use Rattle.hs_script.specs.Parts.{key_of, number_below}
use Rattle.hs_script.specs.declared.invocation.CommandName.{CommandName}
use Rattle.hs_script.specs.declared.invocation.CommandName.TheVariants as command
use Rattle.hs_script.specs.declared.invocation.Invocation.{Invocation}
use Rattle.hs_script.specs.declared.invocation.Options.{Options}
use Rattle.hs_script.specs.declared.invocation.Task.{Task}
use Rattle.hs_script.specs.declared.invocation.Task.TheVariants as task

-- ---- commands

-- the command that a word names
abbrev pub command_of : List ℕ → Option CommandName
command_of word =
    if bytes_eq word (codes "script") then Some command.Script
    else if bytes_eq word (codes "load") then Some command.Load
    else if bytes_eq word (codes "audit") then Some command.Audit
    else if bytes_eq word (codes "store") then Some command.Store
    else if bytes_eq word (codes "fetch") then Some command.Fetch
    else if bytes_eq word (codes "scrub") then Some command.Scrub
    else if bytes_eq word (codes "copy") then Some command.Copy
    else None

-- ---- options: two words, a name and a value

-- its name, and the options with its value among them; None where the word is no value of it
pub record OptionRow : Type 0 where
  pub name : List ℕ
  pub give : List ℕ → Options → Option Options

-- the number from a least to a most that a word writes
abbrev pub number_between : ℕ → ℕ → List ℕ → Option ℕ
number_between least most word = option_and_then (λ n. if nat_le least n && nat_le n most then Some n else None) (number_below (most + 1) word)

-- yes or no
abbrev pub answer_of : List ℕ → Option Bool
answer_of word = if bytes_eq word (codes "yes") then Some true else if bytes_eq word (codes "no") then Some false else None

-- an option with a number, from a least to a most
abbrev pub number_row : List ℕ → ℕ → ℕ → (ℕ → Options → Options) → OptionRow
number_row name least most put = record { name = name; give = λ word options. option_map (λ n. put n options) (number_between least most word) }

-- one that lowers a limit: its name, its least number, that of a run where it is not given, which is the greatest too, and the limits with another in its place
pub record LimitOption : Type 0 where
  pub name : List ℕ
  pub least : ℕ
  pub most : ℕ
  pub lower : ℕ → Limits → Limits

abbrev pub limit_options : List LimitOption
limit_options =
    record { name = codes "--ops"; least = 1; most = greatest_limits.ops; lower = λ n limits. record limits { ops = n } }
    ∷ record { name = codes "--blocks"; least = 1; most = greatest_limits.blocks; lower = λ n limits. record limits { blocks = n } }
    ∷ record { name = codes "--roots"; least = 1; most = greatest_limits.roots; lower = λ n limits. record limits { roots = n } }
    ∷ record { name = codes "--sessions"; least = 1; most = greatest_limits.sessions; lower = λ n limits. record limits { sessions = n } }
    ∷ record { name = codes "--handles"; least = 1; most = greatest_limits.handles; lower = λ n limits. record limits { handles = n } }
    ∷ record { name = codes "--pool"; least = 16; most = greatest_limits.pool; lower = λ n limits. record limits { pool = n } }
    ∷ record { name = codes "--epochs"; least = 1; most = greatest_limits.epochs; lower = λ n limits. record limits { epochs = n } }
    ∷ []

abbrev pub limit_row : LimitOption → OptionRow
limit_row option = number_row option.name option.least option.most (λ n options. record options { limits = option.lower n options.limits })

-- the options of each command
abbrev pub rows_of : CommandName → List OptionRow
rows_of command.Script =
    record { name = codes "--visits"; give = λ word options. option_map (λ answer. record options { visits = Some answer }) (answer_of word) }
    ∷ number_row (codes "--cache") 0 4096 (λ n options. record options { cache = Some n })
    ∷ map limit_row limit_options
rows_of command.Load =
    number_row (codes "--seed") 0 18446744073709551615 (λ n options. record options { seed = Some n })
    ∷ number_row (codes "--writers") 1 8 (λ n options. record options { writers = Some n })
    ∷ number_row (codes "--files") 1 100 (λ n options. record options { files = n })
    ∷ []
rows_of command.Audit = []
rows_of command.Store = []
rows_of command.Fetch = []
rows_of command.Scrub = number_row (codes "--from") 0 255 (λ n options. record options { from = Some n }) ∷ []
rows_of command.Copy = number_row (codes "--delete") 1 1000 (λ n options. record options { delete = Some n }) ∷ []

-- where none is given
abbrev pub no_options : Options
no_options = record { limits = greatest_limits; visits = None; cache = None; seed = None; writers = None; files = 20; from = None; delete = None }

-- options with one more, which the command takes
abbrev pub with_option : CommandName → List ℕ → List ℕ → Options → Option Options
with_option which name value options = option_and_then (λ row. row.give value options) (find (λ row. bytes_eq name row.name) (rows_of which))

-- options with those of some words: each is a name and a value, and no name is there twice
abbrev pub with_options : CommandName → List (List ℕ) → List (List ℕ) → Option Options → Option Options
with_options which given [] options = options
with_options which given (name ∷ []) options = None
with_options which given (name ∷ value ∷ words) options =
    if list_any (bytes_eq name) given then None else with_options which (name ∷ given) words (option_and_then (with_option which name value) options)

-- what the words behind all others give
abbrev pub options_of : CommandName → List (List ℕ) → Option Options
options_of which words = with_options which [] words (Some no_options)

-- ---- stores

-- the folder that a word names: any word that is not empty
abbrev pub folder_of : List ℕ → Option (List ℕ)
folder_of word = if length word == 0 then None else Some word

-- how many shards, and how many copies, a word asks for
abbrev pub shards_word : List ℕ → Option ℕ
shards_word word = option_and_then (λ n. if list_any (λ k. n == k) (1 ∷ 2 ∷ 4 ∷ 8 ∷ []) then Some n else None) (number_below 9 word)

abbrev pub copies_word : List ℕ → Option ℕ
copies_word word = option_and_then (λ n. if n == 0 then None else Some n) (number_below 5 word)

-- the shape that two words ask for
abbrev pub shape_word : List ℕ → List ℕ → Option Shape
shape_word shards copies = option_and_then (λ g. option_map (λ r. record { shards = g; copies = r }) (copies_word copies)) (shards_word shards)

-- how many peers a store of a shape has
abbrev pub peers_of : Shape → ℕ
peers_of shape = shape.shards * shape.copies

-- ---- the words behind R, by the command

abbrev pub script_task : List (List ℕ) → Option Task
script_task words = option_map (λ o. task.Script o.limits o.visits o.cache) (options_of command.Script words)

-- a seed and writers have to be given
abbrev pub load_of : Options → Option Task
load_of options = option_and_then (λ seed. option_map (λ writers. task.Load seed writers options.files) options.writers) options.seed

abbrev pub load_task : List (List ℕ) → Option Task
load_task words = option_and_then load_of (options_of command.Load words)

abbrev pub audit_task : List (List ℕ) → Option Task
audit_task words = option_map (λ o. task.Audit) (options_of command.Audit words)

-- KEY
abbrev pub store_task : List (List ℕ) → Option Task
store_task [] = None
store_task (key ∷ words) = option_and_then (λ k. option_map (λ o. task.Store k) (options_of command.Store words)) (key_of key)

-- KEY
abbrev pub fetch_task : List (List ℕ) → Option Task
fetch_task [] = None
fetch_task (key ∷ words) = option_and_then (λ k. option_map (λ o. task.Fetch k) (options_of command.Fetch words)) (key_of key)

-- a peer to copy from, if one is given, is of the store
abbrev pub scrub_of : Shape → Option ℕ → Option Task
scrub_of shape None = Some (task.Scrub None)
scrub_of shape (Some peer) = if nat_lt peer (peers_of shape) then Some (task.Scrub (Some peer)) else None

abbrev pub scrub_task : Shape → List (List ℕ) → Option Task
scrub_task shape words = option_and_then (λ o. scrub_of shape o.from) (options_of command.Scrub words)

-- KEY DIR2 G2 R2
abbrev pub copy_by : List ℕ → List ℕ → List ℕ → List ℕ → List (List ℕ) → Option Task
copy_by key dir shards copies words =
    option_and_then (λ k. option_and_then (λ d. option_and_then (λ s. option_map (λ o. task.Copy k d s o.delete) (options_of command.Copy words)) (shape_word shards copies)) (folder_of dir)) (key_of key)

abbrev pub copy_task : List (List ℕ) → Option Task
copy_task (key ∷ dir ∷ shards ∷ copies ∷ words) = copy_by key dir shards copies words
copy_task words = None

-- what they ask for
unfoldable pub task_of : CommandName → Shape → List (List ℕ) → Option Task
task_of command.Script shape words = script_task words
task_of command.Load shape words = load_task words
task_of command.Audit shape words = audit_task words
task_of command.Store shape words = store_task words
task_of command.Fetch shape words = fetch_task words
task_of command.Scrub shape words = scrub_task shape words
task_of command.Copy shape words = copy_task words

-- ---- all words

-- what COMMAND DIR G R and the words behind them ask for
abbrev pub invocation_by : List ℕ → List ℕ → List ℕ → List ℕ → List (List ℕ) → Option Invocation
invocation_by word dir shards copies words =
    option_and_then (λ c. option_and_then (λ d. option_and_then (λ s. option_map (λ t. record { dir = d; shape = s; task = t }) (task_of c s words)) (shape_word shards copies)) (folder_of dir)) (command_of word)

unfoldable pub invocation_of : List (List ℕ) → Option Invocation
invocation_of (word ∷ dir ∷ shards ∷ copies ∷ words) = invocation_by word dir shards copies words
invocation_of words = None

-- how many disks they are run on: one for each peer of the store, and of the second store of a copy
abbrev pub second_disks : Task → ℕ
second_disks (task.Copy key dir shape delete) = peers_of shape
second_disks other = 0

abbrev pub disks_of : Invocation → ℕ
disks_of asked = peers_of asked.shape + second_disks asked.task

-- they ask for something that is run on so many disks
abbrev pub invocation_on : List (List ℕ) → ℕ → Option Invocation
invocation_on words disks = option_and_then (λ asked. if disks == disks_of asked then Some asked else None) (invocation_of words)

-- ---- the words of a script, so far without the options that are not served

-- what they ask for
pub record Wanted : Type 0 where
  pub shape : Shape
  pub limits : Limits

abbrev pub script_on : Shape → Task → Option Wanted
script_on shape (task.Script limits None None) = Some (record { shape = shape; limits = limits })
script_on shape other = None

unfoldable pub wanted : List (List ℕ) → Option Wanted
wanted words = option_and_then (λ asked. script_on asked.shape asked.task) (invocation_of words)

-- they ask for something, and there is a disk for each peer
abbrev pub wanted_of : List (List ℕ) → ℕ → Option Wanted
wanted_of words disks = option_and_then (λ w. if disks == w.shape.shards * w.shape.copies then Some w else None) (wanted words)
