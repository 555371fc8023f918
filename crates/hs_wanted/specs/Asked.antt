-- What the words ask for, as it is read by hand.
use Rattle.std.specs.Option.{option_and_then, option_map}
use Rattle.std.specs.Prelude.{Bool, IfSome, IsTrue, List, Option, [], bytes_eq, false, find, ℕ, ◌<◌, ◌||◌, ◌∷◌, ◌≡◌, ◌≤◌, ◌⊎◌, ⊤}
use Rattle.hs_limits.specs.Key.{is_key}
use Rattle.hs_limits.specs.Limits.{IsLimits}
use Rattle.hs_limits.specs.Shape.{IsShape}
use Rattle.hs_limits.specs.declared.limits.Limits.{Limits}
use Rattle.hs_limits.specs.declared.shape.Shape.{Shape}
use Rattle.hs_script.specs.CommandLine.{Wanted, limit_options, number_between, peers_of}
use Rattle.hs_script.specs.declared.invocation.Invocation.{Invocation}
use Rattle.hs_script.specs.declared.invocation.Options.{Options}
use Rattle.hs_script.specs.declared.invocation.Task.{Task}
use Rattle.hs_script.specs.declared.invocation.Task.TheVariants as task

-- a shape and limits, as what is wanted
abbrev pub as_wanted : Option (Shape × Limits) → Option Wanted
as_wanted asked = option_map (λ a. record { shape = a.0; limits = a.1 }) asked

-- ---- what is asked for is within its bounds

-- numbers from a least to a most
pub record IsBetween (least most : ℕ) (n : ℕ) : Type 0 where
  pub enough : least ≤ n
  pub few : n ≤ most

-- options that are given have numbers between those of the language
pub record IsOptions (options : Options) : Type 0 where
  pub limits : IsLimits options.limits
  pub cache : IfSome options.cache (IsBetween 0 4096)
  pub writers : IfSome options.writers (IsBetween 1 8)
  pub files : IsBetween 1 100 options.files
  pub delete : IfSome options.delete (IsBetween 1 1000)

-- a peer to copy from is of the store, a second store has a shape, and so on
abbrev pub IsTask : Shape → Task → Type 0
IsTask shape (task.Script limits visits cache) = IsLimits limits × IfSome cache (IsBetween 0 4096)
IsTask shape (task.Load seed writers files) = IsBetween 1 8 writers × IsBetween 1 100 files
IsTask shape task.Audit = ⊤
IsTask shape (task.Store key) = IsTrue (is_key key)
IsTask shape (task.Fetch key) = IsTrue (is_key key)
IsTask shape (task.Scrub from) = IfSome from (λ peer. peer < peers_of shape)
IsTask shape (task.Copy key dir second delete) = IsTrue (is_key key) × IsShape second × IfSome delete (IsBetween 1 1000)

-- whatever the store is
abbrev pub IsAnyTask : Option Task → Type 0
IsAnyTask found = (shape : Shape) → IfSome found (IsTask shape)

-- it is a task on a store that has a shape
pub record IsInvocation (asked : Invocation) : Type 0 where
  pub shape : IsShape asked.shape
  pub task : IsTask asked.shape asked.task

-- ---- parts of the words

-- a number of shards
abbrev pub IsShards : ℕ → Type 0
IsShards n = (n ≡ 1) ⊎ (n ≡ 2) ⊎ (n ≡ 4) ⊎ (n ≡ 8)

-- limits with the number of an option that lowers one
abbrev pub lowered : List ℕ → List ℕ → Limits → Option Limits
lowered name value limits =
    option_and_then (λ option. option_map (λ n. option.lower n limits) (number_between option.least option.most value)) (find (λ option. bytes_eq name option.name) limit_options)

-- an option of a name is among some words: a name and a value, and so on
abbrev pub is_named : List ℕ → List (List ℕ) → Bool
is_named name [] = false
is_named name (word ∷ []) = false
is_named name (word ∷ value ∷ words) = bytes_eq word name || is_named name words
