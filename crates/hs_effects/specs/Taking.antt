-- An entry that takes effect, beside the folds which the catalogues of a core are.
use Rattle.std.specs.Prelude.{◌≡◌, ℕ, ◌+◌, List}
pub use Rattle.hs_anatomy.specs.Effect.{done_by, taken}
use Rattle.hs_core_words.specs.Looking.{front_of, shape_of}
use Rattle.hs_core_words.specs.Pending.{named}
use Rattle.hs_core_words.specs.State.{Core}
use Rattle.hs_entry.specs.declared.entry.Entry.{Entry}
use Rattle.hs_fold.specs.Lawful.{Deed}
use Rattle.hs_fold.specs.Runs.Facts.{Catalogue as Folded}
use Rattle.hs_fold.specs.Runs.History.{follow}
use Rattle.hs_fold.specs.Shards.Setting.{Setting}
use Rattle.hs_limits.specs.declared.address.Address.{Address}
use Rattle.hs_memory.specs.Forget.{named as named_by}

-- ---- in the core

-- the address that the core finds for an entry is the one that comes with it: of a Block the name of its bytes
abbrev pub IsNamed : (List ℕ → Address) → Entry → Core → Type 0
IsNamed name entry core = named entry core ≡ named_by name entry

-- ---- in the folds

-- what the shards of a core are set up with, where blocks are named so
abbrev pub setting_of : (List ℕ → Address) → Core → Setting
setting_of name core = record { name = name; limits = core.limits; shape = shape_of core }

-- an entry of a shard that takes effect next, as one of a history
abbrev pub next_deed : ℕ → Entry → Core → Deed
next_deed shard entry core = record { shard = shard; number = front_of shard core + 1; entry = entry }

-- the folds behind it
abbrev pub folds_behind : (List ℕ → Address) → List Folded → ℕ → Entry → Core → List Folded
folds_behind name cs shard entry core = follow (setting_of name core) cs (next_deed shard entry core)
