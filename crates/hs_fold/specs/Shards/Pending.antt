-- The entries of the lists that count which have not taken effect, and what they do.
use Rattle.std.specs.Prelude.{ℕ, ◌+◌, List, [], ◌∷◌, ◌++◌, Option, Some}
use Rattle.hs_limits.specs.declared.limits.Limits.{Limits}
use Rattle.hs_model.specs.Run.{Event, IsLegal, run}
use Rattle.hs_model.specs.Store.{Store}
use Rattle.hs_entry.specs.declared.entry.Entry.{Entry}
use Rattle.hs_fold.specs.Catalogue.{Shard}
use Rattle.hs_fold.specs.Pending.{asked_by, behind, up_to}
use Rattle.hs_fold.specs.Shards.Catalogue.{catalogue_of}
use Rattle.hs_fold.specs.Shards.Happening.{AreLegal, Happening, happens}
use Rattle.hs_fold.specs.Shards.Setting.{Numbered, Setting, shard_in}

-- of one list, those behind a number, each with what happens by it
abbrev pub pending_of : Shard → ℕ → Numbered → List (Entry × Option Happening)
pending_of at front list = happens at (catalogue_of at (up_to front list)) (behind front list)

-- of all lists, shard by shard from this one on; front tells up to which number each took effect
abbrev pub pending : Setting → (ℕ → ℕ) → ℕ → List Numbered → List (Entry × Option Happening)
pending set front shard [] = []
pending set front shard (list ∷ lists) = pending_of (shard_in set shard) (front shard) list ++ pending set front (shard + 1) lists

-- one line more, where a line asked for the entry and something happens by it
abbrev pub with_line : Option ℕ → Option Happening → List ℕ → List ℕ
with_line (Some line) (Some one) lines = line ∷ lines
with_line asked happened lines = lines

-- the lines of the entries by which something happens
abbrev pub changing_lines : List (Entry × Option Happening) → List ℕ
changing_lines [] = []
changing_lines (e ∷ es) = with_line (asked_by e.0) e.1 (changing_lines es)

-- the events of a run from a store and then what happens by what is pending are one legal run
pub record AreOneRun (limits : Limits) (entry : Store) (events : List Event) (more : List Happening) : Type 0 where
  pub events_legal : IsLegal limits entry events
  pub more_legal : AreLegal (run limits entry events) more
