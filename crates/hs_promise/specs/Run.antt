-- A run of a script as it is seen from outside, and what it is set up with.
use Rattle.std.specs.Prelude.{List, Option, [], ℕ, ◌≡◌}
use Rattle.hs_fold.specs.Shards.Setting.{Setting}
use Rattle.hs_journal.specs.declared.entry.JournalEntry.{JournalEntry}
use Rattle.hs_limits.specs.declared.address.Address.{Address}
use Rattle.hs_model.specs.declared.command.Command.{Command}
use Rattle.hs_model.specs.declared.course.CourseItem.{CourseItem}
use Rattle.hs_script.specs.Reading.{commands}
use Rattle.hs_ports.specs.Objects.{Objects, RoseBy, faults_at}
use Rattle.hs_script.specs.CommandLine.{Wanted}
use Rattle.hs_promise.specs.declared.load.Kept.{Kept}
use Rattle.hs_promise.specs.declared.load.Stored.{Stored}
use Rattle.hs_promise.specs.declared.outcome.Outcome.{Outcome}
use Rattle.hs_promise.specs.declared.status.Status.{Status}

-- a script on a store: what the store is set up with (naming, limits, shape), and the command of each line by its number
pub record Script : Type 0 where
  pub set : Setting
  pub commands : ℕ → Option Command

-- what a run answers, and what it was handed, as that was at entry and is at the end
pub record Ran : Type 0 where
  pub ending : Status
  pub line : ℕ
  pub journal : List JournalEntry
  pub kept : List Kept
  pub stored : List Stored
  pub refused : List JournalEntry
  pub course : List CourseItem
  pub old : Objects
  pub new : Objects

-- the run of an outcome, between these objects at entry and at the end
abbrev pub ran_of : Outcome → Objects → Objects → Ran
ran_of o old new = record { ending = o.status; line = o.line; journal = o.journal.entries; kept = o.kept; stored = o.stored; refused = o.refused; course = o.course; old = old; new = new }

-- what a load alone hands back: no answers of its sessions, and no work of its peers
pub record IsNoLoad (r : Ran) : Type 0 where
  pub kept : r.kept ≡ []
  pub stored : r.stored ≡ []

-- the count of a peer's disk rose in a run by at least so much
abbrev pub DiskRose : Ran → ℕ → ℕ → Type 0
DiskRose r n peer = RoseBy n (faults_at r.old.disk_faults peer) (faults_at r.new.disk_faults peer)

-- the script that is run so, with this naming and these commands
abbrev pub script_of : (List ℕ → Address) → Wanted → (ℕ → Option Command) → Script
script_of name w commands = record { set = record { name = name; limits = w.limits; shape = w.shape }; commands = commands }
