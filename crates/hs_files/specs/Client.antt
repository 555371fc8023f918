-- A command that asks a store as its only client.
use Rattle.std.specs.List.{AllByRecursion}
use Rattle.std.specs.Prelude.{Err, List, None, Ok, Option, Result, Some, [], length, ℕ, ◌≡◌, ◌≤◌, ◌⊎◌}
use Rattle.hs_asker.specs.Going.{AtEntry}
use Rattle.hs_asker.specs.Lines.{IsOfAsker, command_at, ops_of}
use Rattle.hs_asker.specs.Shows.{IsTold, began_by}
use Rattle.hs_asker.specs.Silent.{status_by}
use Rattle.hs_asking.specs.Shown.{Shown}
use Rattle.hs_limits.specs.Limits.{greatest_limits}
use Rattle.hs_limits.specs.declared.address.Address.{Address}
use Rattle.hs_limits.specs.declared.shape.Shape.{Shape}
use Rattle.hs_model.specs.declared.command.Command.{Command}
use Rattle.hs_ports.specs.Objects.{CountsStand, KeepsTime, Objects}
use Rattle.hs_promise.specs.Run.{IsNoLoad, Ran, Script, script_of}
use Rattle.hs_promise.specs.declared.status.Status.{Status}
use Rattle.hs_promise.specs.declared.status.Status.TheVariants as status
use Rattle.hs_run.specs.Machine.{AreHanded, IsOfCluster}
use Rattle.hs_side.specs.declared.header.Header.{Header}
use Rattle.hs_tree.specs.declared.fault.TreeFault.{TreeFault}
use Rattle.hs_tree.specs.declared.fault.TreeFault.TheVariants as fault

-- ---- statuses

-- that of a file which was not stored, or not given back
abbrev pub tree_status : TreeFault → Status
tree_status (fault.Core ended) = status_by (Some ended)
tree_status fault.Read = status.ReadFault
tree_status fault.InputFull = status.InputFull
tree_status (fault.Refused told) = status.Refused told
tree_status (fault.NotATree address) = status.NotATree address
tree_status fault.NoMemory = status.NoMemory

-- of one which was stored, or was not
abbrev pub end_status : Result ℕ TreeFault → Status
end_status (Ok bytes) = status.Done
end_status (Err f) = tree_status f

-- ---- the machine beneath

-- objects without a source and a sink
abbrev pub disks_alone : ℕ → Objects → Objects
disks_alone moment objects = record objects { moment = moment; got = None; left = None; sink_faults = 0; source_faults = 0 }

-- the run of the machine beneath a command: up to a moment, with this end of its own; it reads nothing and puts nothing
abbrev pub beneath : Ran → ℕ → Status → Ran
beneath r until ending = record r { ending = ending; old = disks_alone r.old.moment r.old; new = disks_alone until r.new }

-- its script: what the client asked for, under the greatest limits
abbrev pub client_script : (List ℕ → Address) → Shape → (ℕ → Option Command) → Script
client_script name shape commands = script_of name (record { shape = shape; limits = greatest_limits }) commands

-- ---- the command

-- nothing of a load comes back, there are as many disks as before, time goes on, what is put has its moments, and no count falls
pub record RunsNoLoad (r : Ran) : Type 0 where
  pub no_load : IsNoLoad r
  pub handed_back : length r.new.disks ≡ length r.old.disks
  pub time : KeepsTime r.old r.new
  pub counts : CountsStand r.old r.new

-- a client's operations from the first to the last one, on a store that was handed over with this naming and shape, under the greatest limits: it began at the store of its lists, each operation that it asked for is a line, each
-- other line has peers do what is due, all of them were begun where it goes on, and what it was answered is the journal of the machine's run on these lines up to a moment, which is all that was done on the disks
pub record AsksAsClient (tells : Type 0) (name : List ℕ → Address) (shape : Shape) (r : Ran) (e : AtEntry) (start now : Shown (IsTold tells e)) : Type 0 where
  pub set : e.set ≡ record { name = name; limits = greatest_limits; shape = shape }
  pub moment : e.moment ≡ r.old.moment
  pub disks : AreHanded r.old e.disks
  pub first : start.asked ≡ []
  pub began : start.began ≡ began_by e
  pub started : start.commands ≡ command_at []
  pub said : List Command
  pub askers : AllByRecursion IsOfAsker said
  pub asked : now.asked ≡ ops_of said
  pub commands : now.commands ≡ command_at said
  pub lines : now.ended ≡ None → r.line ≡ length said
  pub journal : r.journal ≡ now.journal
  pub until : ℕ
  pub later : until ≤ r.new.moment
  pub machine : IsOfCluster tells (client_script name shape now.commands) (beneath r until (status_by now.ended))

-- nothing was answered, and nothing happened
pub record IsUnanswered (r : Ran) : Type 0 where
  pub journal : r.journal ≡ []
  pub refused : r.refused ≡ []
  pub course : r.course ≡ []
  pub line : r.line ≡ 0

-- a disk is of another store
pub record HasOtherShape (ending : Status) : Type 0 where
  pub peer : ℕ
  pub found : Header
  pub is : ending ≡ status.WrongShape peer found

-- no core was opened, since a disk is of another store, or for memory
pub record OpensNothing (tells : Type 0) (name : List ℕ → Address) (shape : Shape) (r : Ran) : Type 0 where
  pub ending : HasOtherShape r.ending ⊎ (r.ending ≡ status.NoMemory)
  pub unanswered : IsUnanswered r
  pub commands : ℕ → Option Command
  pub machine : IsOfCluster tells (client_script name shape commands) (beneath r r.new.moment r.ending)

-- memory was wanting before a disk was read
pub record DoesNothing (r : Ran) : Type 0 where
  pub ending : r.ending ≡ status.NoMemory
  pub unanswered : IsUnanswered r
  pub same : r.new ≡ r.old
