-- How far an asker has gone.
use Rattle.std.specs.List.{AllByRecursion}
use Rattle.std.specs.Prelude.{List, None, Option, Some, length, ℕ, ⊤, Result, ◌*◌, ◌+◌, ◌≡◌}
use Rattle.hs_cluster.specs.Calls.{RunsLine}
use Rattle.hs_cluster.specs.declared.fault.ClusterFault.{ClusterFault}
use Rattle.hs_cluster.specs.Disks.{DiskSeen, stands_of}
use Rattle.hs_cluster.specs.Kept.{Shows}
use Rattle.hs_cluster.specs.Running.{Running}
use Rattle.hs_desk.specs.declared.fault.CoreFault.{CoreFault}
use Rattle.hs_events.specs.Course.{steps}
use Rattle.hs_events.specs.Due.{Events}
use Rattle.hs_events.specs.Found.{Found, first_core}
use Rattle.hs_fold.specs.Shards.Setting.{Setting}
use Rattle.hs_limits.specs.Shape.{IsShape}
use Rattle.hs_limits.specs.declared.address.Address.{Address}
use Rattle.hs_model.specs.declared.command.Command.{Command}
use Rattle.hs_moments.specs.Moments.{Since}
use Rattle.hs_run.specs.Between.{IsReadyAt, Point, span_of}
use Rattle.hs_run.specs.Ended.{ran_at}
use Rattle.hs_run.specs.Going.{AreGone, Begun, HasShown, IsBehind, script_by}
use Rattle.hs_run.specs.Machine.{IsOfCluster}
use Rattle.hs_asker.specs.Answer.{IsUpTo}
use Rattle.hs_asker.specs.Lines.{AreAsked, IsOfAsker}
use Rattle.hs_asker.specs.Silent.{asking_script, silent, status_by}

-- ---- where it stands

-- the moment, the cluster, its disks, and how many lines were begun
abbrev pub point_of : ℕ → Running → List DiskSeen → ℕ → Point
point_of now cluster disks line = record { now = now; cluster = cluster; disks = disks; got = None; line = line }

-- a line was run, up to another point
pub record RunsAlone (tells : Type 0) (name : List ℕ → Address) (asked : Command) (old new : Point) (did : Result ⊤ ClusterFault) : Type 0 where
  pub line : new.line ≡ old.line + 1
  pub runs : RunsLine name (old.line + 1) asked old.now new.now old.cluster new.cluster did (Shows tells (span_of old new.now new) did)
  pub since : tells → Since (stands_of new.disks)

-- ---- lines that were gone past

-- so far these commands were done, each with its events
pub record HasDone (b : Begun) (said : List Command) (lines : List Events) (at : Point) : Type 0 where
  pub behind : IsBehind b lines at
  pub going : at.cluster.core.ended ≡ None
  pub line : at.line ≡ length lines
  pub each : length said ≡ length lines
  pub gone : (commands : ℕ → Option Command) → AreAsked commands said
      → AreGone (record { script = script_by b commands; old = b.old; now = at.now; got = None }) 1 (steps (first_core b.set b.found) b.opening) lines

-- ---- what it was handed

-- what a store is set up with, and the moment and the disks at entry
pub record AtEntry : Type 0 where
  pub set : Setting
  pub moment : ℕ
  pub disks : List DiskSeen

abbrev pub begun_by : AtEntry → Found → Running → Events → Begun
begun_by e found first opening = record { set = e.set; old = silent e.moment e.disks; disks = e.disks; found = found; first = first; opening = opening }

-- ---- all of it

-- the lines that were begun, where it stands, and why it has ended, if it has
pub record Inside : Type 0 where
  pub said : List Command
  pub now : ℕ
  pub cluster : Running
  pub disks : List DiskSeen
  pub line : ℕ
  pub ended : Option CoreFault

abbrev pub at_of : Inside → Point
at_of s = point_of s.now s.cluster s.disks s.line

-- it may be asked on
pub record IsGoing (tells : Type 0) (e : AtEntry) (said : List Command) (at : Point) : Type 0 where
  pub found : Found
  pub first : Running
  pub opening : Events
  pub lines : List Events
  pub done : HasDone (begun_by e found first opening) said lines at
  pub shows : HasShown tells (begun_by e found first opening) lines at
  pub ready : IsReadyAt tells at
  pub up_to : AllByRecursion (IsUpTo at.line) at.cluster.core.journal

-- it has ended, and its run is the machine's
abbrev pub HasStopped : Type 0 → AtEntry → List Command → Point → CoreFault → Type 0
HasStopped tells e said at fault =
    IsOfCluster tells (asking_script e.set said) (ran_at (status_by (Some fault)) at.line (Some at.cluster) (silent e.moment e.disks) (silent at.now at.disks))

-- from what it was handed on, with this naming
pub record IsAsker (tells : Type 0) (name : List ℕ → Address) (e : AtEntry) (s : Inside) : Type 0 where
  pub named : e.set.name ≡ name
  pub shape : IsShape e.set.shape
  pub count : length e.disks ≡ e.set.shape.shards * e.set.shape.copies
  pub left : length s.disks ≡ length e.disks
  pub askers : AllByRecursion IsOfAsker s.said
  pub going : s.ended ≡ None → IsGoing tells e s.said (at_of s)
  pub ended : (fault : CoreFault) → s.ended ≡ Some fault → HasStopped tells e s.said (at_of s) fault
