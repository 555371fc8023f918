-- A cluster between two calls, and what one call leaves.
use Rattle.std.specs.Prelude.{◌≡◌, ◌+◌, ◌*◌, ◌<◌, ℕ, ⊤, false, List, Option, Result, OnOk, take}
use Rattle.hs_cluster.specs.Cached.{AreCached}
use Rattle.hs_cluster.specs.Calls.{ran_out}
use Rattle.hs_cluster.specs.Disks.{DiskSeen}
use Rattle.hs_cluster.specs.Kept.{CanRead}
use Rattle.hs_cluster.specs.PeerLogs.{KeepsPeers}
use Rattle.hs_cluster.specs.Running.{Running}
use Rattle.hs_cluster.specs.declared.fault.ClusterFault.{ClusterFault}
use Rattle.hs_core_words.specs.Records.{HasRecordRoom}
use Rattle.hs_core_words.specs.State.{Core}
use Rattle.hs_settled.specs.Deletion.{TellsDeletion}
use Rattle.hs_events.specs.Course.{steps}
use Rattle.hs_events.specs.Due.{Events}
use Rattle.hs_events.specs.Found.{Found}
use Rattle.hs_events.specs.Whole.{Whole}
use Rattle.hs_fold.specs.Runs.Opened.{store_of}
use Rattle.hs_fold.specs.Shards.Setting.{Setting}
use Rattle.hs_peerlog.specs.Lists.{Keeping}
use Rattle.hs_settled.specs.Moving.{IsMoving}
use Rattle.hs_standing.specs.Script.{IsNext}
use Rattle.hs_model.specs.declared.command.Command.{Command}
use Rattle.hs_model.specs.declared.command.Command.TheVariants as command
use Rattle.hs_clauses.specs.Run.{ReadsInStep}
use Rattle.hs_measure.specs.Promised.{IsAtRest, KeepsPromise}
use Rattle.hs_standing.specs.Opening.{opened_folds}
use Rattle.hs_standing.specs.Standing.{judging_of}
use Rattle.hs_standing.specs.Start.{Start}

-- a run of these commands over what was found begins at the store of its lists
abbrev pub start_of : Setting → (ℕ → Option Command) → Found → Start
start_of set commands found = record { set = set; commands = commands; entry = store_of (opened_folds set found) }

-- a core with its lists between two events of a run over sound lists, with any number of copies: it stands beside the machines of its copies and reads what is there, its root records are few, whatever is open goes on,
-- deletions were told as promised, and its pool has the room of the limits
pub record IsAlong (start : Start) (whole : Whole) : Type 0 where
  pub reading : ReadsInStep start whole
  pub few : HasRecordRoom whole.core
  pub moving : IsMoving start.set.name whole.core
  pub deletes : TellsDeletion (judging_of start) start.entry whole.core
  pub pool : whole.core.pool.limit ≡ start.set.limits.pool

-- with one copy a shard its logs read as what is sealed of the lists, whatever a stop leaves; with several each has what is told of it, at any stop from this moment on
pub record HasLogs (copies : ℕ) (whole : Whole) (logs : List (Option Keeping)) (disks : List DiskSeen) (since : ℕ) : Type 0 where
  pub alone : copies ≡ 1 → CanRead whole logs disks
  pub several : (copies ≡ 1 → ⊥) → KeepsPeers whole logs disks since

-- a cluster between two calls of such a run, whose core goes on, with its disks since a moment; what is cached is of what took effect
pub record IsInRun (start : Start) (cluster : Running) (disks : List DiskSeen) (since : ℕ) : Type 0 where
  pub whole : Whole
  pub same : whole.core ≡ cluster.core
  pub along : IsAlong start whole
  pub logs : HasLogs start.set.shape.copies whole cluster.logs disks since
  pub cached : AreCached whole cluster.cache

-- the events of a call, from a core on: behind each front of them what is promised is kept, and so it is of the core that the call leaves, but where memory ran out; behind it the cluster is in the run, and the line after this one comes next
pub record KeepsOn (start : Start) (line : ℕ) (old : Core) (events : Events) (result : Result ⊤ ClusterFault) (new : Running) (disks : List DiskSeen) (now : ℕ) : Type 0 where
  pub moments : (n : ℕ) → KeepsPromise start (steps old (take n events))
  pub left : ran_out result ≡ false → KeepsPromise start new.core
  pub goes_on : OnOk result (IsInRun start new disks now)
  pub next : OnOk result (IsNext start.commands new.core (line + 1))

-- a settle that was gone past has left nothing open, where the pool has more room than the last two rounds of one lead take
abbrev pub Rests : Start → Command → Result ⊤ ClusterFault → Core → Type 0
Rests start asked result core = asked ≡ command.Settle → 2 * start.set.shape.shards < start.set.limits.pool → OnOk result (IsAtRest start core)
