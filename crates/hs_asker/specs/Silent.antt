-- The run of what was asked for, as one of a script: nothing is read, and nothing put.
use Rattle.std.specs.Prelude.{List, None, Option, Some, [], map, ℕ}
use Rattle.hs_cluster.specs.Disks.{DiskSeen, stands_of}
use Rattle.hs_cluster.specs.declared.fault.ClusterFault.{ClusterFault}
use Rattle.hs_cluster.specs.declared.fault.ClusterFault.TheVariants as cluster
use Rattle.hs_desk.specs.declared.fault.CoreFault.{CoreFault}
use Rattle.hs_desk.specs.declared.fault.CoreFault.TheVariants as core
use Rattle.hs_fold.specs.Shards.Setting.{Setting}
use Rattle.hs_journal.specs.declared.entry.JournalEntry.{JournalEntry}
use Rattle.hs_model.specs.declared.course.CourseItem.{CourseItem}
use Rattle.hs_model.specs.declared.command.Command.{Command}
use Rattle.hs_ports.specs.Objects.{Objects}
use Rattle.hs_promise.specs.Run.{Ran, Script}
use Rattle.hs_promise.specs.declared.status.Status.{Status}
use Rattle.hs_promise.specs.declared.status.Status.TheVariants as status
use Rattle.hs_asker.specs.Lines.{command_at}

-- a moment and some disks, with no source and no sink
abbrev pub silent : ℕ → List DiskSeen → Objects
silent moment disks = record {
  moment = moment;
  disks = stands_of disks;
  got = None;
  left = None;
  disk_faults = map (λ disk. disk.faults) disks;
  sink_faults = 0;
  source_faults = 0;
}

-- how a run ends whose asker has ended so, or goes on
abbrev pub status_by : Option CoreFault → Status
status_by None = status.Done
status_by (Some core.OpsFull) = status.OpsFull
status_by (Some (core.ShardLost shard)) = status.ShardLost shard
status_by (Some core.NoMemory) = status.NoMemory

-- the script of some lines
abbrev pub asking_script : Setting → List Command → Script
asking_script set said = record { set = set; commands = command_at said }

-- a run that ended so behind a line, with what was answered, refused and happened beside that, from a moment and some disks to others
abbrev pub silent_run : Status → ℕ → List JournalEntry → List JournalEntry → List CourseItem → Objects → Objects → Ran
silent_run ending line journal refused course old new = record {
  ending = ending;
  line = line;
  journal = journal;
  kept = [];
  stored = [];
  refused = refused;
  course = course;
  old = old;
  new = new;
}

-- why no asker was opened: a disk of another store, or want of memory
abbrev pub IsOpenFault : ClusterFault → Type 0
IsOpenFault (cluster.WrongShape peer found) = Unit {0}
IsOpenFault (cluster.ShardLost shard) = ⊥
IsOpenFault cluster.OpsFull = ⊥
IsOpenFault cluster.NoMemory = Unit {0}
