-- What is promised of events, one after another, and of a line.
use Rattle.std.specs.Prelude.{◌≡◌, ◌++◌, ℕ, Bool, true, false, ⊤, List, [], ◌∷◌, Option, Some, None, Result, Ok, Err, if◌then◌else◌, is_ok}
use Rattle.hs_events.specs.Commands.{AreOfCommand}
use Rattle.hs_events.specs.Course.{items_of, steps}
use Rattle.hs_cluster.specs.declared.fault.ClusterFault.{ClusterFault}
use Rattle.hs_cluster.specs.declared.fault.ClusterFault.TheVariants as cluster
use Rattle.hs_events.specs.Due.{Events, MomentsRise}
use Rattle.hs_cluster.specs.Rooms.{HaveRecordRoom}
use Rattle.hs_cluster.specs.Running.{Running}
use Rattle.hs_core_words.specs.declared.event.Event.{Event}
use Rattle.hs_desk.specs.declared.fault.CoreFault.{CoreFault}
use Rattle.hs_desk.specs.declared.fault.CoreFault.TheVariants as core
use Rattle.hs_limits.specs.declared.address.Address.{Address}
use Rattle.hs_model.specs.declared.command.Command.{Command}

-- ---- what is answered

-- the fault of a cluster whose core has this one
abbrev pub of_core : CoreFault → ClusterFault
of_core core.OpsFull = cluster.OpsFull
of_core (core.ShardLost shard) = cluster.ShardLost shard
of_core core.NoMemory = cluster.NoMemory

-- Ok exactly where the core goes on
abbrev pub outcome_by : Option CoreFault → Result ⊤ ClusterFault
outcome_by None = Ok tt
outcome_by (Some fault) = Err (of_core fault)

-- whether memory ran out
abbrev pub ran_out : {T : Type 0} → Result T ClusterFault → Bool
ran_out (Ok x) = false
ran_out (Err (cluster.WrongShape peer found)) = false
ran_out (Err (cluster.ShardLost shard)) = false
ran_out (Err cluster.OpsFull) = false
ran_out (Err cluster.NoMemory) = true

-- ---- events

-- what some events leave of a cluster whose core had not ended: the course, and what was answered; and, unless memory ran out at a later one, the core; each core that went on has room
pub record Does (events : Events) (old new : Running) (result : Result ⊤ ClusterFault) : Type 0 where
  pub course : new.course ≡ old.course ++ items_of old.core events
  pub journal : new.core.journal ≡ (steps old.core events).journal
  pub refused : new.core.refused ≡ (steps old.core events).refused
  pub core : ran_out result ≡ false → new.core ≡ steps old.core events
  pub outcome : ran_out result ≡ false → result ≡ outcome_by new.core.ended
  pub going : ran_out result ≡ true → (steps old.core events).ended ≡ None
  pub rooms : HaveRecordRoom old.core events

-- an event is done, or memory ran out before it
abbrev pub done_of : Result ⊤ ClusterFault → Event × ℕ → Events
done_of result e = if ran_out result then [] else e ∷ []

-- a line has the events that are due for it and no others, or a front of them where it was cut short; each with its moment. Kept: what they show of the disks
pub record RunsLine (name : List ℕ → Address) (line : ℕ) (asked : Command) (before now : ℕ) (old new : Running) (result : Result ⊤ ClusterFault) (Kept : Events → Type 0) : Type 0 where
  pub events : Events
  pub due : AreOfCommand name (record { line = line; core = old.core; events = events; whole = is_ok result }) asked
  pub rises : MomentsRise before events now
  pub does : Does events old new result
  pub kept : Kept events
