-- How many entries a journal has at most, by the lines that came; and how a call of a cluster ends whose journal has room.
use Rattle.std.specs.Option.{option_map_or}
use Rattle.std.specs.Prelude.{◌≡◌, ◌<◌, ◌≤◌, ℕ, ◌+◌, ◌==◌, ◌&&◌, ⊤, false, cond, List, [], ◌∷◌, Option, Some, None, Result, Ok, Err, if◌then◌else◌, is_none, is_some, length, take}
use Rattle.hs_cluster.specs.Calls.{ran_out}
use Rattle.hs_cluster.specs.declared.fault.ClusterFault.{ClusterFault}
use Rattle.hs_cluster.specs.declared.fault.ClusterFault.TheVariants as cluster
use Rattle.hs_cluster.specs.Disks.{DiskSeen, seen_at}
use Rattle.hs_cluster.specs.Running.{Running}
use Rattle.hs_core_words.specs.Asking.{no_peer, not_down}
use Rattle.hs_core_words.specs.declared.event.Event.{Event}
use Rattle.hs_core_words.specs.declared.event.Event.TheVariants as event
use Rattle.hs_core_words.specs.State.{Core}
use Rattle.hs_core_words.specs.Step.{step}
use Rattle.hs_desk.specs.declared.fault.CoreFault.TheVariants as fault
use Rattle.hs_events.specs.Course.{steps}
use Rattle.hs_events.specs.Due.{Events}
use Rattle.hs_events.specs.Found.{Found, first_core}
use Rattle.hs_limits.specs.declared.shape.Shape.{Shape}
use Rattle.hs_limits.specs.Shape.{peer_of}
use Rattle.hs_model.specs.declared.command.Command.{Command}
use Rattle.hs_model.specs.declared.command.Command.TheVariants as command
use Rattle.hs_model.specs.declared.op.Op.TheVariants as op
use Rattle.hs_model.specs.Refusals.{first}
use Rattle.hs_ports.specs.Fault.{HasRisen}
use Rattle.hs_promise.specs.Completes.{entries_most}
use Rattle.hs_settled.specs.Noted.{AllAreOwn}
use Rattle.hs_standing.specs.Run.{MayRun, RunBegins}
use Rattle.hs_standing.specs.Standing.{AllMayKeep}
use Rattle.hs_standing.specs.Start.{Start}
use Rattle.hs_told.specs.InTurn.{told_of}

-- ---- a core

-- the peer that an event starts by its line, which is not refused
abbrev pub starts_peer : Core → Event → Option ℕ
starts_peer core (event.Start line peer) = if is_none (first (no_peer peer core ∷ not_down peer core ∷ [])) then Some peer else None
starts_peer core other = None

-- how often some events do so, as long as the core goes on: this peer, or any
abbrev pub started : ℕ → Core → Events → ℕ
started peer core [] = 0
started peer core (e ∷ es) = cond (is_none core.ended && option_map_or (λ k. k == peer) (starts_peer core e.0) false) 1 0 + started peer (step e.0 e.1 core) es

abbrev pub starts_in : Core → Events → ℕ
starts_in core [] = 0
starts_in core (e ∷ es) = cond (is_none core.ended && is_some (starts_peer core e.0)) 1 0 + starts_in (step e.0 e.1 core) es

-- its journal has no more entries up to its last line, and so many more, with what found it full; so it was never full where the limit has room for that many
pub record HasRoom (start : Start) (more : ℕ) (core : Core) : Type 0 where
  pub most : length (told_of core) ≤ entries_most start.commands start.set.shape core.progress.event_line + more
  pub room : entries_most start.commands start.set.shape core.progress.event_line + more ≤ start.set.limits.ops → core.ended ≡ Some fault.OpsFull → ⊥

-- it is that of a run so far, in which so many `start` lines were not refused: from the opening of a store over sound lists on, by events that came and are of their lines
pub record IsSoFar (start : Start) (starts : ℕ) (core : Core) : Type 0 where
  pub found : Found
  pub events : Events
  pub opens : RunBegins start found
  pub may : AllMayKeep start (MayRun start) (first_core start.set found) events
  pub own : AllAreOwn start.commands (first_core start.set found) events
  pub gives : steps (first_core start.set found) events ≡ core
  pub starts_are : starts_in (first_core start.set found) events ≡ starts

-- ---- a call of a cluster

-- the events of a call, from a core on: behind each front of them the journal has room, and the core that the call leaves is that of the run so far, but where memory ran out; with one copy a shard nobody is started
pub record KeepsRoom (start : Start) (starts : ℕ) (old : Core) (events : Events) (result : Result ⊤ ClusterFault) (new : Running) : Type 0 where
  pub moments : (n : ℕ) → HasRoom start (starts + starts_in old (take n events)) (steps old (take n events))
  pub so_far : ran_out result ≡ false → IsSoFar start (starts + starts_in old events) new.core
  pub alone : start.set.shape.copies ≡ 1 → (n : ℕ) → starts + starts_in old (take n events) ≡ 0

-- a call: what was asked, which is of no line in opening, and the disks before and behind
pub record Call : Type 0 where
  pub asked : Option Command
  pub old : List DiskSeen
  pub new : List DiskSeen

-- why a call lost a peer: its line is to fail it, or the count of failed calls of its disk rose
pub data LossBy (call : Call) (peer : ℕ) : Type 0 where
  ByLine : call.asked ≡ Some (command.Fail peer) → LossBy call peer
  ByCount : HasRisen (seen_at call.old peer).faults (seen_at call.new peer).faults → LossBy call peer

-- why it lost a shard: so it lost one of its peers
pub record LossCause (shape : Shape) (call : Call) (shard : ℕ) : Type 0 where
  pub copy : ℕ
  pub less : copy < shape.copies
  pub why : LossBy call (peer_of shape shard copy)

-- it goes on, or memory ran out, or a shard is lost with its cause
abbrev pub EndsWell : Shape → Call → Result ⊤ ClusterFault → Type 0
EndsWell shape call (Ok x) = ⊤
EndsWell shape call (Err (cluster.WrongShape peer found)) = ⊥
EndsWell shape call (Err (cluster.ShardLost shard)) = LossCause shape call shard
EndsWell shape call (Err cluster.OpsFull) = ⊥
EndsWell shape call (Err cluster.NoMemory) = ⊤
