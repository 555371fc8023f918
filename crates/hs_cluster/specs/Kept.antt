-- What a cluster tells of its disks: the counts of any, and the contents, where they tell them and each shard has one copy.
use Rattle.std.specs.Prelude.{◌≡◌, ◌≤◌, ◌<◌, ◌-◌, ◌^◌, ℕ, ⊤, false, List, [], ◌∷◌, Option, Some, None, Result, OnOk}
use Rattle.hs_cluster.specs.Calls.{ran_out}
use Rattle.hs_cluster.specs.Cached.{AreCached}
use Rattle.hs_cluster.specs.Calm.{GoesCalmly}
use Rattle.hs_cluster.specs.Counts.{AreAllCounted, AreCounted, UntoldStand}
use Rattle.hs_cluster.specs.Disks.{DiskSeen, log_at, stands_of}
use Rattle.hs_cluster.specs.Headed.{IsHeadedAt, LeavesHeads}
use Rattle.hs_cluster.specs.Jobs.{HasStored, TellsBytes}
use Rattle.hs_cluster.specs.Past.{HoldsLog, LeavesPast}
use Rattle.hs_cluster.specs.PeerLogs.{KeepsPeers}
use Rattle.hs_cluster.specs.Running.{Running}
pub use Rattle.hs_cluster.specs.Sealed.{sealed_front}
use Rattle.hs_cluster.specs.Steady.{AreSteady}
use Rattle.hs_cluster.specs.declared.fault.ClusterFault.{ClusterFault}
use Rattle.hs_core_words.specs.Looking.{catalogue_of, first_job, home}
use Rattle.hs_desk.specs.declared.done.Done.{Done}
use Rattle.hs_events.specs.Asked.{report_in}
use Rattle.hs_events.specs.Course.{happened}
use Rattle.hs_events.specs.Due.{Events}
use Rattle.hs_events.specs.Reports.{TellsOf}
use Rattle.hs_events.specs.Sane.{IsSane, appended_of}
use Rattle.hs_events.specs.Whole.{Whole, step_whole}
use Rattle.hs_members.specs.Members.{IsPeer}
use Rattle.hs_moments.specs.Machine.{runs}
use Rattle.hs_moments.specs.Moments.{Keeps, ListsAtMoments}
use Rattle.hs_moments.specs.WholeMachine.{whole_machine}
use Rattle.hs_peerlog.specs.Lists.{HasLog, IsKept, Keeping}
use Rattle.hs_ports.specs.declared.disk.Side.{Side}
use Rattle.hs_ports.specs.Moments.{disk_at}
use Rattle.hs_side.specs.Headers.{own_header}

-- ---- between two calls

-- the log of each disk in use has just what is sealed of its peer's list, and the entry that was appended behind it waits
pub record KeepsLogs (c : Whole) (logs : List (Option Keeping)) (disks : List DiskSeen) : Type 0 where
  pub each : (peer : ℕ) (keeping : Keeping) → IsPeer c.core.members.shape peer → log_at logs peer ≡ Some keeping
      → HasLog keeping (disk_at (stands_of disks) peer) (sealed_front c peer) (appended_of peer c.core)

-- what a cluster keeps to go on: its core with the lists of the peers, the logs, and whatever a crash leaves
pub record CanGoOn (c : Whole) (logs : List (Option Keeping)) (disks : List DiskSeen) (now : ℕ) : Type 0 where
  pub sane : IsSane c
  pub listed : KeepsLogs c logs disks
  pub keeps : Keeps whole_machine c now (stands_of disks)

-- the log of each disk in use reads so, whatever a crash leaves
pub record ReadsLogs (c : Whole) (logs : List (Option Keeping)) (disks : List DiskSeen) : Type 0 where
  pub each : (peer : ℕ) (keeping : Keeping) → IsPeer c.core.members.shape peer → log_at logs peer ≡ Some keeping
      → IsKept keeping ((disk_at (stands_of disks) peer).seen keeping.log.side) (sealed_front c peer) (appended_of peer c.core)

-- what a cluster keeps to read on
pub record CanRead (c : Whole) (logs : List (Option Keeping)) (disks : List DiskSeen) : Type 0 where
  pub sane : IsSane c
  pub listed : ReadsLogs c logs disks

-- ---- a call, or some

-- the moment, the cluster and the disks before it and behind it
pub record Span : Type 0 where
  pub before : ℕ
  pub now : ℕ
  pub old : Running
  pub new : Running
  pub disks : List DiskSeen
  pub left : List DiskSeen

-- what a report tells of a block is so of the list of its peer, and is bytes
abbrev pub IsTold : Whole → Option (ℕ × Done) → Type 0
IsTold c None = ⊤
IsTold c (Some report) = TellsOf report.1 (Some (sealed_front c report.0)) × TellsBytes report.1

abbrev pub AreTold : Whole → Events → Type 0
AreTold c [] = ⊤
AreTold c (e ∷ es) = IsTold c (report_in e.0) × AreTold (step_whole e.0 e.1 c) es

-- at each moment, and from then on, a disk that counts has a list that begins its peer's list and has at least what is sealed of it;
-- what was so of earlier moments is so still
pub record LeavesLists (c : Whole) (events : Events) (span : Span) : Type 0 where
  pub earlier : (peer m : ℕ) (side : Side) → m ≤ span.before → m < 2 ^ 64 - 1
      → (disk_at (stands_of span.left) peer).past m side ≡ (disk_at (stands_of span.disks) peer).past m side
  pub moments : ListsAtMoments whole_machine c (happened c.core events) (record { before = span.before; now = span.now; disks = (stands_of span.left) })
  pub keeps : Keeps whole_machine (runs whole_machine c (happened c.core events)) span.now (stands_of span.left)
  pub told : AreTold c events

-- what a peer is to read is in what is sealed of its list, where its shard still has it
abbrev pub IsStored : Whole → Type 0
IsStored c = (peer : ℕ) → HasStored (first_job peer c.core) (catalogue_of (home peer c.core) c.core).blocks (sealed_front c peer)

abbrev pub AreStored : Whole → Events → Type 0
AreStored c [] = ⊤
AreStored c (e ∷ es) = (c.core.ended ≡ None → IsStored c) × AreStored (step_whole e.0 e.1 c) es

-- with any number of copies, where the core's lists go on as they should, and the logs have what is told of them: the lists at each moment, the logs behind it,
-- and that reads too cost what is reported of failed calls
pub record ShowsLists (span : Span) (result : Result ⊤ ClusterFault) (events : Events) : Type 0 where
  pub lists : (c : Whole) → c.core ≡ span.old.core → AreSteady c events → KeepsPeers c span.old.logs span.disks span.before → AreCached c span.old.cache → LeavesLists c events span
  pub goes_on : (c : Whole) → c.core ≡ span.old.core → AreSteady c events → KeepsPeers c span.old.logs span.disks span.before
      → OnOk result (KeepsPeers (runs whole_machine c events) span.new.logs span.left span.now)
  pub read : (c : Whole) → c.core ≡ span.old.core → AreSteady c events → KeepsPeers c span.old.logs span.disks span.before → AreStored c events → AreAllCounted span.old.core events span.disks span.left
  pub cached : (c : Whole) → c.core ≡ span.old.core → AreSteady c events → KeepsPeers c span.old.logs span.disks span.before → AreCached c span.old.cache
      → OnOk result (AreCached (runs whole_machine c events) span.new.cache)

-- what the events of a call show. Of whatever disks: what they report of failed calls is at the counts, and no other count rises, but where memory ran out. Of those that tell their contents: what is told of blocks, and that reads too cost what is reported
-- of failed calls; and, where a stop leaves the lists with which the call began, the lists at each moment. Behind it the cluster keeps what it needs to go on
pub record Shows (tells : Type 0) (span : Span) (result : Result ⊤ ClusterFault) (events : Events) : Type 0 where
  pub counted : AreCounted span.old.core events span.disks span.left
  pub untold : ran_out result ≡ false → UntoldStand span.old.core events span.disks span.left
  -- with one copy a shard: where the core goes on no disk failed on the way, from whatever disks on
  pub calm : (first : List DiskSeen) → GoesCalmly span.old.core first span.disks → OnOk result (GoesCalmly span.new.core first span.left)
  -- what is past of a disk stays, whose log has some list whatever a stop leaves; and so it does on
  pub past : tells → (first : List DiskSeen) → GoesCalmly span.old.core first span.disks → (peer : ℕ) → HoldsLog span.before span.old.logs span.disks peer
      → LeavesPast span.before span.now span.disks span.left span.new.logs result peer
  pub lists : tells → (c : Whole) → c.core ≡ span.old.core → CanGoOn c span.old.logs span.disks span.before → AreCached c span.old.cache → LeavesLists c events span
  pub goes_on : tells → (c : Whole) → c.core ≡ span.old.core → CanGoOn c span.old.logs span.disks span.before
      → OnOk result (CanGoOn (runs whole_machine c events) span.new.logs span.left span.now)
  -- for logs that read so, whatever a stop leaves
  pub told : tells → (c : Whole) → c.core ≡ span.old.core → CanRead c span.old.logs span.disks → AreCached c span.old.cache → AreTold c events
  pub read : tells → (c : Whole) → c.core ≡ span.old.core → CanRead c span.old.logs span.disks → AreStored c events → AreAllCounted span.old.core events span.disks span.left
  pub reads_on : tells → (c : Whole) → c.core ≡ span.old.core → CanRead c span.old.logs span.disks → OnOk result (CanRead (runs whole_machine c events) span.new.logs span.left)
  -- what is cached stays the blocks of what took effect
  pub cached : tells → (c : Whole) → c.core ≡ span.old.core → CanRead c span.old.logs span.disks → AreCached c span.old.cache → OnOk result (AreCached (runs whole_machine c events) span.new.cache)
  -- with any number of copies: a stop leaves no header on the disk of a peer but its own, where it left none before and its log has this
  pub headed : tells → (peer : ℕ) → IsHeadedAt (own_header span.old.core.members.shape peer) span.before span.old.logs span.disks peer
      → LeavesHeads (own_header span.old.core.members.shape peer) span.before span.now span.disks span.left span.new.logs result peer
  pub copies : tells → ShowsLists span result events
