-- What a run on disks shows, beside its events.
use Rattle.std.specs.Prelude.{IsSome, List, None, Option, Some, length, true, ℕ, ◌<◌, ◌≡◌, ◌≤◌}
use Rattle.hs_cluster.specs.Cached.{AreCached}
use Rattle.hs_cluster.specs.Calm.{GoesCalmly}
use Rattle.hs_cluster.specs.Counts.{AreAllCounted, AreCounted, NoneFalls}
use Rattle.hs_cluster.specs.Disks.{DiskSeen, seen_at, stands_of}
use Rattle.hs_cluster.specs.Headed.{IsHeadedAt, IsOwnAt, LeavesItsHeader}
use Rattle.hs_cluster.specs.Kept.{AreStored, AreTold, CanGoOn, CanRead, LeavesLists, Span}
use Rattle.hs_cluster.specs.Opens.{Finds, LeaveOneList, OpensLists}
use Rattle.hs_cluster.specs.Past.{HoldsLog}
use Rattle.hs_cluster.specs.PeerLogs.{KeepsPeers}
use Rattle.hs_cluster.specs.Rooms.{HaveRecordRoom}
use Rattle.hs_cluster.specs.Steady.{AreSteady}
use Rattle.hs_events.specs.Due.{Events}
use Rattle.hs_events.specs.Found.{Found, first_core, starts_good}
use Rattle.hs_events.specs.Reports.{failures}
use Rattle.hs_events.specs.Whole.{Whole, open_whole}
use Rattle.hs_fold.specs.Shards.Setting.{Setting}
use Rattle.hs_moments.specs.Machine.{runs}
use Rattle.hs_moments.specs.WholeMachine.{whole_machine}
use Rattle.hs_peerlog.specs.declared.fault.LogFault.TheVariants as log
use Rattle.hs_peerlog.specs.Lists.{Keeping}
use Rattle.hs_peerlog.specs.Opening.{refusal_in}
use Rattle.hs_ports.specs.Fault.{HasRisen}
use Rattle.hs_ports.specs.Moments.{disk_at}
use Rattle.hs_side.specs.declared.header.Header.{Header}
use Rattle.hs_side.specs.Headers.{own_header}
use Rattle.hs_taking.specs.Past.{PastStays}

-- the same run from the opening of its core on, with these disks then
abbrev pub from_opening : Found → List DiskSeen → Span → Span
from_opening found disks span = record { before = found.opened; now = span.now; old = span.old; new = span.new; disks = disks; left = span.left }

-- the count of a disk stands since entry whose peer was good as the core was opened, and of which events report no failed call
abbrev pub StandUntold : Setting → Found → Events → List DiskSeen → List DiskSeen → Type 0
StandUntold set found events old new = (disk : ℕ) → starts_good found disk ≡ true → failures true disk (first_core set found) events ≡ 0 → (seen_at new disk).faults ≡ (seen_at old disk).faults

-- what opening found; that counts of faults rose as the reports tell; and, with one copy a shard, of disks that tell their contents, where a stop at entry leaves one list of each, the lists at each moment
-- slots, disks: the logs in use right before the first turn, and the disks then
-- own: a disk of another store failed
-- still: where the core had ended nothing came behind the reading
-- past: what is past of each disk stays, where no call of it was ahead
-- headed: with any number of copies, where a stop at entry left no header on the disk of a peer but its own, it leaves none at any moment
-- told, read: however the disks were at entry: what was told of blocks; and that reads too cost what they tell of failed calls, where the lists have what the catalogues say
-- copies: with any number of copies, where no call of a disk was ahead at entry: of a core whose lists begin as its shards opened and go on as they should, the lists at each moment from its opening on, and what was told of blocks
-- reads: and that reads too cost what they tell of failed calls, where such lists have what the catalogues say
pub record RunsOn (tells : Type 0) (set : Setting) (span : Span) (found : Found) (events : Events) : Type 0 where
  pub slots : List (Option Keeping)
  pub disks : List DiskSeen
  pub finds : Finds tells set (record { before = span.before; now = found.opened; old = span.disks; new = disks }) found slots
  pub own : tells → (peer : ℕ) (other : Header) → peer < length span.disks → refusal_in set.shape peer (seen_at span.disks peer).stands.seen ≡ Some (log.WrongShape other)
      → HasRisen (seen_at span.disks peer).faults (seen_at disks peer).faults
  pub falls : NoneFalls span.disks disks
  pub counted : AreCounted (first_core set found) events disks span.left
  pub rooms : HaveRecordRoom (first_core set found) events
  pub still : IsSome (first_core set found).ended → span.left ≡ disks
  pub past : set.shape.copies ≡ 1 → tells → (peer : ℕ) → (disk_at (stands_of span.disks) peer).last ≤ span.before → PastStays span.before span.now (disk_at (stands_of span.disks) peer) (disk_at (stands_of span.left) peer)
  pub headed : tells → (peer : ℕ) → IsOwnAt set.shape span.before span.disks peer → LeavesItsHeader (own_header set.shape peer) span.before span.now (disk_at (stands_of span.disks) peer) (disk_at (stands_of span.left) peer)
  pub lists : set.shape.copies ≡ 1 → tells → LeaveOneList span.before span.disks → (first_core set found).ended ≡ None → LeavesLists (open_whole set found) events span
  pub told : set.shape.copies ≡ 1 → tells → (first_core set found).ended ≡ None → AreTold (open_whole set found) events
  pub read : set.shape.copies ≡ 1 → tells → (first_core set found).ended ≡ None → AreStored (open_whole set found) events → AreAllCounted (first_core set found) events disks span.left
  pub copies : tells → ((peer : ℕ) → (seen_at span.disks peer).stands.last ≤ span.before) → (c : Whole) → OpensLists set found c → AreSteady c events → LeavesLists c events (from_opening found disks span)
  pub reads : tells → ((peer : ℕ) → (seen_at span.disks peer).stands.last ≤ span.before) → (c : Whole) → OpensLists set found c → AreSteady c events → AreStored c events → AreAllCounted (first_core set found) events disks span.left

-- and what it needs to go on, where its core does, with one copy a shard
pub record CanRunOn (tells : Type 0) (set : Setting) (span : Span) (found : Found) (events : Events) : Type 0 where
  -- with any number of copies: of which disks no count rose since entry
  pub untold : StandUntold set found events span.disks span.left
  -- no disk failed since entry
  pub calm : set.shape.copies ≡ 1 → GoesCalmly span.new.core span.disks span.left
  -- and the log of each that no call was ahead of has some list, whatever a stop leaves
  pub holds : set.shape.copies ≡ 1 → tells → (peer : ℕ) → (disk_at (stands_of span.disks) peer).last ≤ span.before → HoldsLog span.now span.new.logs span.left peer
  -- and has the header of its peer, with any number of copies
  pub owns : tells → (peer : ℕ) → IsOwnAt set.shape span.before span.disks peer → IsHeadedAt (own_header set.shape peer) span.now span.new.logs span.left peer
  pub goes : set.shape.copies ≡ 1 → tells → LeaveOneList span.before span.disks → CanGoOn (runs whole_machine (open_whole set found) events) span.new.logs span.left span.now
  pub reads : set.shape.copies ≡ 1 → tells → CanRead (runs whole_machine (open_whole set found) events) span.new.logs span.left
  pub cached : set.shape.copies ≡ 1 → tells → AreCached (runs whole_machine (open_whole set found) events) span.new.cache
  -- with any number of copies the logs have what such lists tell of them, and the disks begin them
  pub keeps : tells → ((peer : ℕ) → (seen_at span.disks peer).stands.last ≤ span.before) → (c : Whole) → OpensLists set found c → AreSteady c events → KeepsPeers (runs whole_machine c events) span.new.logs span.left span.now
  pub keeps_cached : tells → ((peer : ℕ) → (seen_at span.disks peer).stands.last ≤ span.before) → (c : Whole) → OpensLists set found c → AreSteady c events → AreCached (runs whole_machine c events) span.new.cache
