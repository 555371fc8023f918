-- What opening a cluster promises: what was found, and how the core goes on from it.
use Rattle.std.specs.List.{AllPairs}
use Rattle.std.specs.Prelude.{◌≡◌, ◌⊎◌, ◌++◌, ◌<◌, ◌≤◌, ℕ, ⊤, List, length, not, Contains, Option, None, Some, IsSome, OnOk, Result, false, is_some, true, slice_index_or}
use Rattle.hs_cluster.specs.Cached.{AreCached}
use Rattle.hs_cluster.specs.Calls.{outcome_by, ran_out}
use Rattle.hs_cluster.specs.Calm.{GoesCalmly}
use Rattle.hs_cluster.specs.Counts.{AreAllCounted, AreCounted, NoneFalls, UntoldStand}
use Rattle.hs_cluster.specs.declared.fault.ClusterFault.{ClusterFault}
use Rattle.hs_cluster.specs.Headed.{IsOwnAt, LeavesHeads}
use Rattle.hs_cluster.specs.Kept.{AreStored, AreTold, CanGoOn, CanRead, LeavesLists, ShowsLists}
use Rattle.hs_cluster.specs.Past.{LeavesPast}
use Rattle.hs_cluster.specs.PeerLogs.{KeepsPeers, log_of_peer}
use Rattle.hs_cluster.specs.Rooms.{HaveRecordRoom}
use Rattle.hs_cluster.specs.Running.{Running}
use Rattle.hs_events.specs.Beginning.{first_items}
use Rattle.hs_events.specs.Course.{items_of, steps}
use Rattle.hs_events.specs.Due.{Events, MomentsRise, is_walk, next_turn}
use Rattle.hs_events.specs.Found.{Found, first_core, opened_list, starts_good}
use Rattle.hs_events.specs.Taken.{is_taken, peer_count, taken_list}
use Rattle.hs_events.specs.Sane.{appended_of}
use Rattle.hs_events.specs.Whole.{Whole, counts, floor, open_whole, reach}
use Rattle.hs_fold.specs.Shards.Setting.{Numbered, Setting}
use Rattle.hs_moments.specs.Machine.{runs}
use Rattle.hs_moments.specs.WholeMachine.{IsFrontOf, last_of, whole_machine}
use Rattle.hs_peerlog.specs.Images.{IsAny, LeavesOnly}
use Rattle.hs_peerlog.specs.declared.fault.LogFault.TheVariants as log
use Rattle.hs_peerlog.specs.Lists.{HasLog, IsKept, Keeping}
use Rattle.hs_peerlog.specs.Opening.{refusal_in}
use Rattle.hs_members.specs.Members.{IsPeer, home_of}
use Rattle.hs_ports.specs.Fault.{HasRisen}
use Rattle.hs_ports.specs.Moments.{disk_at}
use Rattle.hs_side.specs.Current.{list_in}
use Rattle.hs_side.specs.declared.header.Header.{Header}
use Rattle.hs_side.specs.Headers.{own_header}
use Rattle.hs_taking.specs.Copies.{IsHadOrFront, LeavesBy}
use Rattle.hs_taking.specs.Disks.{DiskSeen, log_at, seen_at, stands_of}
use Rattle.hs_taking.specs.Headed.{OwnTheirLogs}
use Rattle.hs_taking.specs.Past.{PastStays}
use Rattle.hs_taking.specs.Shares.{IsLater, IsLostDisk, KeepsDisk, Span}

-- ---- what was found

-- what the disk of a peer was read as
abbrev pub log_in : Found → ℕ → Option Numbered
log_in found peer = slice_index_or found.logs peer None

-- the taken log of a peer's shard was lost: its own, or one to which its list was not yet found or made equal
pub record IsLeftBehind (set : Setting) (found : Found) (peer : ℕ) : Type 0 where
  pub lost : ℕ × ℕ
  pub among : Contains found.lost lost
  pub same_shard : home_of set.shape lost.0 ≡ home_of set.shape peer

-- of one peer, from entry to the opening of the core, with the logs that are in use then
-- read: its log is what its disk reads as at entry, or its disk failed and counts as having none
-- good, kept: it is good where its log is in use; its disk had a log then
-- aside: of any other the disk failed, or had no log, or the taken log of its shard was lost
-- calm: no call on a good peer's disk failed
-- log: a log that is in use has the list that its shard opens with, right before the first turn, whatever a stop leaves
-- reads: with one copy a shard, reads of the disk give it, however the disk was
-- past: what is past of its disk stays
-- disk: with one copy a shard, the calls on its disk leave its list as it is, at each moment
-- leaves, taken: at each moment its disk leaves a list that it could leave at entry, or a front of the one that is taken; that of the taken log only one that it could leave at entry
pub record IsFound (tells : Type 0) (set : Setting) (span : Span) (found : Found) (logs : List (Option Keeping)) (peer : ℕ) : Type 0 where
  pub read : tells → (log_in found peer ≡ list_in (seen_at span.old peer).stands.seen)
      ⊎ ((log_in found peer ≡ None) × HasRisen (seen_at span.old peer).faults (seen_at span.new peer).faults)
  pub good : starts_good found peer ≡ is_some (log_at logs peer)
  pub kept : starts_good found peer ≡ true → IsSome (log_in found peer)
  pub aside : starts_good found peer ≡ false → HasRisen (seen_at span.old peer).faults (seen_at span.new peer).faults ⊎ ((log_in found peer ≡ None) ⊎ IsLeftBehind set found peer)
  pub calm : starts_good found peer ≡ true → (seen_at span.new peer).faults ≡ (seen_at span.old peer).faults
  pub log : tells → (seen_at span.old peer).stands.last ≤ span.before → (keeping : Keeping) → log_at logs peer ≡ Some keeping
      → HasLog keeping (seen_at span.new peer).stands (opened_list set found (home_of set.shape peer)) None
  pub reads : set.shape.copies ≡ 1 → tells → (keeping : Keeping) → log_at logs peer ≡ Some keeping
      → IsKept keeping ((seen_at span.new peer).stands.seen keeping.log.side) (opened_list set found (home_of set.shape peer)) None
  pub past : tells → (seen_at span.old peer).stands.last ≤ span.before → PastStays span.before span.now (seen_at span.old peer).stands (seen_at span.new peer).stands
  pub disk : set.shape.copies ≡ 1 → KeepsDisk tells span.before span.now (seen_at span.old peer) (seen_at span.new peer)
  pub leaves : LeavesBy tells span.before span.now (seen_at span.old peer) (seen_at span.new peer) (IsHadOrFront (taken_list set.shape found.logs (home_of set.shape peer)))
  pub taken : is_taken set.shape found.logs peer ≡ true → LeavesBy tells span.before span.now (seen_at span.old peer) (seen_at span.new peer) IsAny

-- a peer of a taken log whose disk failed before the core was opened, and when
pub record IsLostLog (tells : Type 0) (set : Setting) (span : Span) (found : Found) (x : ℕ × ℕ) : Type 0 where
  pub taken : is_taken set.shape found.logs x.0 ≡ true
  pub bad : starts_good found x.0 ≡ false
  pub later : span.before ≤ x.1
  pub up_to : x.1 ≤ span.now
  pub disk : IsLostDisk tells span.before (seen_at span.old x.0) (seen_at span.new x.0) x.1

pub record Finds (tells : Type 0) (set : Setting) (span : Span) (found : Found) (slots : List (Option Keeping)) : Type 0 where
  pub logs : length found.logs ≡ peer_count set.shape
  pub goods : length found.good ≡ peer_count set.shape
  pub opened : found.opened ≡ span.now
  pub later : span.before ≤ span.now
  pub each : (peer : ℕ) → peer < peer_count set.shape → IsFound tells set span found slots peer
  pub lost : (x : ℕ × ℕ) → Contains found.lost x → IsLostLog tells set span found x
  pub once : AllPairs IsLater found.lost
  pub all_lost : (peer : ℕ) → peer < peer_count set.shape → is_taken set.shape found.logs peer ≡ true → starts_good found peer ≡ false → (moment : ℕ) × Contains found.lost (peer, moment)

-- ---- all of it

-- what a core beside its lists says right behind opening: the log of a peer, where it is told of, is that of a good one, with the list that its shard opened with, and nothing waits for its seal;
-- and a disk that counts is a good peer's, whose list goes on from there
pub record OpensLists (set : Setting) (found : Found) (c : Whole) : Type 0 where
  pub core : c.core ≡ first_core set found
  pub good : (peer : ℕ) (list : Numbered) → IsPeer set.shape peer → log_of_peer c peer ≡ Some list → starts_good found peer ≡ true
  pub listed : (peer : ℕ) (list : Numbered) → IsPeer set.shape peer → log_of_peer c peer ≡ Some list → list ≡ opened_list set found (home_of set.shape peer)
  pub none : (peer : ℕ) (list : Numbered) → IsPeer set.shape peer → log_of_peer c peer ≡ Some list → appended_of peer c.core ≡ None
  pub counted : (peer : ℕ) → counts c peer ≡ true → starts_good found peer ≡ true
  pub front : (peer : ℕ) → counts c peer ≡ true → IsFrontOf peer (opened_list set found (home_of set.shape peer)) (reach c peer)
  pub long : (peer : ℕ) → counts c peer ≡ true → floor c peer ≤ last_of (opened_list set found (home_of set.shape peer))

-- no call of a disk is ahead, and what it reads as is what a stop leaves, whatever that leaves
pub record LeaveOneList (before : ℕ) (disks : List DiskSeen) : Type 0 where
  pub called : (peer : ℕ) → (seen_at disks peer).stands.last ≤ before
  pub only : (peer : ℕ) (list : Numbered) → list_in (seen_at disks peer).stands.seen ≡ Some list → LeavesOnly (seen_at disks peer).stands list

-- the core over what was found; then the turns that were due, until nobody had one, or until memory ran out. Done: whether it goes on.
-- What is said of lists, and that no disk failed where it goes on, is so with one copy a shard
pub record Opens (tells : Type 0) (set : Setting) (span : Span) (cluster : Running) (done : Result ⊤ ClusterFault) : Type 0 where
  pub found : Found
  -- the cluster and the disks right before the first turn
  pub begun : Running
  pub disks : List DiskSeen
  pub finds : Finds tells set (record { before = span.before; now = found.opened; old = span.old; new = disks }) found begun.logs
  -- a disk of another store failed
  pub own : tells → (peer : ℕ) (other : Header) → peer < length span.old → refusal_in set.shape peer (seen_at span.old peer).stands.seen ≡ Some (log.WrongShape other)
      → HasRisen (seen_at span.old peer).faults (seen_at disks peer).faults
  pub events : Events
  pub due : is_walk next_turn (not (ran_out done)) 0 (first_core set found) events ≡ true
  pub rises : MomentsRise found.opened events span.now
  pub core : ran_out done ≡ false → cluster.core ≡ steps (first_core set found) events
  pub outcome : ran_out done ≡ false → done ≡ outcome_by cluster.core.ended
  pub going : ran_out done ≡ true → (steps (first_core set found) events).ended ≡ None
  pub journal : cluster.core.journal ≡ (steps (first_core set found) events).journal
  pub refused : cluster.core.refused ≡ (steps (first_core set found) events).refused
  pub course : cluster.course ≡ first_items set.shape found span.before ++ items_of (first_core set found) events
  -- no count fell before the turns; what these report of failed calls is at the counts, and a core that goes on has room
  pub falls : NoneFalls span.old disks
  pub counted : AreCounted (first_core set found) events disks span.new
  -- and no other count rises by them, but where memory ran out
  pub untold : ran_out done ≡ false → UntoldStand (first_core set found) events disks span.new
  pub rooms : HaveRecordRoom (first_core set found) events
  -- where the core goes on no disk failed since entry
  pub calm : set.shape.copies ≡ 1 → OnOk done (GoesCalmly cluster.core span.old span.new)
  -- what is past of each disk stays, where no call of it was ahead
  pub past : set.shape.copies ≡ 1 → tells → (peer : ℕ) → (disk_at (stands_of span.old) peer).last ≤ span.before → LeavesPast span.before span.now span.old span.new cluster.logs done peer
  -- where the core had ended nothing came behind the reading
  pub still : IsSome (first_core set found).ended → span.new ≡ disks
  -- where the core was opened: the lists at each moment from entry on, and behind all of it the cluster may go on
  pub lists : set.shape.copies ≡ 1 → tells → LeaveOneList span.before span.old → (first_core set found).ended ≡ None
      → LeavesLists (open_whole set found) events (record { before = span.before; now = span.now; old = begun; new = cluster; disks = span.old; left = span.new })
  pub goes_on : set.shape.copies ≡ 1 → tells → LeaveOneList span.before span.old → OnOk done (CanGoOn (runs whole_machine (open_whole set found) events) cluster.logs span.new span.now)
  -- and, however the disks were at entry, what was told of blocks; and that reads too cost what is reported of failed calls
  pub told : set.shape.copies ≡ 1 → tells → (first_core set found).ended ≡ None → AreTold (open_whole set found) events
  pub read : set.shape.copies ≡ 1 → tells → (first_core set found).ended ≡ None → AreStored (open_whole set found) events → AreAllCounted (first_core set found) events disks span.new
  pub reads_on : set.shape.copies ≡ 1 → tells → OnOk done (CanRead (runs whole_machine (open_whole set found) events) cluster.logs span.new)
  pub cached : set.shape.copies ≡ 1 → tells → OnOk done (AreCached (runs whole_machine (open_whole set found) events) cluster.cache)
  -- with any number of copies: before the first turn each log in use has the header of its peer; and where no call of a disk was ahead at entry, and a stop left no header there but its peer's, it leaves none at any moment from entry on, and so its log has this
  pub owns : OwnTheirLogs tells set.shape (log_at begun.logs)
  pub headed : tells → (peer : ℕ) → IsOwnAt set.shape span.before span.old peer → LeavesHeads (own_header set.shape peer) span.before span.now span.old span.new cluster.logs done peer
  -- so what a cluster with copies keeps is kept before the first turn, where no call of a disk was ahead at entry and the core has the lists that its shards opened with
  pub peers : tells → ((peer : ℕ) → (seen_at span.old peer).stands.last ≤ span.before) → (c : Whole) → OpensLists set found c → KeepsPeers c begun.logs disks found.opened
  -- and in the turns, from the core as it was opened
  pub begins : begun.core ≡ first_core set found
  pub uncached : begun.cache ≡ None
  pub copies : tells → ShowsLists (record { before = found.opened; now = span.now; old = begun; new = cluster; disks = disks; left = span.new }) done events
