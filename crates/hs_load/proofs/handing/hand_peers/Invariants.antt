-- So far the first peers are handed back.
use Rattle.std.proofs.Common.{◌≡◌, ◌<◌, ℕ, List, Option, get_or, length, map, vec_len}
use Rattle.hs_load.specs.Seating.{AreBack}
use Rattle.hs_load.specs.Team.{PeerEnds}
use Rattle.hs_peerlog.specs.Lists.{Keeping}
use Rattle.hs_promise.specs.declared.load.Stored.{Stored}
use Rattle.hs_taking.specs.Disks.{DiskSeen, log_at, seen_as, seen_at}
use Rattle.hs_workers.specs.declared.fault.WorkFault.{WorkFault}
use Rattle.hs_load.proofs.handing.hand_peers.Given as goal

abbrev pub invariant-loop-peer : goal.invariant-loop-peer
invariant-loop-peer g l = record {
  count : vec_len l.back ≡ vec_len l.initial.back;
  disks_count : length l.disks.items ≡ l.peer;
  logs_count : length l.logs.items ≡ l.peer;
  stored_count : length l.stored.items ≡ l.peer;
  stops_count : length l.stops.items ≡ l.peer;
  left : (slots : List (Option Keeping)) (old : List DiskSeen) → AreBack g.D.Disk.tells g.D.Disk.size g.D.Disk.stands g.D.Disk.faults slots old l.initial.back.items
      → AreBack g.D.Disk.tells g.D.Disk.size g.D.Disk.stands g.D.Disk.faults slots old l.back.items;
  each : (slots : List (Option Keeping)) (old : List DiskSeen) → AreBack g.D.Disk.tells g.D.Disk.size g.D.Disk.stands g.D.Disk.faults slots old l.initial.back.items
      → (peer : ℕ) (given : Stored) (stop : Option WorkFault) → peer < l.peer
      → PeerEnds g.D.Disk.tells peer (log_at slots peer) (seen_at old peer)
      (seen_at (map (λ disk. seen_as (g.D.Disk.size disk) (g.D.Disk.stands disk) (g.D.Disk.faults disk)) l.disks.items) peer)
      (log_at l.logs.items peer) (get_or l.stored.items peer given) (get_or l.stops.items peer stop);
}
