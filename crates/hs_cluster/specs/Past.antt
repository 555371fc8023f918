-- That what is past of the disks stays.
use Rattle.std.specs.Prelude.{◌≡◌, ◌≤◌, ℕ, ⊤, List, OnOk, Option, Result, Some}
use Rattle.hs_cluster.specs.declared.fault.ClusterFault.{ClusterFault}
use Rattle.hs_cluster.specs.Disks.{DiskSeen, log_at, stands_of}
use Rattle.hs_entry.specs.declared.entry.Entry.{Entry}
use Rattle.hs_fold.specs.Shards.Setting.{Numbered}
use Rattle.hs_peerlog.specs.Lists.{HasLog, Keeping}
use Rattle.hs_ports.specs.Disk.{Standing}
use Rattle.hs_ports.specs.Moments.{disk_at}
use Rattle.hs_taking.specs.Past.{PastStays}

-- a log has some list on its disk, whatever a stop leaves
pub record HasSomeLog (keeping : Keeping) (disk : Standing) : Type 0 where
  pub list : Numbered
  pub waiting : Option Entry
  pub has : HasLog keeping disk list waiting

-- no call of the disk of a peer is ahead, and its log, where it is in use, has some list
pub record HoldsLog (now : ℕ) (logs : List (Option Keeping)) (disks : List DiskSeen) (peer : ℕ) : Type 0 where
  pub called : (disk_at (stands_of disks) peer).last ≤ now
  pub log : (keeping : Keeping) → log_at logs peer ≡ Some keeping → HasSomeLog keeping (disk_at (stands_of disks) peer)

-- from the moment before to now what is past of the disk of a peer stays; and where what was done came to its end, with these logs, that of the peer holds on
pub record LeavesPast (before now : ℕ) (disks left : List DiskSeen) (logs : List (Option Keeping)) (done : Result ⊤ ClusterFault) (peer : ℕ) : Type 0 where
  pub stays : PastStays before now (disk_at (stands_of disks) peer) (disk_at (stands_of left) peer)
  pub holds : OnOk done (HoldsLog now logs left peer)
