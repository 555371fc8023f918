-- What the log of each peer has between two calls, with any number of copies.
use Rattle.std.specs.Prelude.{◌≡◌, ℕ, true, List, None, Option, Some, if◌then◌else◌}
use Rattle.hs_cluster.specs.Disks.{DiskSeen, log_at, stands_of}
use Rattle.hs_cluster.specs.Sealed.{sealed_front}
use Rattle.hs_core_words.specs.Looking.{rejoin_of, status_of}
use Rattle.hs_entry.specs.declared.entry.Entry.{Entry}
use Rattle.hs_events.specs.Sane.{appended_of}
use Rattle.hs_events.specs.Whole.{Whole, counts}
use Rattle.hs_fold.specs.Shards.Setting.{Numbered}
use Rattle.hs_limits.specs.declared.limits.PeerStatus.{PeerStatus}
use Rattle.hs_limits.specs.declared.limits.PeerStatus.TheVariants.{Down, Good, Joining}
use Rattle.hs_limits.specs.declared.shape.Shape.{Shape}
use Rattle.hs_members.specs.Members.{IsPeer}
use Rattle.hs_moments.specs.Moments.{Keeps}
use Rattle.hs_moments.specs.WholeMachine.{whole_machine}
use Rattle.hs_peerlog.specs.Heads.{LeavesHeader}
use Rattle.hs_peerlog.specs.Lists.{HasLog, Keeping}
use Rattle.hs_ports.specs.Moments.{disk_at}
use Rattle.hs_rejoin.specs.Rejoin.{Rejoin}
use Rattle.hs_side.specs.Headers.{own_header}

-- ---- the list of a peer's log

-- of a good peer what it has sealed of its list, of one that follows the lead its whole list;
-- nothing is said while an emptying is due, nor of one that is down
abbrev pub log_by : Whole → ℕ → PeerStatus → Option Rejoin → Option Numbered
log_by c peer Good rejoin = Some (sealed_front c peer)
log_by c peer Joining None = None
log_by c peer Joining (Some r) = if r.empty then None else Some (c.lists peer)
log_by c peer Down rejoin = None

abbrev pub log_of_peer : Whole → ℕ → Option Numbered
log_of_peer c peer = log_by c peer (status_of peer c.core) (rejoin_of peer c.core)

-- ---- between two calls

-- the log of a peer is in use, under its own header, with this list, whatever a stop leaves; and this entry waits
pub record HasPeerLog (shape : Shape) (logs : List (Option Keeping)) (disks : List DiskSeen) (peer : ℕ) (list : Numbered) (waiting : Option Entry) : Type 0 where
  pub keeping : Keeping
  pub used : log_at logs peer ≡ Some keeping
  pub generation : ℕ
  pub head : keeping.log.head ≡ Some (own_header shape peer, generation)
  pub has : HasLog keeping (disk_at (stands_of disks) peer) list waiting

-- so each peer's, with what is told of it
pub record KeepsPeerLogs (c : Whole) (logs : List (Option Keeping)) (disks : List DiskSeen) : Type 0 where
  pub each : (peer : ℕ) (list : Numbered) → IsPeer c.core.members.shape peer → log_of_peer c peer ≡ Some list
      → HasPeerLog c.core.members.shape logs disks peer list (appended_of peer c.core)

-- what a cluster keeps to go on: the logs; whatever a stop leaves of a disk that counts begins its peer's list, and is blank or has its header
pub record KeepsPeers (c : Whole) (logs : List (Option Keeping)) (disks : List DiskSeen) (now : ℕ) : Type 0 where
  pub listed : KeepsPeerLogs c logs disks
  pub keeps : Keeps whole_machine c now (stands_of disks)
  pub headed : (peer : ℕ) → counts c peer ≡ true → LeavesHeader (disk_at (stands_of disks) peer) (own_header c.core.members.shape peer)
