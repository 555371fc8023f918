-- That the list of a peer's log only goes on.
use Rattle.std.specs.Prelude.{◌≡◌, ◌++◌, ◌==◌, ℕ, Bool, false, List, None, Option, Some}
use Rattle.hs_cluster.specs.Disks.{DiskSeen, log_at, stands_of}
use Rattle.hs_core_words.specs.declared.event.Event.{Event}
use Rattle.hs_core_words.specs.declared.event.Event.TheVariants as event
use Rattle.hs_entry.specs.declared.entry.Entry.{Entry}
use Rattle.hs_fold.specs.Shards.Setting.{Numbered}
use Rattle.hs_peerlog.specs.Lists.{IsKept, Keeping}
use Rattle.hs_ports.specs.Disk.{Standing}
use Rattle.hs_ports.specs.Moments.{disk_at}

-- a log is kept on its disk, with a list that begins with this one
pub record KeepsMore (list : Numbered) (keeping : Keeping) (disk : Standing) : Type 0 where
  pub more : Numbered
  pub waiting : Option Entry
  pub kept : IsKept keeping (disk.seen keeping.log.side) (list ++ more) waiting

-- so does the log of a disk that was in use with a list, as long as it is in use; and one that is out of use stays so, and its disk as it is, whatever a stop may leave
pub record SlotGoesOn (slot kept : Option Keeping) (old new : Standing) : Type 0 where
  pub out : slot ≡ None → kept ≡ None
  pub rests : slot ≡ None → new ≡ old
  pub on : (keeping after : Keeping) (list : Numbered) (waiting : Option Entry) → slot ≡ Some keeping → IsKept keeping (old.seen keeping.log.side) list waiting
      → kept ≡ Some after → KeepsMore list after new

-- that of a peer, with the logs and the disks before and behind
abbrev pub GoesOn : List (Option Keeping) → List DiskSeen → List (Option Keeping) → List DiskSeen → ℕ → Type 0
GoesOn logs disks after left peer = SlotGoesOn (log_at logs peer) (log_at after peer) (disk_at (stands_of disks) peer) (disk_at (stands_of left) peer)

-- ---- who begins to join

-- whether an event is the line that starts this peer
abbrev pub is_start : ℕ → Event → Bool
is_start peer (event.Line line o) = false
is_start peer (event.Report p done) = false
is_start peer (event.Turn line p) = false
is_start peer (event.Deliver line message) = false
is_start peer (event.Lose line message) = false
is_start peer (event.Repeat line message) = false
is_start peer (event.Nudge line p) = false
is_start peer (event.Fail line p) = false
is_start peer (event.Start line p) = p == peer
