-- Words of the private steps; no public clause cites them.
use Rattle.std.specs.Prelude.{◌≡◌, ◌≤◌, ◌<◌, ◌+◌, ◌*◌, ◌⊎◌, ℕ, ⊤, true, false, List, Option, None, Some, IfSome, MatchOption, slice_index_or}
use Rattle.hs_coldstart.specs.Choose.{is_above}
use Rattle.hs_entry.specs.declared.entry.Entry.{Entry}
use Rattle.hs_limits.specs.declared.shape.Shape.{Shape}
use Rattle.hs_limits.specs.Shape.{peer_of}
use Rattle.hs_peerlog.specs.declared.fault.LogFault.{LogFault}
use Rattle.hs_peerlog.specs.declared.fault.LogFault.TheVariants as log
use Rattle.hs_peerlog.specs.Opening.{refusal_in}
use Rattle.hs_peerlog.specs.Views.{Viewing}
use Rattle.hs_ports.specs.declared.disk.Side.{Side}
use Rattle.hs_ports.specs.Fault.{HasRisen}
use Rattle.hs_scrub.specs.declared.fault.ScrubFault.{ScrubFault}
use Rattle.hs_scrub.specs.declared.fault.ScrubFault.TheVariants.{WrongShape, NoMemory}
use Rattle.hs_scrub.specs.declared.mark.PeerMark.{PeerMark}
use Rattle.hs_scrub.specs.declared.mark.PeerMark.TheVariants.{Same, Behind, Differs, NoLog, Fault}
use Rattle.hs_scrub.specs.Marks.{IsMarked, is_read}
use Rattle.hs_scrub.specs.Scrubbed.{IsNoLog, mark_at}
use Rattle.hs_side.specs.Current.{list_in}
use Rattle.hs_side.specs.Standing.{Stands}
use Rattle.hs_taking.specs.Disks.{DiskSeen, seen_at}
use Rattle.hs_taking.specs.Viewed.{HasViewed}

-- the view of a peer
abbrev pub view_at : List (Option Viewing) → ℕ → Option Viewing
view_at views peer = slice_index_or views peer None

-- ---- reads of disks that stand

-- a disk stands as it did
pub record IsStill (tells : Type 0) (old new : DiskSeen) : Type 0 where
  pub size : (side : Side) → new.size side ≡ old.size side
  pub stands : tells → new.stands ≡ old.stands

-- so each of some; calls on them may have failed
pub record AreCalled (tells : Type 0) (old new : List DiskSeen) : Type 0 where
  pub still : (peer : ℕ) → IsStill tells (seen_at old peer) (seen_at new peer)
  pub counted : (peer : ℕ) → (seen_at old peer).faults ≤ (seen_at new peer).faults

-- so each of some, and no call failed
pub record AreStill (tells : Type 0) (old new : List DiskSeen) : Type 0 where
  pub still : (peer : ℕ) → IsStill tells (seen_at old peer) (seen_at new peer)
  pub calm : (peer : ℕ) → (seen_at new peer).faults ≡ (seen_at old peer).faults

-- what a fault of a read says of its disk's count
abbrev pub Counts : ℕ → ℕ → LogFault → Type 0
Counts before now (log.NotALog at) = now ≡ before
Counts before now (log.WrongShape found) = now ≡ before
Counts before now log.Disk = HasRisen before now
Counts before now log.NoMemory = before ≤ now

-- so each of some, and a read of this peer's log was refused; no call on another disk failed
pub record IsLostBy (tells : Type 0) (old new : List DiskSeen) (lost : ℕ) (fault : LogFault) : Type 0 where
  pub still : (peer : ℕ) → IsStill tells (seen_at old peer) (seen_at new peer)
  pub calm : (peer : ℕ) → (peer ≡ lost → ⊥) → (seen_at new peer).faults ≡ (seen_at old peer).faults
  pub counted : (seen_at old lost).faults ≤ (seen_at new lost).faults
  pub counts : Counts (seen_at old lost).faults (seen_at new lost).faults fault

-- ---- what was found of each peer

-- why a peer has no list
abbrev pub IsLost : Type 0 → Shape → ℕ → DiskSeen → DiskSeen → PeerMark → Type 0
IsLost tells shape peer old new Same = ⊥
IsLost tells shape peer old new (Behind length) = ⊥
IsLost tells shape peer old new (Differs number) = ⊥
IsLost tells shape peer old new (NoLog at) = IsNoLog tells shape peer old new at
IsLost tells shape peer old new Fault = HasRisen old.faults new.faults

-- a view of its disk, or why it has none
abbrev pub IsLooked : Type 0 → Shape → ℕ → DiskSeen → DiskSeen → Option Viewing → PeerMark → Type 0
IsLooked tells shape peer old new view mark =
    MatchOption view (IsLost tells shape peer old new mark) (HasViewed tells shape peer old new)

-- so of the first peers
pub record AreLooked (tells : Type 0) (shape : Shape) (old new : List DiskSeen) (views : List (Option Viewing)) (marks : List PeerMark) (count : ℕ) : Type 0 where
  pub each : (peer : ℕ) → peer < count → IsLooked tells shape peer (seen_at old peer) (seen_at new peer) (view_at views peer) (mark_at marks peer)

-- of a fault that a disk is of another store: it is this peer's, and its count stands
abbrev pub IsOtherAt : Type 0 → Shape → ℕ → DiskSeen → DiskSeen → ScrubFault → Type 0
IsOtherAt tells shape peer old new (WrongShape at found) =
    (at ≡ peer) × (tells → refusal_in shape peer old.stands.seen ≡ Some (log.WrongShape found)) × (new.faults ≡ old.faults)
IsOtherAt tells shape peer old new NoMemory = ⊤

-- the disks stand as the views were read
pub record AreViews (tells : Type 0) (views : List (Option Viewing)) (disks : List DiskSeen) : Type 0 where
  pub each : (peer : ℕ) (view : Viewing) → view_at views peer ≡ Some view → Stands tells view.log ((seen_at disks peer).size view.log.side) (seen_at disks peer).stands

-- ---- what is done of a shard

-- a mark is by the list of its peer, where it has a view, and that of the taken peer
abbrev pub Fits : Type 0 → DiskSeen → DiskSeen → Option Viewing → PeerMark → Type 0
Fits tells measure old view mark = IfSome view (λ v. (is_read mark ≡ true)
    × (tells → (whole list : List (ℕ × Entry)) → list_in measure.stands.seen ≡ Some whole → list_in old.stands.seen ≡ Some list → IsMarked whole mark list))

-- some views are gone
abbrev pub AreFewer : List (Option Viewing) → List (Option Viewing) → Type 0
AreFewer old new = (peer : ℕ) → (view_at new peer ≡ view_at old peer) ⊎ (view_at new peer ≡ None)

-- the views and the marks of the peers before and behind these stay
pub record AreKept (from to : ℕ) (views views' : List (Option Viewing)) (marks marks' : List PeerMark) : Type 0 where
  pub view : (peer : ℕ) → (peer < from) ⊎ (to ≤ peer) → view_at views' peer ≡ view_at views peer
  pub mark : (peer : ℕ) → (peer < from) ⊎ (to ≤ peer) → mark_at marks' peer ≡ mark_at marks peer

-- the view of this peer has the greatest rank of those from a peer to another, and is the first of them
pub record IsGreatest (views : List (Option Viewing)) (from to taken : ℕ) (view : Viewing) : Type 0 where
  pub low : from ≤ taken
  pub high : taken < to
  pub own : view_at views taken ≡ Some view
  pub greatest : (other : ℕ) (its : Viewing) → from ≤ other → other < to → view_at views other ≡ Some its → is_above its.rank view.rank ≡ false
  pub lowest : (other : ℕ) (its : Viewing) → from ≤ other → other < taken → view_at views other ≡ Some its → is_above view.rank its.rank ≡ true

-- each peer of these has its mark by the list of this one
pub record IsMeasured (tells : Type 0) (begun : List DiskSeen) (views : List (Option Viewing)) (marks : List PeerMark) (from to length : ℕ) : Type 0 where
  pub taken : ℕ
  pub own : Viewing
  pub greatest : IsGreatest views from to taken own
  pub same : mark_at marks taken ≡ Same
  pub long : length ≡ own.rank.number
  pub fits : (peer : ℕ) → from ≤ peer → peer < to → Fits tells (seen_at begun taken) (seen_at begun peer) (view_at views peer) (mark_at marks peer)

-- none of these has a view
pub record HasNoView (views : List (Option Viewing)) (from to length : ℕ) : Type 0 where
  pub none : (peer : ℕ) → from ≤ peer → peer < to → view_at views peer ≡ None
  pub empty : length ≡ 0

abbrev pub IsDone : Type 0 → List DiskSeen → List (Option Viewing) → List PeerMark → ℕ → ℕ → ℕ → Type 0
IsDone tells begun views marks from to length = IsMeasured tells begun views marks from to length ⊎ HasNoView views from to length

-- ---- calls that mark peers

-- the disks, the views and the marks at some time
pub record State : Type 0 where
  pub disks : List DiskSeen
  pub views : List (Option Viewing)
  pub marks : List PeerMark

-- what was found of each peer is so still, and some views may be gone
pub record Walks (tells : Type 0) (old new : State) : Type 0 where
  pub called : AreCalled tells old.disks new.disks
  pub views : AreViews tells new.views new.disks
  pub looked : (shape : Shape) (begun : List DiskSeen) (count : ℕ) → AreLooked tells shape begun old.disks old.views old.marks count
      → AreLooked tells shape begun new.disks new.views new.marks count
  pub fewer : AreFewer old.views new.views

-- so, and nothing but the view and the mark of this peer changed
pub record Touches (tells : Type 0) (at : ℕ) (old new : State) : Type 0 where
  pub walks : Walks tells old new
  pub view : (peer : ℕ) → (peer ≡ at → ⊥) → view_at new.views peer ≡ view_at old.views peer
  pub mark : (peer : ℕ) → (peer ≡ at → ⊥) → mark_at new.marks peer ≡ mark_at old.marks peer

-- peers were marked by the list of the taken one, whose view stands: of those from a peer to another the first
pub record Goes (tells : Type 0) (from upto to taken : ℕ) (old new : State) : Type 0 where
  pub walks : Walks tells old new
  pub kept : AreKept from to old.views new.views old.marks new.marks
  pub view : view_at new.views taken ≡ view_at old.views taken
  pub same : mark_at new.marks taken ≡ Same
  pub fits : (shape : Shape) (begun : List DiskSeen) (count : ℕ) → AreLooked tells shape begun old.disks old.views old.marks count → to ≤ count
      → (peer : ℕ) → from ≤ peer → peer < upto → Fits tells (seen_at begun taken) (seen_at begun peer) (view_at new.views peer) (mark_at new.marks peer)

-- the view of the taken one is gone
pub record Ends (tells : Type 0) (from to taken : ℕ) (old new : State) : Type 0 where
  pub walks : Walks tells old new
  pub kept : AreKept from to old.views new.views old.marks new.marks
  pub gone : view_at new.views taken ≡ None

-- all of a shard is marked
pub record Settles (tells : Type 0) (from to length : ℕ) (old new : State) : Type 0 where
  pub walks : Walks tells old new
  pub kept : AreKept from to old.views new.views old.marks new.marks
  pub done : (shape : Shape) (begun : List DiskSeen) (count : ℕ) → AreLooked tells shape begun old.disks old.views old.marks count → to ≤ count
      → IsDone tells begun new.views new.marks from to length

-- the mark of a peer of whose log a read was refused so, None for want of memory; that another store's header was read can't be
abbrev pub mark_of : LogFault → Option PeerMark
mark_of (log.NotALog at) = Some (NoLog at)
mark_of (log.WrongShape found) = Some (NoLog 6)
mark_of log.Disk = Some Fault
mark_of log.NoMemory = None

-- so many shards are marked, the taken log of each of which has this length
pub record AreDone (tells : Type 0) (shape : Shape) (upto : ℕ) (lengths : List ℕ) (old new : State) : Type 0 where
  pub walks : Walks tells old new
  pub done : (shard : ℕ) → shard < upto → (of : Shape) (begun : List DiskSeen) (count : ℕ) → AreLooked tells of begun old.disks old.views old.marks count → shape.shards * shape.copies ≤ count
      → IsDone tells begun new.views new.marks (peer_of shape shard 0) (peer_of shape shard 0 + shape.copies) (slice_index_or lengths shard 0)
