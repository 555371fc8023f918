-- Words of private steps on the copies of a shard, from their views to their logs; no public clause cites them.
use Rattle.std.specs.Prelude.{◌≡◌, ◌≤◌, ◌<◌, ◌⊎◌, ⊤, Bool, true, false, ℕ, List, None, Option, Some, slice_index_or}
use Rattle.hs_fold.specs.Shards.Setting.{Numbered}
use Rattle.hs_limits.specs.declared.shape.Shape.{Shape}
use Rattle.hs_peerlog.specs.Images.{LeavesEach}
use Rattle.hs_peerlog.specs.Lists.{HasLog, IsKept, IsReady, Keeping}
use Rattle.hs_peerlog.specs.Views.{Viewing}
use Rattle.hs_ports.specs.Fault.{HasRisen}
use Rattle.hs_side.specs.Current.{list_in}
use Rattle.hs_taking.specs.Copies.{IsOf, IsOwnOrFront}
use Rattle.hs_taking.specs.declared.slot.Slot.{Slot}
use Rattle.hs_taking.specs.declared.slot.Slot.TheVariants.{Aside, Viewed, Equal, Kept}
use Rattle.hs_taking.specs.declared.slot.Source.{Source}
use Rattle.hs_taking.specs.declared.slot.Source.TheVariants as source
use Rattle.hs_taking.specs.Disks.{DiskSeen, seen_at}
use Rattle.hs_taking.specs.Pairs.{IsStill}
use Rattle.hs_taking.specs.Past.{PastStays}
use Rattle.hs_taking.specs.Shares.{KeepsDisk}
use Rattle.hs_taking.specs.Viewed.{IsViewOf}

abbrev pub slot_at : List Slot → ℕ → Slot
slot_at slots peer = slice_index_or slots peer Aside

-- what is kept of a peer's disk stands as the disk does
abbrev pub IsSlot : Type 0 → Shape → ℕ → DiskSeen → Slot → Type 0
IsSlot tells shape peer disk Aside = ⊤
IsSlot tells shape peer disk (Viewed view) = IsViewOf tells shape peer disk view
IsSlot tells shape peer disk (Equal view) = IsViewOf tells shape peer disk view
IsSlot tells shape peer disk (Kept log) = IsReady tells log (disk.size log.log.side) disk.stands

-- ---- views that are compared with that of the taken log

-- a view: found equal; or not, since it differs or the taken log was lost; or its disk failed, or that of the taken log did
abbrev pub IsSortedView : Type 0 → DiskSeen → DiskSeen → DiskSeen → Bool → Viewing → Slot → Type 0
IsSortedView tells a b b' lost view Aside = (lost ≡ true) ⊎ (tells → HasRisen b.faults b'.faults)
IsSortedView tells a b b' lost view (Viewed same) = (same ≡ view) × (b'.faults ≡ b.faults) × ((lost ≡ true) ⊎ (tells → list_in b.stands.seen ≡ list_in a.stands.seen → ⊥))
IsSortedView tells a b b' lost view (Equal same) = (same ≡ view) × (b'.faults ≡ b.faults) × (tells → list_in b.stands.seen ≡ list_in a.stands.seen)
IsSortedView tells a b b' lost view (Kept log) = ⊥

abbrev pub IsSorted : Type 0 → DiskSeen → DiskSeen → DiskSeen → Bool → Slot → Slot → Type 0
IsSorted tells a b b' lost Aside new = new ≡ Aside
IsSorted tells a b b' lost (Viewed view) new = IsSortedView tells a b b' lost view new
IsSorted tells a b b' lost (Equal view) new = new ≡ Equal view
IsSorted tells a b b' lost (Kept log) new = new ≡ Kept log

-- one comparison: what it shows of the taken log's disk
pub record HasTried (tells : Type 0) (a a' : DiskSeen) (before after : Bool) : Type 0 where
  pub still : before ≡ true → after ≡ true
  pub calm : after ≡ false → a'.faults ≡ a.faults
  pub failed : after ≡ true → (before ≡ true) ⊎ (tells → HasRisen a.faults a'.faults)

-- so of the copies of a shard, up to a peer
pub record AreSorted (tells : Type 0) (shape : Shape) (shard from to : ℕ) (old new : List DiskSeen) (slots slots' : List Slot) (lost : Bool) : Type 0 where
  pub each : (peer : ℕ) → IsOf shape shard peer → peer < to → IsSorted tells (seen_at old from) (seen_at old peer) (seen_at new peer) lost (slot_at slots peer) (slot_at slots' peer)
  pub rest : (peer : ℕ) → to ≤ peer → slot_at slots' peer ≡ slot_at slots peer
  pub untouched : (peer : ℕ) → to ≤ peer → (peer ≡ from → ⊥) → seen_at new peer ≡ seen_at old peer
  pub outside : (peer : ℕ) → (IsOf shape shard peer → ⊥) → (slot_at slots' peer ≡ slot_at slots peer) × (seen_at new peer ≡ seen_at old peer)
  pub still : (peer : ℕ) → IsStill tells (seen_at old peer) (seen_at new peer)
  pub calm : lost ≡ false → (seen_at new from).faults ≡ (seen_at old from).faults
  pub failed : lost ≡ true → tells → HasRisen (seen_at old from).faults (seen_at new from).faults

-- ---- logs that are recovered, or made equal to the taken one

-- the taken log, on its disk as it is now, has this list
abbrev pub IsSourceOf : Source → DiskSeen → Numbered → Type 0
IsSourceOf (source.Kept log) a list = IsKept log (a.stands.seen log.log.side) list None
IsSourceOf (source.Lost moment) a list = ⊥

abbrev pub is_lost : Source → Bool
is_lost (source.Kept log) = false
is_lost (source.Lost moment) = true

abbrev pub lost_at : Source → Option ℕ
lost_at (source.Kept log) = None
lost_at (source.Lost moment) = Some moment

abbrev pub log_in : Source → Option Keeping
log_in (source.Kept log) = Some log
log_in (source.Lost moment) = None

-- a log is kept, of which this holds, or none is, for this reason
abbrev pub IsKeptOr : (Keeping → Type 0) → Type 0 → Slot → Type 0
IsKeptOr P out Aside = out
IsKeptOr P out (Viewed view) = ⊥
IsKeptOr P out (Equal view) = ⊥
IsKeptOr P out (Kept log) = P log

-- of the disk of a log that is kept, which has each list of which this holds
pub record IsGood (tells : Type 0) (before : ℕ) (b b' : DiskSeen) (is_taken : Numbered → Type 0) (log : Keeping) : Type 0 where
  pub ready : IsReady tells log (b'.size log.log.side) b'.stands
  pub calm : b'.faults ≡ b.faults
  pub has : tells → b.stands.last ≤ before → (list : Numbered) → is_taken list → HasLog log b'.stands list None

-- so where it was found equal, and what reads of it give
pub record IsGoodView (tells : Type 0) (before : ℕ) (b b' : DiskSeen) (log : Keeping) : Type 0 where
  pub good : IsGood tells before b b' (λ list. list_in b.stands.seen ≡ Some list) log
  pub sealed : log.waits ≡ None
  pub reads : tells → (list : Numbered) → list_in b.stands.seen ≡ Some list → IsKept log (b'.stands.seen log.log.side) list None

-- what became of a disk whose list was made equal to the taken one, as far as that came; where that was lost before, nothing
pub record HasMoved (tells : Type 0) (before now : ℕ) (b b' : DiskSeen) (is_taken : Numbered → Type 0) : Type 0 where
  pub moments : tells → b.stands.last ≤ before → (list : Numbered) → is_taken list → (own : Numbered) → list_in b.stands.seen ≡ Some own → LeavesEach before now b.stands b'.stands (IsOwnOrFront own list)
  pub past : tells → b.stands.last ≤ before → PastStays before now b.stands b'.stands
  pub counted : b.faults ≤ b'.faults

-- by what was kept of the disk: what became of it
abbrev pub IsMoved : Type 0 → ℕ → ℕ → DiskSeen → DiskSeen → Source → (Numbered → Type 0) → Slot → Type 0
IsMoved tells before now b b' source is_taken Aside = b' ≡ b
IsMoved tells before now b b' source is_taken (Viewed view) = HasMoved tells before now b b' is_taken × (is_lost source ≡ true → b' ≡ b)
IsMoved tells before now b b' source is_taken (Equal view) = KeepsDisk tells before now b b'
IsMoved tells before now b b' source is_taken (Kept log) = b' ≡ b

-- and what is kept of it then; the taken log before and behind it. Where it was lost before, nothing is kept of a list that was not found equal
abbrev pub IsMade : Type 0 → ℕ → DiskSeen → DiskSeen → Source → Source → (Numbered → Type 0) → Slot → Slot → Type 0
IsMade tells before b b' first last is_taken Aside new = new ≡ Aside
IsMade tells before b b' first last is_taken (Viewed view) new =
    IsKeptOr (IsGood tells before b b' is_taken) ((is_lost last ≡ true) ⊎ (tells → HasRisen b.faults b'.faults)) new × (is_lost first ≡ true → new ≡ Aside)
IsMade tells before b b' first last is_taken (Equal view) new = IsKeptOr (IsGoodView tells before b b') (tells → HasRisen b.faults b'.faults) new
IsMade tells before b b' first last is_taken (Kept log) new = new ≡ Kept log

-- the taken log stays, and no call on its disk failed; or it is lost now
abbrev pub IsSourceStep : Type 0 → ℕ → DiskSeen → DiskSeen → Source → Source → Type 0
IsSourceStep tells now a a' (source.Kept log) (source.Kept same) = (same ≡ log) × (a'.faults ≡ a.faults)
IsSourceStep tells now a a' (source.Kept log) (source.Lost moment) = (moment ≡ now) × (tells → HasRisen a.faults a'.faults)
IsSourceStep tells now a a' (source.Lost moment) (source.Kept log) = ⊥
IsSourceStep tells now a a' (source.Lost moment) (source.Lost same) = same ≡ moment

-- the taken log may be read
abbrev pub IsSource : Type 0 → DiskSeen → Source → Type 0
IsSource tells a (source.Kept log) = IsReady tells log (a.size log.log.side) a.stands × (log.waits ≡ None)
IsSource tells a (source.Lost moment) = ⊤

-- the taken log stays, and no call on its disk failed; or it was lost at a moment in between
abbrev pub IsSourceRun : Type 0 → ℕ → ℕ → DiskSeen → DiskSeen → Source → Source → Type 0
IsSourceRun tells before now a a' (source.Kept log) (source.Kept same) = (same ≡ log) × (a'.faults ≡ a.faults)
IsSourceRun tells before now a a' (source.Kept log) (source.Lost moment) = (before ≤ moment) × (moment ≤ now) × (tells → HasRisen a.faults a'.faults)
IsSourceRun tells before now a a' (source.Lost moment) (source.Kept log) = ⊥
IsSourceRun tells before now a a' (source.Lost moment) (source.Lost same) = same ≡ moment

-- what became of the copies of a shard, up to a peer
pub record AreMade (tells : Type 0) (shape : Shape) (shard from to : ℕ) (before now : ℕ) (old new : List DiskSeen) (slots slots' : List Slot) (first last : Source) : Type 0 where
  pub each : (peer : ℕ) → IsOf shape shard peer → peer < to → IsMade tells before (seen_at old peer) (seen_at new peer) first last (IsSourceOf first (seen_at old from)) (slot_at slots peer) (slot_at slots' peer)
  pub moved : (peer : ℕ) → IsOf shape shard peer → peer < to → (peer ≡ from → ⊥) → IsMoved tells before now (seen_at old peer) (seen_at new peer) first (IsSourceOf first (seen_at old from)) (slot_at slots peer)
  pub rest : (peer : ℕ) → to ≤ peer → slot_at slots' peer ≡ slot_at slots peer
  pub untouched : (peer : ℕ) → to ≤ peer → (peer ≡ from → ⊥) → seen_at new peer ≡ seen_at old peer
  pub outside : (peer : ℕ) → (IsOf shape shard peer → ⊥) → (slot_at slots' peer ≡ slot_at slots peer) × (seen_at new peer ≡ seen_at old peer)
  pub still : IsStill tells (seen_at old from) (seen_at new from)
  pub source : IsSourceRun tells before now (seen_at old from) (seen_at new from) first last
