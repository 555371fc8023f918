-- What reading the disks of a store comes to, before any of them is written.
use Rattle.std.specs.Prelude.{◌≡◌, ◌≤◌, ◌<◌, ◌*◌, ◌⊎◌, ℕ, ⊤, List, Option, Some, None, IfSome, IsSome}
use Rattle.hs_fold.specs.Shards.Setting.{Numbered}
use Rattle.hs_limits.specs.declared.shape.Shape.{Shape}
use Rattle.hs_peerlog.specs.declared.fault.LogFault.TheVariants as log
use Rattle.hs_peerlog.specs.Images.{LeavesAll, LeavesOnly}
use Rattle.hs_peerlog.specs.Opening.{refusal_in}
use Rattle.hs_peerlog.specs.Views.{HasView, IsAsViewed, Viewing}
use Rattle.hs_ports.specs.declared.disk.Side.{Side}
use Rattle.hs_ports.specs.Disk.{settled}
use Rattle.hs_ports.specs.Fault.{HasRisen}
use Rattle.hs_side.specs.Current.{list_in}
use Rattle.hs_side.specs.declared.header.Header.{Header}
use Rattle.hs_side.specs.Standing.{Stands}
use Rattle.hs_taking.specs.declared.fault.TakeFault.{TakeFault}
use Rattle.hs_taking.specs.declared.fault.TakeFault.TheVariants.{WrongShape, NoMemory}
use Rattle.hs_taking.specs.Disks.{DiskSeen, seen_at}

-- from the moment before to now a disk was read, and not written: it reads as before, and a stop leaves what it could leave before
pub record IsOnlyRead (tells : Type 0) (before now : ℕ) (old new : DiskSeen) : Type 0 where
  pub seen : tells → (side : Side) → new.stands.seen side ≡ old.stands.seen side
  pub moments : tells → old.stands.last ≤ before → LeavesAll before now old.stands new.stands
  pub counted : old.faults ≤ new.faults

-- a view of the list that the disk reads as, of which all is on the medium
pub record HasViewed (tells : Type 0) (shape : Shape) (peer : ℕ) (old new : DiskSeen) (viewing : Viewing) : Type 0 where
  pub stands : Stands tells viewing.log (new.size viewing.log.side) new.stands
  pub viewed : IsAsViewed tells viewing (new.size viewing.log.side) new.stands
  pub listed : tells → IsSome (list_in old.stands.seen)
  pub has : tells → (list : Numbered) → list_in old.stands.seen ≡ Some list → HasView viewing new.stands.seen list
  pub accepted : tells → refusal_in shape peer old.stands.seen ≡ None
  pub durable : tells → (side : Side) → new.stands.loose side ≡ settled (old.stands.seen side)
  -- no call failed
  pub calm : new.faults ≡ old.faults

-- the disk failed, or is no log
abbrev pub IsUnread : Type 0 → DiskSeen → DiskSeen → Type 0
IsUnread tells old new = HasRisen old.faults new.faults ⊎ (tells → list_in old.stands.seen ≡ None)

-- a view, or none; the disk of another store failed
pub record IsViewed (tells : Type 0) (shape : Shape) (peer : ℕ) (old new : DiskSeen) (view : Option Viewing) : Type 0 where
  pub some : IfSome view (HasViewed tells shape peer old new)
  pub none : view ≡ None → IsUnread tells old new
  pub own : tells → (found : Header) → refusal_in shape peer old.stands.seen ≡ Some (log.WrongShape found) → HasRisen old.faults new.faults

-- of a fault that a disk is of another store: it is this peer's, and its count stands
abbrev pub IsOtherAt : Type 0 → Shape → ℕ → DiskSeen → DiskSeen → TakeFault → Type 0
IsOtherAt tells shape peer old new (WrongShape at found) =
    (at ≡ peer) × (tells → refusal_in shape peer old.stands.seen ≡ Some (log.WrongShape found)) × (new.faults ≡ old.faults)
IsOtherAt tells shape peer old new NoMemory = ⊤

-- the disk of a peer is of another store, and its count stands; each one before it that is so failed
pub record IsFirstOther (tells : Type 0) (shape : Shape) (old new : List DiskSeen) (peer : ℕ) (found : Header) : Type 0 where
  pub within : peer < shape.shards * shape.copies
  pub told : tells → refusal_in shape peer (seen_at old peer).stands.seen ≡ Some (log.WrongShape found)
  pub stands : (seen_at new peer).faults ≡ (seen_at old peer).faults
  pub first : tells → (before : ℕ) (other : Header) → before < peer → refusal_in shape before (seen_at old before).stands.seen ≡ Some (log.WrongShape other)
      → HasRisen (seen_at old before).faults (seen_at new before).faults

abbrev pub IsOther : Type 0 → Shape → List DiskSeen → List DiskSeen → TakeFault → Type 0
IsOther tells shape old new (WrongShape peer found) = IsFirstOther tells shape old new peer found
IsOther tells shape old new NoMemory = ⊤

-- a view of a disk that was not written since: it is of what the disk reads as, and whatever a stop leaves has it
pub record IsViewOf (tells : Type 0) (shape : Shape) (peer : ℕ) (disk : DiskSeen) (viewing : Viewing) : Type 0 where
  pub stands : Stands tells viewing.log (disk.size viewing.log.side) disk.stands
  pub viewed : IsAsViewed tells viewing (disk.size viewing.log.side) disk.stands
  pub listed : tells → IsSome (list_in disk.stands.seen)
  pub has : tells → (list : Numbered) → list_in disk.stands.seen ≡ Some list → HasView viewing disk.stands.seen list
  pub accepted : tells → refusal_in shape peer disk.stands.seen ≡ None
  pub only : tells → (list : Numbered) → list_in disk.stands.seen ≡ Some list → LeavesOnly disk.stands list
