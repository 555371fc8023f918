-- Words of the private steps of copying; no public clause cites them.
use Rattle.std.specs.Prelude.{◌≡◌, ◌≤◌, ◌<◌, ◌+◌, ◌++◌, ◌⊎◌, ℕ, List, [], Contains, Option, None, Some, IfSome, flat_map, take}
use Rattle.hs_entry.specs.declared.entry.Entry.{Entry}
use Rattle.hs_entry.specs.Entries.{IsPrefix}
use Rattle.hs_limits.specs.declared.shape.Shape.{Shape}
use Rattle.hs_peerlog.specs.Images.{LeavesEach, LeavesOnly}
use Rattle.hs_peerlog.specs.Lists.{HasLog, IsReady, Keeping}
use Rattle.hs_peerlog.specs.Past.{PastStays}
use Rattle.hs_peerlog.specs.Views.{HasView, Viewing}
use Rattle.hs_ports.specs.Fault.{HasRisen}
use Rattle.hs_scrub.specs.Copied.{AreBeside, IsLeft, IsOldOrFront, copy_text}
use Rattle.hs_scrub.specs.declared.giving.Given.{Given}
use Rattle.hs_scrub.specs.declared.giving.Given.TheVariants.{Ended, Left, Whole}
use Rattle.hs_scrub.specs.declared.mark.PeerMark.{PeerMark}
use Rattle.hs_scrub.specs.declared.mark.PeerMark.TheVariants.{Same, Behind, Differs, NoLog, Fault}
use Rattle.hs_scrub.specs.Steps.{IsStill}
use Rattle.hs_scrub.specs.Text.{line_of}
use Rattle.hs_side.specs.Current.{list_in}
use Rattle.hs_taking.specs.Disks.{DiskSeen, seen_at}

-- the log of a disk may go on, and no entry waits
pub record IsOpen (tells : Type 0) (disk : DiskSeen) (log : Keeping) : Type 0 where
  pub ready : IsReady tells log (disk.size log.log.side) disk.stands
  pub sealed : log.waits ≡ None

-- an empty log was made of a disk, and no call on it failed
pub record IsEmptied (tells : Type 0) (before : ℕ) (old new : DiskSeen) (log : Keeping) : Type 0 where
  pub opens : IsOpen tells new log
  pub list : tells → old.stands.last ≤ before → HasLog log new.stands [] None
  pub calm : new.faults ≡ old.faults

-- the list is a front of this one
pub record IsFront (whole list : List (ℕ × Entry)) : Type 0 where
  pub front : IsPrefix list whole

-- calls that read a peer's disk and change another's, and touch no other
pub record Calls (tells : Type 0) (from place before now : ℕ) (old new : List DiskSeen) : Type 0 where
  pub source : IsStill tells (seen_at old from) (seen_at new from)
  pub read : (seen_at old from).faults ≤ (seen_at new from).faults
  pub others : (peer : ℕ) → (peer ≡ from → ⊥) → (peer ≡ place → ⊥) → seen_at new peer ≡ seen_at old peer
  pub past : tells → (seen_at old place).stands.last ≤ before → PastStays before now (seen_at old place).stands (seen_at new place).stands
  pub counted : (seen_at old place).faults ≤ (seen_at new place).faults
  pub later : before ≤ now

-- no call on either of the two failed
pub record AreCalm (from place : ℕ) (old new : List DiskSeen) : Type 0 where
  pub source : (seen_at new from).faults ≡ (seen_at old from).faults
  pub target : (seen_at new place).faults ≡ (seen_at old place).faults

-- why a read of the source was refused; where it tells a list it only failed
abbrev pub IsStopped : Type 0 → (List (ℕ × Entry) → Type 0) → ℕ → ℕ → PeerMark → Type 0
IsStopped tells has before now Same = ⊥
IsStopped tells has before now (Behind length) = ⊥
IsStopped tells has before now (Differs number) = ⊥
IsStopped tells has before now (NoLog at) = (now ≡ before) × (tells → (list : List (ℕ × Entry)) → has list → ⊥)
IsStopped tells has before now Fault = HasRisen before now

-- what comes of giving entries, by its cause: all was given, of which more may be said; the disk that gets them failed; or a read of the source was refused
abbrev pub Outcome : Type 0 → (List (ℕ × Entry) → Type 0) → ℕ → ℕ → List DiskSeen → List DiskSeen → Type 0 → Given → Type 0
Outcome tells has from place old new more Whole = AreCalm from place old new × more
Outcome tells has from place old new more Left =
    HasRisen (seen_at old place).faults (seen_at new place).faults × ((seen_at new from).faults ≡ (seen_at old from).faults)
Outcome tells has from place old new more (Ended mark) = IsStopped tells has (seen_at old from).faults (seen_at new from).faults mark

-- a log that had the first entries of the source has one more
pub record HasMore (tells : Type 0) (source : Viewing) (before : ℕ) (from old new : DiskSeen) (log log' : Keeping) (index : ℕ) : Type 0 where
  pub opens : IsOpen tells new log'
  pub list : tells → old.stands.last ≤ before → (whole : List (ℕ × Entry)) → HasView source from.stands.seen whole → HasLog log old.stands (take index whole) None
      → HasLog log' new.stands (take (index + 1) whole) None

-- a disk has this list, by reads and whatever a stop leaves
pub record HasWhole (disk : DiskSeen) (whole : List (ℕ × Entry)) : Type 0 where
  pub gives : list_in disk.stands.seen ≡ Some whole
  pub leaves : LeavesOnly disk.stands whole

-- a log that was empty has them all
pub record HasAll (tells : Type 0) (source : Viewing) (before : ℕ) (from old new : DiskSeen) (log : Keeping) : Type 0 where
  pub list : tells → old.stands.last ≤ before → (whole : List (ℕ × Entry)) → HasView source from.stands.seen whole → HasLog log old.stands [] None → HasWhole new whole

-- a stop leaves fronts of the source's list meanwhile
abbrev pub HasFronts : Type 0 → Viewing → ℕ → ℕ → DiskSeen → DiskSeen → DiskSeen → Keeping → ℕ → Type 0
HasFronts tells source before now from old new log index =
    tells → old.stands.last ≤ before → (whole : List (ℕ × Entry)) → HasView source from.stands.seen whole → HasLog log old.stands (take index whole) None
    → LeavesEach before now old.stands new.stands (IsFront whole)

-- ---- one peer gets the list

-- a disk got the whole of the source's list
pub record GotAll (tells : Type 0) (source : Viewing) (before : ℕ) (from old new : DiskSeen) : Type 0 where
  pub list : tells → old.stands.last ≤ before → (whole : List (ℕ × Entry)) → HasView source from.stands.seen whole → HasWhole new whole

-- what comes of copying to a peer, by its cause
abbrev pub CopyOutcome : Type 0 → Shape → Viewing → ℕ → ℕ → ℕ → List DiskSeen → List DiskSeen → Given → Type 0
CopyOutcome tells shape source before from place old new Whole = AreCalm from place old new × GotAll tells source before (seen_at old from) (seen_at old place) (seen_at new place)
CopyOutcome tells shape source before from place old new Left =
    IsLeft tells shape place (seen_at old place) (seen_at new place) × ((seen_at new from).faults ≡ (seen_at old from).faults)
CopyOutcome tells shape source before from place old new (Ended mark) =
    IsStopped tells (HasView source (seen_at old from).stands.seen) (seen_at old from).faults (seen_at new from).faults mark

-- a stop leaves the old list, or a front of the source's meanwhile
abbrev pub CopyFronts : Type 0 → Viewing → ℕ → ℕ → DiskSeen → DiskSeen → DiskSeen → Type 0
CopyFronts tells source before now from old new =
    tells → old.stands.last ≤ before → (whole : List (ℕ × Entry)) → HasView source from.stands.seen whole → (held : List (ℕ × Entry)) → LeavesOnly old.stands held
    → LeavesEach before now old.stands new.stands (IsOldOrFront held whole)

-- ---- the peers of a shard, one after another

-- a peer got the list, and no call on its disk failed
pub record HasGot (tells : Type 0) (source : Viewing) (before : ℕ) (from old new : DiskSeen) : Type 0 where
  pub calm : new.faults ≡ old.faults
  pub got : GotAll tells source before from old new

-- the source's disk was only read, no peer of another shard was called, and a stop leaves old lists or fronts of the source's
pub record Spares (tells : Type 0) (shape : Shape) (source : Viewing) (from before now total : ℕ) (old new : List DiskSeen) : Type 0 where
  pub still : IsStill tells (seen_at old from) (seen_at new from)
  pub read : (seen_at old from).faults ≤ (seen_at new from).faults
  pub others : (peer : ℕ) → (AreBeside shape from peer → ⊥) → seen_at new peer ≡ seen_at old peer
  pub fronts : (peer : ℕ) → peer < total → (peer ≡ from → ⊥) → CopyFronts tells source before now (seen_at old from) (seen_at old peer) (seen_at new peer)
  pub counted : (peer : ℕ) → (seen_at old peer).faults ≤ (seen_at new peer).faults
  pub later : before ≤ now

-- a peer was passed over: it is the source, or of another shard
pub record Skips (shape : Shape) (from peer : ℕ) (old new : List DiskSeen) (out out' : List ℕ) : Type 0 where
  pub other : AreBeside shape from peer → (peer ≡ from → ⊥) → ⊥
  pub same : new ≡ old
  pub text : out' ≡ out

-- it got the list
pub record Takes (tells : Type 0) (shape : Shape) (source : Viewing) (from peer before : ℕ) (old new : List DiskSeen) (out out' : List ℕ) : Type 0 where
  pub beside : AreBeside shape from peer
  pub differ : peer ≡ from → ⊥
  pub calm : AreCalm from peer old new
  pub got : GotAll tells source before (seen_at old from) (seen_at old peer) (seen_at new peer)
  pub text : out' ≡ out

-- it was left, and its line put
pub record Leaves (tells : Type 0) (shape : Shape) (from peer : ℕ) (old new : List DiskSeen) (out out' : List ℕ) : Type 0 where
  pub beside : AreBeside shape from peer
  pub differ : peer ≡ from → ⊥
  pub left : IsLeft tells shape peer (seen_at old peer) (seen_at new peer)
  pub calm : (seen_at new from).faults ≡ (seen_at old from).faults
  pub text : out' ≡ out ++ line_of 0 peer Fault

-- what comes of one peer; or a read of the source was refused
abbrev pub OneGiven : Type 0 → Shape → Viewing → ℕ → ℕ → ℕ → List DiskSeen → List DiskSeen → List ℕ → List ℕ → Option PeerMark → Type 0
OneGiven tells shape source from peer before old new out out' None =
    Skips shape from peer old new out out' ⊎ Takes tells shape source from peer before old new out out' ⊎ Leaves tells shape from peer old new out out'
OneGiven tells shape source from peer before old new out out' (Some mark) =
    IsStopped tells (HasView source (seen_at old from).stands.seen) (seen_at old from).faults (seen_at new from).faults mark × (out' ≡ out)

-- so far, of the first peers
pub record Copies (tells : Type 0) (shape : Shape) (source : Viewing) (from before now upto total : ℕ) (old new : List DiskSeen) (out out' : List ℕ) : Type 0 where
  pub spares : Spares tells shape source from before now total old new
  pub calm : (seen_at new from).faults ≡ (seen_at old from).faults
  pub left : List ℕ
  pub text : out' ≡ out ++ flat_map (λ peer. line_of 0 peer Fault) left
  pub low : (peer : ℕ) → Contains left peer → peer < upto
  pub told : (peer : ℕ) → Contains left peer → AreBeside shape from peer × (peer ≡ from → ⊥) × IsLeft tells shape peer (seen_at old peer) (seen_at new peer)
  pub done : (peer : ℕ) → peer < upto → AreBeside shape from peer → (peer ≡ from → ⊥) → Contains left peer ⊎ HasGot tells source before (seen_at old from) (seen_at old peer) (seen_at new peer)
  pub rest : (peer : ℕ) → upto ≤ peer → (peer ≡ from → ⊥) → seen_at new peer ≡ seen_at old peer

-- in the end
pub record HasGiven (tells : Type 0) (shape : Shape) (source : Viewing) (from before total : ℕ) (old new : List DiskSeen) (out out' : List ℕ) : Type 0 where
  pub left : List ℕ
  pub ended : Option PeerMark
  pub text : out' ≡ out ++ copy_text from left ended
  pub told : (peer : ℕ) → Contains left peer → AreBeside shape from peer × (peer ≡ from → ⊥) × IsLeft tells shape peer (seen_at old peer) (seen_at new peer)
  pub stopped : IfSome ended (IsStopped tells (HasView source (seen_at old from).stands.seen) (seen_at old from).faults (seen_at new from).faults)
  pub done : ended ≡ None → (peer : ℕ) → peer < total → AreBeside shape from peer → (peer ≡ from → ⊥) → Contains left peer ⊎ HasGot tells source before (seen_at old from) (seen_at old peer) (seen_at new peer)
