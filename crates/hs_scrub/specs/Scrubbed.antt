-- What a scrub tells of the disks of a store.
use Rattle.std.specs.Prelude.{◌≡◌, ◌≤◌, ◌<◌, ◌+◌, ◌*◌, ◌⊎◌, ⊤, ℕ, true, false, List, [], ◌++◌, length, None, Some, slice_index_or}
use Rattle.hs_coldstart.specs.Choose.{is_above}
use Rattle.hs_entry.specs.declared.entry.Entry.{Entry}
use Rattle.hs_entry.specs.Entries.{rank_of}
use Rattle.hs_limits.specs.declared.shape.Shape.{Shape}
use Rattle.hs_limits.specs.Shape.{peer_of}
use Rattle.hs_peerlog.specs.declared.fault.LogFault.TheVariants as log
use Rattle.hs_peerlog.specs.Images.{GivesList}
use Rattle.hs_peerlog.specs.Lists.{last_of}
use Rattle.hs_peerlog.specs.Opening.{refusal_in}
use Rattle.hs_ports.specs.declared.disk.Side.{Side}
use Rattle.hs_ports.specs.Disk.{settled}
use Rattle.hs_ports.specs.Fault.{HasRisen}
use Rattle.hs_scrub.specs.declared.fault.ScrubFault.{ScrubFault}
use Rattle.hs_scrub.specs.declared.fault.ScrubFault.TheVariants.{WrongShape, NoMemory}
use Rattle.hs_scrub.specs.declared.mark.PeerMark.{PeerMark}
use Rattle.hs_scrub.specs.declared.mark.PeerMark.TheVariants.{Same, Behind, Differs, NoLog, Fault}
use Rattle.hs_scrub.specs.Marks.{IsMarked, is_read}
use Rattle.hs_scrub.specs.Text.{scrub_text}
use Rattle.hs_side.specs.Current.{list_in}
use Rattle.hs_taking.specs.Disks.{DiskSeen, seen_at}
use Rattle.hs_taking.specs.Viewed.{IsFirstOther}

-- the mark of a peer
abbrev pub mark_at : List PeerMark → ℕ → PeerMark
mark_at marks peer = slice_index_or marks peer Fault

-- ---- one peer

-- its list was read, of which this holds: no call on its disk failed, and all of it is on the medium
pub record IsListed (tells : Type 0) (shape : Shape) (peer : ℕ) (old new : DiskSeen) (holds : List (ℕ × Entry) → Type 0) : Type 0 where
  pub calm : new.faults ≡ old.faults
  pub accepted : tells → refusal_in shape peer old.stands.seen ≡ None
  pub durable : tells → (side : Side) → new.stands.loose side ≡ settled (old.stands.seen side)
  pub gives : tells → GivesList holds old.stands.seen

-- its disk is no log, from this place on: no call on it failed
pub record IsNoLog (tells : Type 0) (shape : Shape) (peer : ℕ) (old new : DiskSeen) (at : ℕ) : Type 0 where
  pub calm : new.faults ≡ old.faults
  pub refused : tells → refusal_in shape peer old.stands.seen ≡ Some (log.NotALog at)

-- the cause of a peer's mark, where this list was taken of its shard
abbrev pub HasCause : Type 0 → Shape → ℕ → DiskSeen → DiskSeen → List (ℕ × Entry) → PeerMark → Type 0
HasCause tells shape peer old new taken Same = IsListed tells shape peer old new (IsMarked taken Same)
HasCause tells shape peer old new taken (Behind length) = IsListed tells shape peer old new (IsMarked taken (Behind length))
HasCause tells shape peer old new taken (Differs number) = IsListed tells shape peer old new (IsMarked taken (Differs number))
HasCause tells shape peer old new taken (NoLog at) = IsNoLog tells shape peer old new at
HasCause tells shape peer old new taken Fault = HasRisen old.faults new.faults

-- ---- a shard

-- a peer of a shard
pub record IsOf (shape : Shape) (shard peer : ℕ) : Type 0 where
  pub from : peer_of shape shard 0 ≤ peer
  pub to : peer < peer_of shape shard 0 + shape.copies

-- the list of greatest rank of those that were read, of equals that of the lowest peer
pub record IsTaken (shape : Shape) (shard : ℕ) (old : List DiskSeen) (marks : List PeerMark) (list : List (ℕ × Entry)) : Type 0 where
  pub peer : ℕ
  pub own : IsOf shape shard peer
  pub same : mark_at marks peer ≡ Same
  pub read : list_in (seen_at old peer).stands.seen ≡ Some list
  pub greatest : (other : ℕ) (its : List (ℕ × Entry)) → IsOf shape shard other → is_read (mark_at marks other) ≡ true
      → list_in (seen_at old other).stands.seen ≡ Some its → is_above (rank_of its) (rank_of list) ≡ false
  pub lowest : (other : ℕ) (its : List (ℕ × Entry)) → IsOf shape shard other → is_read (mark_at marks other) ≡ true → other < peer
      → list_in (seen_at old other).stands.seen ≡ Some its → is_above (rank_of list) (rank_of its) ≡ true

-- no list of the shard was read, and the empty one stands for it
pub record IsUntaken (shape : Shape) (shard : ℕ) (marks : List PeerMark) (list : List (ℕ × Entry)) : Type 0 where
  pub none : (peer : ℕ) → IsOf shape shard peer → is_read (mark_at marks peer) ≡ false
  pub empty : list ≡ []

-- each peer of a shard has its mark by its cause, and the taken list has so many entries
pub record IsScrubbed (tells : Type 0) (shape : Shape) (shard : ℕ) (old new : List DiskSeen) (marks : List PeerMark) (count : ℕ) : Type 0 where
  pub list : List (ℕ × Entry)
  pub taken : tells → IsTaken shape shard old marks list ⊎ IsUntaken shape shard marks list
  pub length : tells → count ≡ last_of list
  pub each : (peer : ℕ) → IsOf shape shard peer → HasCause tells shape peer (seen_at old peer) (seen_at new peer) list (mark_at marks peer)

-- ---- all of them

pub record AreScrubbed (tells : Type 0) (shape : Shape) (old new : List DiskSeen) (marks : List PeerMark) (lengths : List ℕ) : Type 0 where
  pub peers : length marks ≡ shape.shards * shape.copies
  pub shards : length lengths ≡ shape.shards
  pub each : (shard : ℕ) → shard < shape.shards → IsScrubbed tells shape shard old new marks (slice_index_or lengths shard 0)

-- a fault that a disk is of another store: the first such one whose count stands
abbrev pub IsOther : Type 0 → Shape → List DiskSeen → List DiskSeen → ScrubFault → Type 0
IsOther tells shape old new (WrongShape peer found) = IsFirstOther tells shape old new peer found
IsOther tells shape old new NoMemory = ⊤

-- what a scrub tells: each peer's mark by its cause, and the text of the marks
pub record HasScrubbed (tells : Type 0) (shape : Shape) (old new : List DiskSeen) (marks : List PeerMark) (before after : List ℕ) : Type 0 where
  pub lengths : List ℕ
  pub marked : AreScrubbed tells shape old new marks lengths
  pub text : after ≡ before ++ scrub_text shape.copies lengths marks
