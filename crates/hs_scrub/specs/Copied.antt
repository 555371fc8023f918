-- What copying the list of a peer over the others of its shard leaves.
use Rattle.std.specs.Prelude.{◌≡◌, ◌≤◌, ◌<◌, ◌*◌, ◌/◌, ◌⊎◌, ⊤, ℕ, List, [], ◌++◌, Contains, Option, None, Some, IfSome, flat_map}
use Rattle.std.specs.Option.{option_map_or}
use Rattle.hs_entry.specs.declared.entry.Entry.{Entry}
use Rattle.hs_entry.specs.Entries.{IsPrefix}
use Rattle.hs_limits.specs.declared.shape.Shape.{Shape}
use Rattle.hs_peerlog.specs.declared.fault.LogFault.TheVariants as log
use Rattle.hs_peerlog.specs.Images.{LeavesEach, LeavesOnly}
use Rattle.hs_peerlog.specs.Opening.{refusal_in}
use Rattle.hs_ports.specs.Fault.{HasRisen}
use Rattle.hs_scrub.specs.declared.fault.ScrubFault.{ScrubFault}
use Rattle.hs_scrub.specs.declared.fault.ScrubFault.TheVariants.{WrongShape, NoMemory}
use Rattle.hs_scrub.specs.declared.mark.PeerMark.{PeerMark}
use Rattle.hs_scrub.specs.declared.mark.PeerMark.TheVariants.{Same, Behind, Differs, NoLog, Fault}
use Rattle.hs_scrub.specs.Scrubbed.{IsNoLog}
use Rattle.hs_scrub.specs.Text.{line_of}
use Rattle.hs_side.specs.Current.{list_in}
use Rattle.hs_side.specs.declared.header.Header.{Header}
use Rattle.hs_taking.specs.Disks.{DiskSeen, seen_at}

-- two peers of one shard: peer g*R+i keeps a copy of shard g
abbrev pub AreBeside : Shape → ℕ → ℕ → Type 0
AreBeside shape peer other = other / shape.copies ≡ peer / shape.copies

-- ---- another peer

-- the list that a disk had, or a front of the one that it gets
pub record IsOldOrFront (held copied list : List (ℕ × Entry)) : Type 0 where
  pub one : (list ≡ held) ⊎ IsPrefix list copied

-- where a stop left one list of a disk, it leaves that or a front of the copied one at each moment since, and from now on
abbrev pub KeepsFronts : Type 0 → ℕ → ℕ → DiskSeen → DiskSeen → List (ℕ × Entry) → Type 0
KeepsFronts tells before now old new copied =
    tells → old.stands.last ≤ before → (held : List (ℕ × Entry)) → LeavesOnly old.stands held → LeavesEach before now old.stands new.stands (IsOldOrFront held copied)

-- a disk has the copied list, by reads and whatever a stop leaves; no call on it failed
pub record HasCopy (tells : Type 0) (before : ℕ) (old new : DiskSeen) (copied : List (ℕ × Entry)) : Type 0 where
  pub calm : new.faults ≡ old.faults
  pub gives : tells → old.stands.last ≤ before → list_in new.stands.seen ≡ Some copied
  pub leaves : tells → old.stands.last ≤ before → LeavesOnly new.stands copied

-- a call on a disk failed, or it is of another store
abbrev pub IsLeft : Type 0 → Shape → ℕ → DiskSeen → DiskSeen → Type 0
IsLeft tells shape peer old new =
    HasRisen old.faults new.faults ⊎ (tells → (found : Header) × (refusal_in shape peer old.stands.seen ≡ Some (log.WrongShape found)))

-- ---- the peer that is copied

-- why the copying ended before all had its list
abbrev pub HasEnded : Type 0 → Shape → ℕ → DiskSeen → DiskSeen → PeerMark → Type 0
HasEnded tells shape peer old new Same = ⊥
HasEnded tells shape peer old new (Behind length) = ⊥
HasEnded tells shape peer old new (Differs number) = ⊥
HasEnded tells shape peer old new (NoLog at) = IsNoLog tells shape peer old new at
HasEnded tells shape peer old new Fault = HasRisen old.faults new.faults

-- ---- all of them

-- a line for each peer that was left, and one for that which is copied, where that ended it
abbrev pub copy_text : ℕ → List ℕ → Option PeerMark → List ℕ
copy_text from left ended = flat_map (λ peer. line_of 0 peer Fault) left ++ option_map_or (λ mark. line_of 0 from mark) ended []

pub record HasCopied (tells : Type 0) (shape : Shape) (from before : ℕ) (old new : List DiskSeen) (out out' : List ℕ) : Type 0 where
  -- the peers that were left, and why it ended early
  pub left : List ℕ
  pub ended : Option PeerMark
  pub text : out' ≡ out ++ copy_text from left ended
  pub cause : IfSome ended (HasEnded tells shape from (seen_at old from) (seen_at new from))
  pub told : (peer : ℕ) → Contains left peer → AreBeside shape from peer × (peer ≡ from → ⊥) × IsLeft tells shape peer (seen_at old peer) (seen_at new peer)
  -- the list that was copied, and who has it
  pub copied : List (ℕ × Entry)
  pub source : tells → ended ≡ None → list_in (seen_at old from).stands.seen ≡ Some copied
  pub done : ended ≡ None → (peer : ℕ) → peer < shape.shards * shape.copies → AreBeside shape from peer → (peer ≡ from → ⊥) → Contains left peer ⊎ HasCopy tells before (seen_at old peer) (seen_at new peer) copied

-- a fault that the copied peer's disk is of another store, and its count stands
abbrev pub IsOtherSource : Type 0 → Shape → ℕ → DiskSeen → DiskSeen → ScrubFault → Type 0
IsOtherSource tells shape from old new (WrongShape peer found) = (peer ≡ from) × (tells → refusal_in shape from old.stands.seen ≡ Some (log.WrongShape found)) × (new.faults ≡ old.faults)
IsOtherSource tells shape from old new NoMemory = ⊤
