-- What the command `scrub` promises.
use Rattle.std.specs.Prelude.{false, List, [], length, None, Option, Some, true, ℕ, ◌++◌, ◌<◌, ◌≡◌}
use Rattle.hs_entry.specs.declared.entry.Entry.{Entry}
use Rattle.hs_limits.specs.declared.shape.Shape.{Shape}
use Rattle.hs_ports.specs.Fault.{HasRisen}
use Rattle.hs_ports.specs.Putting.{PutsFront}
use Rattle.hs_ports.specs.Sink.{bytes_of, followed}
use Rattle.hs_promise.specs.Run.{Ran}
use Rattle.hs_promise.specs.declared.status.Status.{Status}
use Rattle.hs_promise.specs.declared.status.Status.TheVariants as status
use Rattle.hs_run.specs.Machine.{AreHanded}
use Rattle.hs_scrub.specs.Copied.{AreBeside, HasCopied, IsOtherSource, KeepsFronts}
use Rattle.hs_scrub.specs.Marks.{is_read}
use Rattle.hs_scrub.specs.Scrubbed.{HasScrubbed, IsOther, mark_at}
use Rattle.hs_scrub.specs.declared.fault.ScrubFault.{ScrubFault}
use Rattle.hs_scrub.specs.declared.fault.ScrubFault.TheVariants as fault
use Rattle.hs_scrub.specs.declared.mark.PeerMark.{PeerMark}
use Rattle.hs_side.specs.Current.{list_in}
use Rattle.hs_taking.specs.Disks.{DiskSeen, seen_at}
use Rattle.hs_taking.specs.Viewed.{IsOnlyRead}
use Rattle.hs_checks.specs.Silent.{RunsNoScript}

-- how it ends where the disks can't be compared
abbrev pub scrub_status : ScrubFault → Status
scrub_status (fault.WrongShape peer found) = status.WrongShape peer found
scrub_status fault.NoMemory = status.NoMemory

-- the marks of the peers, and their text
pub record Compares (tells : Type 0) (shape : Shape) (old new : List DiskSeen) : Type 0 where
  pub marks : List PeerMark
  pub text : List ℕ
  pub scrubbed : HasScrubbed tells shape old new marks [] text

-- ---- behind the marks

-- the disks as they were handed in, behind the comparing, and at the end; and the moment behind the comparing
pub record Passing : Type 0 where
  pub old : List DiskSeen
  pub mid : List DiskSeen
  pub new : List DiskSeen
  pub moment : ℕ

-- a copy is made of a peer's list, where that has one; it is put on this other peer of the shard
pub record GetsCopy (shape : Shape) (from : Option ℕ) (peer : ℕ) : Type 0 where
  pub source : ℕ
  pub asked : from ≡ Some source
  pub beside : AreBeside shape source peer
  pub other : peer ≡ source → ⊥

-- nothing is copied, or the list of this peer, which has one
abbrev pub NothingTo : Option ℕ → Passing → Type 0
NothingTo from p = (from ≡ None) × (p.new ≡ p.mid)

pub record CopiesFrom (tells : Type 0) (shape : Shape) (from : Option ℕ) (marks : List PeerMark) (source : ℕ) : Type 0 where
  pub asked : from ≡ Some source
  pub listed : is_read (mark_at marks source) ≡ true

-- the text was put whole, and behind it this
abbrev pub PutsBehind : List ℕ → List ℕ → Ran → Type 0
PutsBehind text lines r = bytes_of r.new.got ≡ followed (bytes_of r.old.got) (text ++ lines)

-- how it ends, each with its cause, and what was put
pub data EndsScrub (tells : Type 0) (shape : Shape) (from : Option ℕ) (p : Passing) (r : Ran) : Type 0 where
  -- the disks can't be compared
  Refused : (f : ScrubFault) → r.ending ≡ scrub_status f → r.new.got ≡ r.old.got → IsOther tells shape p.old p.mid f → p.new ≡ p.mid → EndsScrub tells shape from p r
  -- the sink failed
  Cut : (c : Compares tells shape p.old p.mid) → r.ending ≡ status.WriteFault → PutsFront (bytes_of r.old.got) c.text (bytes_of r.new.got) → HasRisen r.old.sink_faults r.new.sink_faults → p.new ≡ p.mid → EndsScrub tells shape from p r
  -- nothing is to be copied
  Compared : (c : Compares tells shape p.old p.mid) → r.ending ≡ status.Done → PutsBehind c.text [] r → NothingTo from p → EndsScrub tells shape from p r
  -- the peer that is to be copied has no list
  Lacking : (c : Compares tells shape p.old p.mid) (source : ℕ) → from ≡ Some source → is_read (mark_at c.marks source) ≡ false → r.ending ≡ status.NoSource source → PutsBehind c.text [] r → p.new ≡ p.mid → EndsScrub tells shape from p r
  -- it has one, and could not be copied: its disk is of another store now, or memory was wanting
  Uncopied : (c : Compares tells shape p.old p.mid) (source : ℕ) → CopiesFrom tells shape from c.marks source → (f : ScrubFault) → r.ending ≡ scrub_status f → PutsBehind c.text [] r
      → IsOtherSource tells shape source (seen_at p.mid source) (seen_at p.new source) f → EndsScrub tells shape from p r
  -- it was copied
  Copied : (c : Compares tells shape p.old p.mid) (source : ℕ) → CopiesFrom tells shape from c.marks source → (lines : List ℕ) → HasCopied tells shape source p.moment p.mid p.new [] lines
      → r.ending ≡ status.Done → PutsBehind c.text lines r → EndsScrub tells shape from p r
  -- and the sink failed behind that
  CopiedCut : (c : Compares tells shape p.old p.mid) (source : ℕ) → CopiesFrom tells shape from c.marks source → (lines : List ℕ) → HasCopied tells shape source p.moment p.mid p.new [] lines
      → r.ending ≡ status.WriteFault → PutsFront (bytes_of r.old.got) (c.text ++ lines) (bytes_of r.new.got) → HasRisen r.old.sink_faults r.new.sink_faults → EndsScrub tells shape from p r

-- the copies of each shard were compared, and what came of it was put, which reads disks alone; then the list of a peer that was named is copied over the others of its shard
pub record IsCompared (tells : Type 0) (shape : Shape) (from : Option ℕ) (r : Ran) : Type 0 where
  pub silent : RunsNoScript r
  pub p : Passing
  pub before : AreHanded r.old p.old
  pub behind : AreHanded r.new p.new
  pub ends : EndsScrub tells shape from p r
  pub compared : (peer : ℕ) → peer < length p.old → IsOnlyRead tells r.old.moment p.moment (seen_at p.old peer) (seen_at p.mid peer)
  -- a disk that gets no copy is read at most; one that gets it leaves its list, or a front of the copied one
  pub only : (peer : ℕ) → peer < length p.old → (GetsCopy shape from peer → ⊥) → IsOnlyRead tells r.old.moment r.new.moment (seen_at p.old peer) (seen_at p.new peer)
  pub fronts : (peer : ℕ) → peer < length p.old → (copy : GetsCopy shape from peer) → (copied : List (ℕ × Entry)) → (tells → list_in (seen_at p.mid copy.source).stands.seen ≡ Some copied)
      → KeepsFronts tells p.moment r.new.moment (seen_at p.mid peer) (seen_at p.new peer) copied
