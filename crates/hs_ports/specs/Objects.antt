-- What a run is handed, and how its time goes.
use Rattle.std.specs.Prelude.{ℕ, ◌≡◌, ◌+◌, ◌-◌, ◌^◌, ◌<◌, ◌≤◌, List, Option, All, map, min, slice_index_or}
use Rattle.hs_ports.specs.Disk.{Standing}
use Rattle.hs_ports.specs.declared.disk.Side.{Side}
use Rattle.hs_ports.specs.Fault.{HasRisen}
use Rattle.hs_ports.specs.Moments.{disk_at}
use Rattle.hs_ports.specs.Putting.{got_by}
use Rattle.hs_ports.specs.Sink.{followed}
use Rattle.hs_ports.specs.Watch.{next_moment}

-- what a run is handed, at one time: the moment of the watch, the disks by peer, what the sink has got (each byte with its moment) and
-- what the source has left, where they tell it, and how often each has failed
pub record Objects : Type 0 where
  pub moment : ℕ
  pub disks : List Standing
  pub got : Option (List (ℕ × ℕ))
  pub left : Option (List ℕ)
  pub disk_faults : List ℕ
  pub sink_faults : ℕ
  pub source_faults : ℕ

-- the moment, each disk with its count, what the sink got with its count, and what the source has left with its count
abbrev pub handed : ℕ → List (Standing × ℕ) → Option (List (ℕ × ℕ)) × ℕ → Option (List ℕ) × ℕ → Objects
handed moment disks sink source = record {
  moment = moment;
  disks = map (λ disk. disk.0) disks;
  got = sink.0;
  left = source.0;
  disk_faults = map (λ disk. disk.1) disks;
  sink_faults = sink.1;
  source_faults = source.1;
}

-- ---- faults

-- how often the disk of a peer has failed by some counts
abbrev pub faults_at : List ℕ → ℕ → ℕ
faults_at faults peer = slice_index_or faults peer 0

-- a count rose by at least so much, or stands at the end of a u64
abbrev pub RoseBy : ℕ → ℕ → ℕ → Type 0
RoseBy n before now = min (before + n) (2 ^ 64 - 1) ≤ now

-- no count of faults ever falls
pub record CountsStand (old new : Objects) : Type 0 where
  pub disks : (peer : ℕ) → faults_at old.disk_faults peer ≤ faults_at new.disk_faults peer
  pub sink : old.sink_faults ≤ new.sink_faults
  pub source : old.source_faults ≤ new.source_faults

-- no count of faults rose
pub record NoneFailed (old new : Objects) : Type 0 where
  pub disks : (peer : ℕ) → ¬ HasRisen (faults_at old.disk_faults peer) (faults_at new.disk_faults peer)
  pub sink : ¬ HasRisen old.sink_faults new.sink_faults
  pub source : ¬ HasRisen old.source_faults new.source_faults

-- ---- moments

-- the sink has got nothing at a later moment than the watch shows
abbrev pub IsSinkBehind : Objects → Type 0
IsSinkBehind objects = (m : ℕ) → objects.moment ≤ m → got_by m objects.got ≡ objects.got

-- nor has a disk had a call
pub record NoneAhead (objects : Objects) : Type 0 where
  pub called : (peer : ℕ) → (disk_at objects.disks peer).last ≤ objects.moment
  pub put : IsSinkBehind objects

-- a moment of a call: above that at entry, up to that at the end, and not the last of a u64
pub record IsDuring (old new : Objects) (moment : ℕ) : Type 0 where
  pub above : old.moment < moment
  pub up_to : moment ≤ new.moment
  pub early : moment < 2 ^ 64 - 1

-- the bytes that were put here are stamped above the moment at entry (at the last of a u64 a watch stands still), and not above that at the end
pub record PutsHere (old new : Objects) : Type 0 where
  pub more : List (ℕ × ℕ)
  pub put : new.got ≡ followed old.got more
  pub stamped : All (λ byte. (next_moment old.moment ≤ byte.1) × (byte.1 ≤ new.moment)) more

-- the watch never falls, and stamps what is put
pub record KeepsTime (old new : Objects) : Type 0 where
  pub later : old.moment ≤ new.moment
  pub puts : PutsHere old new

-- no disk has had a call at a later moment than the watch shows at the end, and what is past stays
pub record KeepsPast (old new : Objects) : Type 0 where
  pub called : (peer : ℕ) → (disk_at old.disks peer).last ≤ old.moment → (disk_at new.disks peer).last ≤ new.moment
  pub earlier : (peer m : ℕ) (side : Side) → (disk_at old.disks peer).last ≤ old.moment → m ≤ old.moment → m < 2 ^ 64 - 1
      → (disk_at new.disks peer).past m side ≡ (disk_at old.disks peer).past m side
