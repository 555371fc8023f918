-- Disks of another store, and runs that leave disks as they were.
use Rattle.std.specs.Prelude.{length, ℕ, ◌-◌, ◌<◌, ◌^◌, ◌≡◌, ◌≢◌, ◌≤◌, ◌⊎◌}
use Rattle.hs_ports.specs.Moments.{disk_at}
use Rattle.hs_side.specs.declared.header.Header.{Header}
use Rattle.hs_ports.specs.Unwritten.{IsUnwritten}
use Rattle.hs_side.specs.Headers.{HasHeader, own_header}
use Rattle.hs_promise.specs.Run.{DiskRose, Ran, Script}
use Rattle.hs_ports.specs.Objects.{faults_at}
use Rattle.hs_promise.specs.declared.status.Status.TheVariants as status

-- the header of a peer's disk says something else
pub record IsOther (S : Script) (r : Ran) (peer : ℕ) (found : Header) : Type 0 where
  pub within : peer < length r.old.disks
  pub header : HasHeader (disk_at r.old.disks peer) found
  pub other : found ≢ own_header S.set.shape peer

-- it does, and the count of each earlier disk of which that is so rose
pub record IsFirstOther (S : Script) (r : Ran) (peer : ℕ) (found : Header) : Type 0 where
  pub other : IsOther S r peer found
  pub first : (p : ℕ) (h : Header) → p < peer → IsOther S r p h → DiskRose r 1 p

-- it does, and the count of its disk stands; at the end of a u64 nobody can tell whether a count rose
pub record IsFoundOther (S : Script) (r : Ran) (peer : ℕ) (found : Header) : Type 0 where
  pub first : IsFirstOther S r peer found
  pub stands : faults_at r.new.disk_faults peer ≡ faults_at r.old.disk_faults peer

-- no count of an earlier disk stands at the end of a u64, where it can't rise
pub record MayAllRise (r : Ran) (peer : ℕ) : Type 0 where
  pub each : (p : ℕ) → p < peer → faults_at r.old.disk_faults p < 2 ^ 64 - 1

-- none was; of the past this is said where the disk had no call ahead of the watch
abbrev pub NoneWritten : Ran → Type 0
NoneWritten r = (peer : ℕ) → (disk_at r.old.disks peer).last ≤ r.old.moment → IsUnwritten r.old.moment (disk_at r.old.disks peer) (disk_at r.new.disks peer)

-- a run ends so only there; where the count surely didn't rise, and each before it could, it ends so, but for want of memory, and either way has written nothing
pub record ShapeCause (S : Script) (r : Ran) : Type 0 where
  pub only : (peer : ℕ) (found : Header) → r.ending ≡ status.WrongShape peer found → IsFoundOther S r peer found
  pub exact : (peer : ℕ) (found : Header) → IsFirstOther S r peer found → MayAllRise r peer → (DiskRose r 1 peer → ⊥) → (r.ending ≡ status.WrongShape peer found) ⊎ (r.ending ≡ status.NoMemory)
  pub unwritten : (peer : ℕ) (found : Header) → IsFirstOther S r peer found → (DiskRose r 1 peer → ⊥) → NoneWritten r
