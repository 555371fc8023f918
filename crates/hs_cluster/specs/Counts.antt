-- How often the disks of a cluster failed, by what was told of them.
use Rattle.std.specs.Prelude.{◌≡◌, ◌≢◌, ◌≤◌, ◌⊎◌, ℕ, true, false, IfSome, List, Some}
use Rattle.hs_cluster.specs.Disks.{DiskSeen, seen_at}
use Rattle.hs_core_words.specs.declared.event.Event.TheVariants.{Report}
use Rattle.hs_core_words.specs.State.{Core}
use Rattle.hs_desk.specs.declared.done.Done.{Done}
use Rattle.hs_events.specs.Asked.{failed_disk}
use Rattle.hs_events.specs.Due.{Events}
use Rattle.hs_events.specs.Reports.{costs, failures}
use Rattle.hs_ports.specs.Fault.{HasRisen}
use Rattle.hs_ports.specs.Objects.{RoseBy}

-- ---- a job

-- it tells of no failed call but one of the disk of its peer, whose count rose
abbrev pub IsPaid : ℕ → ℕ → ℕ → Done → Type 0
IsPaid peer before now done = IfSome (failed_disk done) (λ disk. (disk ≡ peer) × HasRisen before now)

-- so does a copy, but that the disk from which it reads may have failed too
abbrev pub IsCopyPaid : ℕ → ℕ → ℕ → ℕ → Done → Type 0
IsCopyPaid from peer before now done = IfSome (failed_disk done) (λ disk. (disk ≡ from) ⊎ ((disk ≡ peer) × HasRisen before now))

-- the count of a disk rose whose failed call is told so, but for a job that only read it
abbrev pub HasPaid : Core → ℕ → Done → List DiskSeen → List DiskSeen → Type 0
HasPaid core peer done old new = (disk : ℕ) → costs false disk core (Report peer done) ≡ true → HasRisen (seen_at old disk).faults (seen_at new disk).faults

-- that of each disk whose failed call is told so
abbrev pub HasAllPaid : Core → ℕ → Done → List DiskSeen → List DiskSeen → Type 0
HasAllPaid core peer done old new = (disk : ℕ) → costs true disk core (Report peer done) ≡ true → HasRisen (seen_at old disk).faults (seen_at new disk).faults

-- so each disk whose failed call is told, whatever it was that failed
abbrev pub HasRisenTold : Done → List DiskSeen → List DiskSeen → Type 0
HasRisenTold done old new = (disk : ℕ) → failed_disk done ≡ Some disk → HasRisen (seen_at old disk).faults (seen_at new disk).faults

-- where it tells no failed call of the disk of its peer, the count stands
abbrev pub StandsUntold : ℕ → ℕ → ℕ → Done → Type 0
StandsUntold peer before now done = failed_disk done ≢ Some peer → now ≡ before

-- so that of each disk
abbrev pub AllStandUntold : Done → List DiskSeen → List DiskSeen → Type 0
AllStandUntold done old new = (disk : ℕ) → failed_disk done ≢ Some disk → (seen_at new disk).faults ≡ (seen_at old disk).faults

-- ---- events

-- no count rises
abbrev pub NoneRises : List DiskSeen → List DiskSeen → Type 0
NoneRises old new = (disk : ℕ) → (seen_at new disk).faults ≡ (seen_at old disk).faults

-- no count falls
abbrev pub NoneFalls : List DiskSeen → List DiskSeen → Type 0
NoneFalls old new = (disk : ℕ) → (seen_at old disk).faults ≤ (seen_at new disk).faults

-- nor does it, and each rose by as many failures as events of a core report of its disk
pub record AreCounted (core : Core) (events : Events) (old new : List DiskSeen) : Type 0 where
  pub later : NoneFalls old new
  pub failed : (disk : ℕ) → RoseBy (failures false disk core events) (seen_at old disk).faults (seen_at new disk).faults

-- and by as many as the reports tell of reads too
abbrev pub AreAllCounted : Core → Events → List DiskSeen → List DiskSeen → Type 0
AreAllCounted core events old new = (disk : ℕ) → RoseBy (failures true disk core events) (seen_at old disk).faults (seen_at new disk).faults

-- and no count rises but that of a disk of which they report a failed call
abbrev pub UntoldStand : Core → Events → List DiskSeen → List DiskSeen → Type 0
UntoldStand core events old new = (disk : ℕ) → failures true disk core events ≡ 0 → (seen_at new disk).faults ≡ (seen_at old disk).faults
