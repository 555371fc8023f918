-- Words of private steps on two disks, of which the first has the taken log; no public clause cites them.
use Rattle.std.specs.Prelude.{◌≡◌, ◌≤◌, ⊤, [], Bool, true, false, IfErr, IfOk, OnOk, ℕ, None, Result, Some}
use Rattle.hs_fold.specs.Shards.Setting.{Numbered}
use Rattle.hs_peerlog.specs.declared.fault.LogFault.{LogFault}
use Rattle.hs_peerlog.specs.declared.fault.LogFault.TheVariants as log
use Rattle.hs_peerlog.specs.Images.{IsAny, IsOne, LeavesEach}
use Rattle.hs_peerlog.specs.Lists.{HasLog, IsKept, IsReady, Keeping}
use Rattle.hs_ports.specs.declared.disk.Side.{Side}
use Rattle.hs_ports.specs.Fault.{HasRisen}
use Rattle.hs_side.specs.Current.{list_in}
use Rattle.hs_taking.specs.Copies.{IsOwnOrFront, fronts}
use Rattle.hs_taking.specs.declared.pair.PairFault.{PairFault}
use Rattle.hs_taking.specs.declared.pair.PairFault.TheVariants as pair
use Rattle.hs_taking.specs.Disks.{DiskSeen}
use Rattle.hs_taking.specs.Past.{PastStays}

-- a disk was read, and nothing of it changed
pub record IsStill (tells : Type 0) (old new : DiskSeen) : Type 0 where
  pub same : tells → new.stands ≡ old.stands
  pub size : (side : Side) → new.size side ≡ old.size side
  pub counted : old.faults ≤ new.faults

-- a fault of the disk of the taken log, and of another's
abbrev pub taken_fault : LogFault → PairFault
taken_fault (log.NotALog at) = pair.Taken
taken_fault (log.WrongShape found) = pair.Taken
taken_fault log.Disk = pair.Taken
taken_fault log.NoMemory = pair.NoMemory

abbrev pub other_fault : LogFault → PairFault
other_fault (log.NotALog at) = pair.Other
other_fault (log.WrongShape found) = pair.Other
other_fault log.Disk = pair.Other
other_fault log.NoMemory = pair.NoMemory

-- of the two disks, before and after: the one that is told failed, where disks tell; of the other one that no call of the first did
abbrev pub IsPairFault : Type 0 → DiskSeen → DiskSeen → DiskSeen → DiskSeen → PairFault → Type 0
IsPairFault tells a a' b b' pair.Taken = tells → HasRisen a.faults a'.faults
IsPairFault tells a a' b b' pair.Other = (a'.faults ≡ a.faults) × (tells → HasRisen b.faults b'.faults)
IsPairFault tells a a' b b' pair.NoMemory = ⊤

-- the lists of two views were compared
pub record HasCompared (tells : Type 0) (a a' b b' : DiskSeen) (result : Result Bool PairFault) : Type 0 where
  pub source : IsStill tells a a'
  pub disk : IsStill tells b b'
  pub same : IfOk result (λ same. tells → (same ≡ true → list_in b.stands.seen ≡ list_in a.stands.seen) × (same ≡ false → list_in b.stands.seen ≡ list_in a.stands.seen → ⊥))
  pub calm : OnOk result ((a'.faults ≡ a.faults) × (b'.faults ≡ b.faults))
  pub cause : IfErr result (IsPairFault tells a a' b b')

-- the log of a view was emptied
pub record HasEmptied (tells : Type 0) (before now : ℕ) (b b' : DiskSeen) (result : Result Keeping LogFault) : Type 0 where
  pub has : IfOk result (λ copy. tells → b.stands.last ≤ before → HasLog copy b'.stands [] None)
  pub ready : IfOk result (λ copy. IsReady tells copy (b'.size copy.log.side) b'.stands)
  pub sealed : IfOk result (λ copy. copy.waits ≡ None)
  pub empty : IfOk result (λ copy. copy.rank.number ≡ 0)
  pub moments : tells → b.stands.last ≤ before → (own : Numbered) → list_in b.stands.seen ≡ Some own → LeavesEach before now b.stands b'.stands (IsOne own [])
  pub past : tells → b.stands.last ≤ before → PastStays before now b.stands b'.stands

-- an empty log got entries of the taken one
pub record HasFilled (tells : Type 0) (before now : ℕ) (a a' b b' : DiskSeen) (taken copy : Keeping) : Type 0 where
  pub source : IsStill tells a a'
  pub moments : tells → b.stands.last ≤ before → (list : Numbered) → IsKept taken (a.stands.seen taken.log.side) list None → HasLog copy b.stands [] None
      → LeavesEach before now b.stands b'.stands (IsAny (fronts list))
  pub past : tells → b.stands.last ≤ before → PastStays before now b.stands b'.stands
  pub counted : b.faults ≤ b'.faults
  pub ticks : before ≤ now

-- a log was made equal to the taken one
pub record HasMadeEqual (tells : Type 0) (before now : ℕ) (a a' b b' : DiskSeen) (taken : Keeping) (result : Result Keeping PairFault) : Type 0 where
  pub source : IsStill tells a a'
  pub has : IfOk result (λ copy. tells → b.stands.last ≤ before → (list : Numbered) → IsKept taken (a.stands.seen taken.log.side) list None → HasLog copy b'.stands list None)
  pub ready : IfOk result (λ copy. IsReady tells copy (b'.size copy.log.side) b'.stands)
  pub moments : tells → b.stands.last ≤ before → (list : Numbered) → IsKept taken (a.stands.seen taken.log.side) list None → (own : Numbered) → list_in b.stands.seen ≡ Some own
      → LeavesEach before now b.stands b'.stands (IsOwnOrFront own list)
  pub past : tells → b.stands.last ≤ before → PastStays before now b.stands b'.stands
  pub counted : b.faults ≤ b'.faults
  pub calm : OnOk result ((a'.faults ≡ a.faults) × (b'.faults ≡ b.faults))
  pub cause : IfErr result (IsPairFault tells a a' b b')
  pub ticks : before ≤ now
