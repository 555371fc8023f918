-- How far a root is listed, and what each part of that does.
use Rattle.std.specs.List.{AllByRecursion}
use Rattle.std.specs.Prelude.{ℕ, ◌≡◌, ◌≤◌, List, ◌++◌, None, Option, Some, false, length}
use Rattle.hs_asking.specs.Seats.{IsSane}
use Rattle.hs_asking.specs.Shown.{IfTold, Shown, store_now}
use Rattle.hs_asking.specs.Telling.{grants}
use Rattle.hs_copy.specs.Listing.{IsUnkept, KeepsItsOwn, KeepsMore, reads_in}
use Rattle.hs_copy.specs.declared.fault.PartFault.{PartFault}
use Rattle.hs_copy.specs.declared.fault.PartFault.TheVariants as part
use Rattle.hs_desk.specs.declared.fault.CoreFault.{CoreFault}
use Rattle.hs_model.specs.Store.{Store}
use Rattle.hs_model.specs.declared.op.Op.{Op}
use Rattle.hs_tree.specs.Calls.{Ends, HasAskedLast, Hears}
use Rattle.hs_tree.specs.Fetching.{IsFetching, IsReading}
use Rattle.hs_tree.specs.Storing.{our_session}

-- ---- what is asked for

-- where the store is told it keeps its own from one state to another, and is valid in both
abbrev pub KeepsWhereTold : {tells : Type 0} → Shown tells → Shown tells → Type 0
KeepsWhereTold old new = IfTold old (λ b. IsSane (store_now b old) → KeepsItsOwn (store_now b old) (store_now b new) × IsSane (store_now b new))

-- from one state to another only reads and forgets, and so many reads
pub record Reads {tells : Type 0} (old new : Shown tells) (n : ℕ) : Type 0 where
  pub ops : List Op
  pub asked : new.asked ≡ old.asked ++ ops
  pub kinds : AllByRecursion (IsReading our_session) ops
  pub reads : length (reads_in ops) ≡ n
  pub going : new.ended ≡ None
  pub began : new.began ≡ old.began
  pub keeps : KeepsWhereTold old new

-- a fault is the one that ended what was asked, or that goes on
abbrev pub EndsSo : Option CoreFault → PartFault → Type 0
EndsSo ended (part.Core core) = ended ≡ Some core
EndsSo ended (part.Refused told) = ended ≡ None
EndsSo ended part.TooMany = ended ≡ None
EndsSo ended part.NoMemory = ended ≡ None

-- a refusal, or the end of what was asked, is what the last operation came to
abbrev pub IsToldLast : {tells : Type 0} → Shown tells → Shown tells → PartFault → Type 0
IsToldLast start now (part.Core core) = (l : HasAskedLast start) × Ends l.before now l.last core
IsToldLast start now (part.Refused told) = (l : HasAskedLast start) × Hears l.before now l.last told × (grants l.last told ≡ false)
IsToldLast start now part.TooMany = Unit {0}
IsToldLast start now part.NoMemory = Unit {0}

-- reads and forgets have stopped with a fault, behind at most so many reads
pub record ReadsStop {tells : Type 0} (old new : Shown tells) (most : ℕ) (f : PartFault) : Type 0 where
  pub ops : List Op
  pub asked : new.asked ≡ old.asked ++ ops
  pub kinds : AllByRecursion (IsReading our_session) ops
  pub few : length (reads_in ops) ≤ most
  pub began : new.began ≡ old.began
  pub ended : EndsSo new.ended f
  pub last : IsToldLast old new f

-- where the store is told, a refusal is that the key keeps nothing, and too many are found only where it keeps what reaches more than 4,000 addresses
abbrev pub IsRootCause : Store → List ℕ → PartFault → Type 0
IsRootCause s key (part.Core core) = Unit {0}
IsRootCause s key (part.Refused told) = IsUnkept s key told
IsRootCause s key part.TooMany = KeepsMore s key 4000
IsRootCause s key part.NoMemory = Unit {0}

-- so has a listing
pub record ListingStops {tells : Type 0} (key : List ℕ) (old new : Shown tells) (f : PartFault) : Type 0 where
  pub ops : List Op
  pub asked : new.asked ≡ old.asked ++ ops
  pub kinds : IsFetching key ops
  pub few : length (reads_in ops) ≤ 4000
  pub began : new.began ≡ old.began
  pub ended : EndsSo new.ended f
  pub last : IsToldLast old new f
