-- What one call of an asker comes to.
use Rattle.std.specs.Prelude.{ℕ, ◌<◌, ◌≡◌, ◌≤◌, List, [], ◌∷◌, ◌++◌, None, Option, Some, IfSome, false, length}
use Rattle.hs_asking.specs.Asked.{HasAsked, HasBegun}
use Rattle.hs_asking.specs.Judged.{IsJudged}
use Rattle.hs_asking.specs.Seats.{HasSeat}
use Rattle.hs_asking.specs.Shown.{Began, IfTold, Shown, store_now}
use Rattle.hs_asking.specs.Telling.{grants}
use Rattle.hs_desk.specs.declared.fault.CoreFault.{CoreFault}
use Rattle.hs_limits.specs.declared.address.Held.{Held}
use Rattle.hs_model.specs.Store.{Store}
use Rattle.hs_model.specs.declared.op.Op.{Op}
use Rattle.hs_model.specs.declared.reply.Reply.{Reply}
use Rattle.hs_ports.specs.Fault.{HasRisen}
use Rattle.hs_ports.specs.Source.{before}
use Rattle.hs_tree.specs.declared.fault.TreeFault.{TreeFault}
use Rattle.hs_tree.specs.declared.fault.TreeFault.TheVariants as fault

-- ---- a source

-- a take fails for memory, or where the count of faults rose
abbrev pub IsTakeFault : ℕ → ℕ → TreeFault → Type 0
IsTakeFault before now (fault.Core core) = ⊥
IsTakeFault before now fault.Read = HasRisen before now
IsTakeFault before now fault.InputFull = ⊥
IsTakeFault before now (fault.Refused told) = ⊥
IsTakeFault before now (fault.NotATree address) = ⊥
IsTakeFault before now fault.NoMemory = Unit {0}

-- some bytes were taken
pub record HasGone (left left' : Option (List ℕ)) : Type 0 where
  pub piece : List ℕ
  pub stream : before piece left' ≡ left

-- ---- an asker

-- a fault of what asks alone
abbrev pub IsAskFault : TreeFault → Type 0
IsAskFault (fault.Core core) = Unit {0}
IsAskFault fault.Read = ⊥
IsAskFault fault.InputFull = ⊥
IsAskFault (fault.Refused told) = Unit {0}
IsAskFault (fault.NotATree address) = ⊥
IsAskFault fault.NoMemory = Unit {0}

-- a fault of taking and asking, but not of the file's end
abbrev pub IsPartFault : ℕ → ℕ → TreeFault → Type 0
IsPartFault before now (fault.Core core) = Unit {0}
IsPartFault before now fault.Read = HasRisen before now
IsPartFault before now fault.InputFull = ⊥
IsPartFault before now (fault.Refused told) = Unit {0}
IsPartFault before now (fault.NotATree address) = ⊥
IsPartFault before now fault.NoMemory = Unit {0}

-- a fault of storing: the source failed and was counted, or gave more than a file may have
abbrev pub IsStoringFault : ℕ → ℕ → Option (List ℕ) → TreeFault → Type 0
IsStoringFault before now left (fault.Core core) = Unit {0}
IsStoringFault before now left fault.Read = HasRisen before now
IsStoringFault before now left fault.InputFull = IfSome left (λ all. 67108864 < length all)
IsStoringFault before now left (fault.Refused told) = Unit {0}
IsStoringFault before now left (fault.NotATree address) = ⊥
IsStoringFault before now left fault.NoMemory = Unit {0}

-- an operation was asked for and its entry of the journal tells this, as it is judged where the store is told
pub record Hears {tells : Type 0} (old new : Shown tells) (o : Op) (told : Reply) : Type 0 where
  pub asked : new.asked ≡ old.asked ++ o ∷ []
  pub going : new.ended ≡ None
  pub began : new.began ≡ old.began
  pub entry : HasAsked old new o told
  pub begun : HasBegun old new o
  pub judged : IfTold old (λ b. IsJudged b.limits (store_now b old) (store_now b new) o told)

-- it was asked for, and the asker has ended
pub record Ends {tells : Type 0} (old new : Shown tells) (o : Op) (core : CoreFault) : Type 0 where
  pub asked : new.asked ≡ old.asked ++ o ∷ []
  pub ended : new.ended ≡ Some core
  pub began : new.began ≡ old.began
  pub begun : HasBegun old new o

-- a call fails for memory before it asks, with the asker, or where it is refused
abbrev pub CallFails : {tells : Type 0} → Shown tells → Shown tells → Op → TreeFault → Type 0
CallFails old new o (fault.Core core) = Ends old new o core
CallFails old new o fault.Read = ⊥
CallFails old new o fault.InputFull = ⊥
CallFails old new o (fault.Refused told) = Hears old new o told × (grants o told ≡ false)
CallFails old new o (fault.NotATree address) = ⊥
CallFails old new o fault.NoMemory = new ≡ old

-- behind a start something was asked for last, and before it this was shown
pub record HasAskedLast {tells : Type 0} (start : Shown tells) : Type 0 where
  pub front : List Op
  pub last : Op
  pub before : Shown tells
  pub so_far : before.asked ≡ start.asked ++ front

-- a refusal, or the end of what was asked, is what the last operation came to
abbrev pub IsToldLast : {tells : Type 0} → Shown tells → Shown tells → TreeFault → Type 0
IsToldLast start now (fault.Core core) = (l : HasAskedLast start) × Ends l.before now l.last core
IsToldLast start now fault.Read = Unit {0}
IsToldLast start now fault.InputFull = Unit {0}
IsToldLast start now (fault.Refused told) = (l : HasAskedLast start) × Hears l.before now l.last told × (grants l.last told ≡ false)
IsToldLast start now (fault.NotATree address) = Unit {0}
IsToldLast start now fault.NoMemory = Unit {0}

-- ---- how many handles are held

-- a session holds so many handles at most
pub record HoldsFew (s : Store) (session : List ℕ) (most : ℕ) : Type 0 where
  pub next : ℕ
  pub handles : List (ℕ × Held)
  pub seat : HasSeat s session next handles
  pub few : length handles ≤ most

-- from one state over these to another an operation was asked for at a time, and after each of them the session held so many handles at most
abbrev pub AskWithFew : {tells : Type 0} → Began → List ℕ → ℕ → Shown tells → List (Shown tells) → Shown tells → Type 0
AskWithFew b session most old [] new = new ≡ old
AskWithFew b session most old (s ∷ along) new = (o : Op) × (told : Reply) × Hears old s o told × HoldsFew (store_now b s) session most × AskWithFew b session most s along new

pub record AsksWithFew {tells : Type 0} (b : Began) (session : List ℕ) (most : ℕ) (old new : Shown tells) : Type 0 where
  pub along : List (Shown tells)
  pub each : AskWithFew b session most old along new
