-- For private clauses: that a file is not stored, or not fetched, since what it asks had ended before, or since it stops.
use Rattle.std.specs.Prelude.{List, Option, Some, ℕ, ◌≡◌}
use Rattle.hs_asking.specs.Shown.{Shown}
use Rattle.hs_desk.specs.declared.fault.CoreFault.{CoreFault}
use Rattle.hs_limits.specs.declared.address.Address.{Address}
use Rattle.hs_tree.specs.Calls.{IsStoringFault}
use Rattle.hs_tree.specs.Fetching.{IsFetchStopped}
use Rattle.hs_tree.specs.Growing.{IsStopped}
use Rattle.hs_tree.specs.Storing.{IsUnfinished, our_session}
use Rattle.hs_tree.specs.declared.fault.TreeFault.{TreeFault}
use Rattle.hs_tree.specs.declared.fault.TreeFault.TheVariants as fault

-- a source before and behind: what it has left, and its count
pub record SourceSpan : Type 0 where
  pub left : Option (List ℕ)
  pub left' : Option (List ℕ)
  pub faults : ℕ
  pub faults' : ℕ

-- what had ended so is left as it is
pub record HadEnded {tells : Type 0} (start now : Shown tells) (f : TreeFault) : Type 0 where
  pub core : CoreFault
  pub ended : start.ended ≡ Some core
  pub same : now ≡ start
  pub is : f ≡ fault.Core core

pub data HaltsStore {tells : Type 0} (name : List ℕ → Address) (key : List ℕ) (start now : Shown tells) (t : SourceSpan) (f : TreeFault) : Type 0 where
  Had : HadEnded start now f → t.left' ≡ t.left → t.faults' ≡ t.faults → HaltsStore name key start now t f
  Stops : IsStopped our_session key start now f → IsUnfinished name start now t.left t.left' → IsStoringFault t.faults t.faults' t.left f → HaltsStore name key start now t f

pub data HaltsFetch {tells : Type 0} (key : List ℕ) (start now : Shown tells) (f : TreeFault) : Type 0 where
  HadBefore : HadEnded start now f → HaltsFetch key start now f
  StopsFetch : IsFetchStopped key start now f → HaltsFetch key start now f
