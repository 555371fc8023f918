-- How a command ends: its status is never that of faulty words.
use Rattle.std.proofs.Common.{◌≡◌, sym, refl, ℕ, List, Option, Some, Result, Ok, Err}
use Rattle.std.specs.Prelude.{IfErr, OnErr, ⊤}
use Rattle.hs_asker.specs.Silent.{status_by}
use Rattle.hs_asking.specs.Shown.{Shown}
use Rattle.hs_desk.specs.declared.fault.CoreFault.{CoreFault}
use Rattle.hs_desk.specs.declared.fault.CoreFault.TheVariants as core
use Rattle.hs_limits.specs.declared.address.Address.{Address}
use Rattle.hs_promise.specs.declared.status.Status.TheVariants as status
use Rattle.hs_tree.specs.Calls.{IsStoringFault}
use Rattle.hs_tree.specs.Fetching.{IsFetchStopped}
use Rattle.hs_tree.specs.Growing.{IsStopped}
use Rattle.hs_tree.specs.Storing.{IsUnfinished, our_session}
use Rattle.hs_tree.specs.declared.fault.TreeFault.{TreeFault}
use Rattle.hs_tree.specs.declared.fault.TreeFault.TheVariants as fault
use Rattle.hs_files.specs.Client.{end_status, tree_status}
use Rattle.hs_files.specs.Halting.{Had, HadBefore, HaltsFetch, HaltsStore, Stops, StopsFetch}

pub core_begun : (ended : CoreFault) → status_by (Some ended) ≡ status.Usage → ⊥
core_begun core.OpsFull is = absurd cc
core_begun (core.ShardLost shard) is = absurd cc
core_begun core.NoMemory is = absurd cc

pub tree_begun : (f : TreeFault) → tree_status f ≡ status.Usage → ⊥
tree_begun (fault.Core ended) is = core_begun ended is
tree_begun fault.Read is = absurd cc
tree_begun fault.InputFull is = absurd cc
tree_begun (fault.Refused told) is = absurd cc
tree_begun (fault.NotATree address) is = absurd cc
tree_begun fault.NoMemory is = absurd cc

pub end_begun : (res : Result ℕ TreeFault) → end_status res ≡ status.Usage → ⊥
end_begun (Ok bytes) is = absurd cc
end_begun (Err f) is = tree_begun f is

-- ---- what had ended before it was asked

pub store_had : {tells : Type 0} (name : List ℕ → Address) (key : List ℕ) (s : Shown tells) (left : Option (List ℕ)) (faults : ℕ) (core : CoreFault) → Some core ≡ s.ended
    → HaltsStore name key s s (record { left = left; left' = left; faults = faults; faults' = faults }) (fault.Core core)
store_had name key s left faults core is = Had (record { core = core; ended = sym is; same = refl; is = refl }) refl refl

pub fetch_had : {tells : Type 0} (key : List ℕ) (s : Shown tells) (core : CoreFault) → Some core ≡ s.ended → HaltsFetch key s s (fault.Core core)
fetch_had key s core is = HadBefore (record { core = core; ended = sym is; same = refl; is = refl })

-- ---- what stops

pub store_stops : {tells : Type 0} (name : List ℕ → Address) (key : List ℕ) (start now : Shown tells) (left left' : Option (List ℕ)) (faults faults' : ℕ) (res : Result ℕ TreeFault)
    → IfErr res (λ f. IsStopped our_session key start now f) → OnErr res (IsUnfinished name start now left left') → IfErr res (IsStoringFault faults faults' left)
    → IfErr res (HaltsStore name key start now (record { left = left; left' = left'; faults = faults; faults' = faults' }))
store_stops name key start now left left' faults faults' (Ok bytes) stopped unfinished cause = tt
store_stops name key start now left left' faults faults' (Err f) stopped unfinished cause = Stops stopped unfinished cause

pub fetch_stops : {tells : Type 0} (key : List ℕ) (start now : Shown tells) (res : Result ⊤ TreeFault) → IfErr res (λ f. IsFetchStopped key start now f) → IfErr res (HaltsFetch key start now)
fetch_stops key start now (Ok x) stopped = tt
fetch_stops key start now (Err f) stopped = StopsFetch stopped
