-- A file that is fetched.
use Rattle.std.specs.List.{AllByRecursion}
use Rattle.std.specs.Prelude.{ℕ, ◌≡◌, ◌≤◌, List, [], ◌∷◌, ◌++◌, None, Some, length}
use Rattle.hs_asking.specs.Shown.{Began, IfTold, Shown, store_now}
use Rattle.hs_limits.specs.Limits.{greatest_limits}
use Rattle.hs_limits.specs.declared.address.Address.{Address}
use Rattle.hs_model.specs.Store.{Root, Store, retained_at}
use Rattle.hs_model.specs.declared.op.Op.{Op}
use Rattle.hs_model.specs.declared.op.Op.TheVariants as op
use Rattle.hs_model.specs.declared.reply.Reply.TheVariants as reply
use Rattle.hs_tree.specs.Calls.{AsksWithFew, IsToldLast}
use Rattle.hs_tree.specs.Growing.{IsEndOf}
use Rattle.hs_tree.specs.Storing.{our_session}
use Rattle.hs_tree.specs.Trees.{IsTreeAt}
use Rattle.hs_tree.specs.declared.fault.TreeFault.{TreeFault}
use Rattle.hs_tree.specs.declared.fault.TreeFault.TheVariants as fault

-- where the store is told it has no session, and the limits are the greatest
pub record IsAlone {tells : Type 0} (b : Began) (s : Shown tells) : Type 0 where
  pub none_open : (store_now b s).sessions ≡ []
  pub limits : b.limits ≡ greatest_limits

-- ---- what is asked for

-- the session reads or forgets
abbrev pub IsReading : List ℕ → Op → Type 0
IsReading session (op.Read name handle) = name ≡ session
IsReading session (op.Forget name handle) = name ≡ session
IsReading session other = ⊥

-- an open, one look at the key, and then reads and forgets alone; or as much of this as was asked for
abbrev pub IsFetching : List ℕ → List Op → Type 0
IsFetching key [] = Unit {0}
IsFetching key (o ∷ []) = o ≡ op.Open our_session
IsFetching key (o ∷ l ∷ ops) = (o ≡ op.Open our_session) × (l ≡ op.Look our_session key) × AllByRecursion (IsReading our_session) ops

-- ---- a file that is fetched

-- a key keeps an address at which a file of at most 67,108,864 bytes is, place by place
pub record IsFileOf (s : Store) (key file : List ℕ) : Type 0 where
  pub root : Root
  pub kept : retained_at s key ≡ Some root
  pub fits : length file ≤ 67108864
  pub tree : IsTreeAt s root.address file

-- it was put behind what was there; what was asked for; and where the store is told, the file is the key's, before and now
pub record HasFetched {tells : Type 0} (key : List ℕ) (start now : Shown tells) (before after : List ℕ) : Type 0 where
  pub file : List ℕ
  pub given : after ≡ before ++ file
  pub ops : List Op
  pub asked : now.asked ≡ start.asked ++ op.Open our_session ∷ (op.Look our_session key ∷ ops)
  pub reads : AllByRecursion (IsReading our_session) ops
  pub going : now.ended ≡ None
  pub began : now.began ≡ start.began
  pub few : IfTold start (λ b. AsksWithFew b our_session 193 start now)
  pub found_before : IfTold start (λ b. IsFileOf (store_now b start) key file)
  pub found : IfTold now (λ b. IsFileOf (store_now b now) key file)

-- ---- how it fails

-- a key keeps this address, and no such file is there
pub record IsNoFile (s : Store) (key : List ℕ) (address : Address) : Type 0 where
  pub root : Root
  pub kept : retained_at s key ≡ Some root
  pub first : root.address ≡ address
  pub none : (file : List ℕ) → length file ≤ 67108864 → IsTreeAt s address file → ⊥

-- a fault of what asks, or of what is read
abbrev pub IsFetchFault : TreeFault → Type 0
IsFetchFault (fault.Core core) = Unit {0}
IsFetchFault fault.Read = ⊥
IsFetchFault fault.InputFull = ⊥
IsFetchFault (fault.Refused told) = Unit {0}
IsFetchFault (fault.NotATree address) = Unit {0}
IsFetchFault fault.NoMemory = Unit {0}

-- where the store is told, the only refusal is that the key is not kept, and there is no tree where no file is
abbrev pub IsFetchCause : Store → List ℕ → TreeFault → Type 0
IsFetchCause s key (fault.Core core) = Unit {0}
IsFetchCause s key fault.Read = ⊥
IsFetchCause s key fault.InputFull = ⊥
IsFetchCause s key (fault.Refused told) = (told ≡ reply.NoKey key) × (retained_at s key ≡ None)
IsFetchCause s key (fault.NotATree address) = IsNoFile s key address
IsFetchCause s key fault.NoMemory = Unit {0}

-- a fetch has stopped with a fault, whose cause is there before and now
pub record IsFetchStopped {tells : Type 0} (key : List ℕ) (start now : Shown tells) (f : TreeFault) : Type 0 where
  pub ops : List Op
  pub asked : now.asked ≡ start.asked ++ ops
  pub kinds : IsFetching key ops
  pub began : now.began ≡ start.began
  pub ended : IsEndOf now.ended f
  pub kind : IsFetchFault f
  pub last : IsToldLast start now f
  pub cause_before : IfTold start (λ b. IsFetchCause (store_now b start) key f)
  pub cause : IfTold now (λ b. IsFetchCause (store_now b now) key f)
