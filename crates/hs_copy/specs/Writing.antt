-- What is asked of the store that a root is copied into.
use Rattle.std.specs.List.{AllByRecursion}
use Rattle.std.specs.Prelude.{ℕ, ◌+◌, ◌≡◌, ◌≤◌, List, [], ◌∷◌, ◌++◌, Option, Contains, length}
use Rattle.hs_asking.specs.Shown.{Shown}
use Rattle.hs_copy.specs.Heard.{AreHeard, joined, ops_of}
use Rattle.hs_copy.specs.Listing.{name_of}
use Rattle.hs_limits.specs.Block.{Block}
use Rattle.hs_limits.specs.declared.address.Address.{Address}
use Rattle.hs_model.specs.declared.op.Op.{Op}
use Rattle.hs_model.specs.declared.op.Op.TheVariants as op
use Rattle.hs_model.specs.declared.reply.Reply.{Reply}
use Rattle.hs_model.specs.declared.reply.Reply.TheVariants as reply
use Rattle.hs_tree.specs.Growing.{as_writes, writes_in}
use Rattle.hs_tree.specs.Storing.{our_session}
use Rattle.hs_tree.specs.Telling.{GivesWritten}

-- each block stands behind those that it points to
abbrev pub AreChildrenFirst : (List ℕ → Address) → List Address → List Block → Type 0
AreChildrenFirst name before [] = Unit {0}
AreChildrenFirst name before (block ∷ rest) = AllByRecursion (Contains before) block.pointers × AreChildrenFirst name (before ++ name_of name block ∷ []) rest

-- how many deletions
abbrev pub deletes_in : List Op → ℕ
deletes_in [] = 0
deletes_in (op.Delete ∷ rest) = deletes_in rest + 1
deletes_in (other ∷ rest) = deletes_in rest

-- a write that gave a handle, or a deletion, whatever was answered
abbrev pub IsWorkDone : Op × Reply → Type 0
IsWorkDone (op.Write name payload handles address, told) = (name ≡ our_session) × (handle : ℕ) × GivesWritten told handle
IsWorkDone (op.Delete, told) = Unit {0}
IsWorkDone (other, told) = ⊥

-- a forget that was done
abbrev pub IsForgetDone : Op × Reply → Type 0
IsForgetDone (op.Forget name handle, told) = (name ≡ our_session) × (told ≡ reply.Ok)
IsForgetDone (other, told) = ⊥

-- the session forgets a handle
abbrev pub IsForget : Op → Type 0
IsForget (op.Forget name handle) = name ≡ our_session
IsForget other = ⊥

-- a handle was too old
abbrev pub IsStale : Reply → Type 0
IsStale (reply.Stale handle held now) = Unit {0}
IsStale other = ⊥

-- what may be told of a copy's block, or of its root, but that a handle was too old
pub data IsCopyRefusal (key : List ℕ) (told : Reply) : Type 0 where
  Collides : told ≡ reply.Collision → IsCopyRefusal key told
  ShardIsFull : told ≡ reply.ShardFull 16384 → IsCopyRefusal key told
  KeyIsTaken : told ≡ reply.KeyTaken key → IsCopyRefusal key told
  RootsAreFull : told ≡ reply.RootsFull 4096 → IsCopyRefusal key told

-- behind some of these writes comes the next one, or the root where none is left
abbrev pub ComesNext : List ℕ → List (List ℕ × Option Address) → List (Op × Reply) → Op → Type 0
ComesNext key all work (op.Write name payload handles address) = (name ≡ our_session) × (back : List (List ℕ × Option Address)) × (writes_in (ops_of work) ++ (payload, address) ∷ back ≡ all)
ComesNext key all work (op.Root name taken handle) = (name ≡ our_session) × (taken ≡ key) × (writes_in (ops_of work) ≡ all)
ComesNext key all work other = ⊥

-- a beginning that came to a stale handle: some writes were done, with deletions among them, the next one or the root was refused as stale, and handles were forgotten
pub record IsBroken (key : List ℕ) (all : List (List ℕ × Option Address)) (round : List (Op × Reply)) : Type 0 where
  pub work : List (Op × Reply)
  pub o : Op
  pub told : Reply
  pub forgets : List (Op × Reply)
  pub split : round ≡ work ++ (o, told) ∷ forgets
  pub done : AllByRecursion IsWorkDone work
  pub next : ComesNext key all work o
  pub stale : IsStale told
  pub forgot : AllByRecursion IsForgetDone forgets

-- an open; at most four beginnings that came to a stale handle; and then one write of each block, in order, with deletions among them, at most four in all, and the root; and nothing else
pub record HasWritten {tells : Type 0} (name : List ℕ → Address) (key : List ℕ) (start now : Shown tells) (blocks : List Block) : Type 0 where
  pub rounds : List (List (Op × Reply))
  pub few : length rounds ≤ 4
  pub broken : AllByRecursion (IsBroken key (as_writes name blocks)) rounds
  pub work : List (Op × Reply)
  pub done : AllByRecursion IsWorkDone work
  pub writes : writes_in (ops_of work) ≡ as_writes name blocks
  pub handle : ℕ
  pub heard : AreHeard start now ((op.Open our_session, reply.Ok) ∷ (joined rounds ++ (work ++ (op.Root our_session key handle, reply.Ok) ∷ [])))
  pub deletes : deletes_in (ops_of (joined rounds ++ work)) ≤ 4
