-- A root that is copied.
use Rattle.std.specs.List.{AllByRecursion}
use Rattle.std.specs.Prelude.{ℕ, ◌≡◌, ◌≤◌, ◌⊎◌, List, [], ◌∷◌, ◌++◌, None, Option, Some, Contains, false, length, map}
use Rattle.hs_asking.specs.Shown.{IfTold, Shown, store_now}
use Rattle.hs_asking.specs.Telling.{grants}
use Rattle.hs_copy.specs.Heard.{joined, ops_of}
use Rattle.hs_copy.specs.Copied.{IsCopied}
use Rattle.hs_copy.specs.Listing.{AreAllOf, AreDifferent, HasListed, IsUnkept, KeepsMore, name_of, reads_in}
use Rattle.hs_copy.specs.Writing.{AreChildrenFirst, ComesNext, HasWritten, IsBroken, IsCopyRefusal, IsForget, IsWorkDone, deletes_in}
use Rattle.hs_copy.specs.declared.fault.CopyFault.{CopyFault}
use Rattle.hs_copy.specs.declared.fault.CopyFault.TheVariants as fault
use Rattle.hs_desk.specs.declared.fault.CoreFault.{CoreFault}
use Rattle.hs_laws.specs.Written.{IsBlockAt}
use Rattle.hs_limits.specs.Block.{Block}
use Rattle.hs_limits.specs.declared.address.Address.{Address}
use Rattle.hs_model.specs.Reach.{IsReached}
use Rattle.hs_model.specs.Store.{Root, Store, retained_at}
use Rattle.hs_model.specs.declared.op.Op.{Op}
use Rattle.hs_model.specs.declared.op.Op.TheVariants as op
use Rattle.hs_model.specs.declared.reply.Reply.{Reply}
use Rattle.hs_tree.specs.Calls.{Ends, HasAskedLast, Hears}
use Rattle.hs_tree.specs.Fetching.{IsFetching}
use Rattle.hs_tree.specs.Growing.{as_writes, writes_in}
use Rattle.hs_tree.specs.Storing.{our_session}

-- the key keeps the name of the last of some blocks, and all that it reaches are names of theirs, at which they stand
pub record AreThere (name : List ℕ → Address) (s : Store) (key : List ℕ) (blocks : List Block) : Type 0 where
  pub root : Root
  pub kept : retained_at s key ≡ Some root
  pub front : List Address
  pub last : map (name_of name) blocks ≡ front ++ root.address ∷ []
  pub stand : (a : Address) → IsReached s (root.address ∷ []) a → (block : Block) × Contains blocks block × (a ≡ name_of name block) × IsBlockAt s a block

-- some blocks, at most 4,000, each behind those that it points to, were read in the first store and written into the second;
-- where the first is told, they are all that its key reaches, each once; where the second is told, and no two of them have one name,
-- its key keeps the last of them there with all that it reaches; where both are told the key is copied from the first, as it was and as it is
pub record HasCopied {P Q : Type 0} (name : List ℕ → Address) (key : List ℕ) (s t : Shown P) (u v : Shown Q) (n : ℕ) : Type 0 where
  pub blocks : List Block
  pub counted : n ≡ length blocks
  pub few : n ≤ 4000
  pub children_first : AreChildrenFirst name [] blocks
  pub listed : HasListed key s t n
  pub written : HasWritten name key u v blocks
  pub all : IfTold s (λ b. AreAllOf name (store_now b s) key blocks)
  pub there : IfTold v (λ c. AreDifferent (map (name_of name) blocks) → AreThere name (store_now c v) key blocks)
  pub copied : IfTold s (λ b. IfTold v (λ c. IsCopied (store_now b s) (store_now c v) key))
  pub still : IfTold s (λ b. IfTold v (λ c. IsCopied (store_now b t) (store_now c v) key))

-- ---- how it fails

-- what is asked of the first store has ended with this fault, or goes on
abbrev pub FirstEnds : Option CoreFault → CopyFault → Type 0
FirstEnds ended (fault.First core) = ended ≡ Some core
FirstEnds ended (fault.Second core) = ended ≡ None
FirstEnds ended (fault.Refused told) = ended ≡ None
FirstEnds ended (fault.CopyFull blocks) = ended ≡ None
FirstEnds ended fault.NoMemory = ended ≡ None

-- and of the second
abbrev pub SecondEnds : Option CoreFault → CopyFault → Type 0
SecondEnds ended (fault.First core) = ended ≡ None
SecondEnds ended (fault.Second core) = ended ≡ Some core
SecondEnds ended (fault.Refused told) = ended ≡ None
SecondEnds ended (fault.CopyFull blocks) = ended ≡ None
SecondEnds ended fault.NoMemory = ended ≡ None

-- behind some writes comes nothing, a deletion, or the next operation and then forgets
abbrev pub IsTail : List ℕ → List (List ℕ × Option Address) → List (Op × Reply) → List Op → Type 0
IsTail key all work [] = Unit {0}
IsTail key all work (op.Delete ∷ rest) = rest ≡ []
IsTail key all work (o ∷ rest) = ComesNext key all work o × AllByRecursion IsForget rest

-- an open, and as much of the rest as was asked for
pub record IsPart (key : List ℕ) (all : List (List ℕ × Option Address)) (ops : List Op) : Type 0 where
  pub rounds : List (List (Op × Reply))
  pub few : length rounds ≤ 4
  pub broken : AllByRecursion (IsBroken key all) rounds
  pub work : List (Op × Reply)
  pub done : AllByRecursion IsWorkDone work
  pub back : List (List ℕ × Option Address)
  pub writes : writes_in (ops_of work) ++ back ≡ all
  pub tail : List Op
  pub next : IsTail key all work tail
  pub split : ops ≡ op.Open our_session ∷ (ops_of (joined rounds ++ work) ++ tail)
  pub deletes : deletes_in ops ≤ 4

-- as much of a copy's writing as was asked for: nothing, or such a part
abbrev pub IsPartOf : List ℕ → List (List ℕ × Option Address) → List Op → Type 0
IsPartOf key all ops = (ops ≡ []) ⊎ IsPart key all ops

-- the last operation got this refusal
abbrev pub IsRefusal : {tells : Type 0} → Shown tells → Shown tells → Reply → Type 0
IsRefusal start now told = (l : HasAskedLast start) × Hears l.before now l.last told × (grants l.last told ≡ false)

-- a fault is what the last operation came to, of the store of which it was asked; nothing is asked of the second before the first has been listed;
-- where the first is told, its refusal is that the key keeps nothing, and there are too many blocks only where it keeps what reaches more than 4,000; where the second is told, its refusal is of a block or of the root
abbrev pub IsOfLast : {P Q : Type 0} → List ℕ → Shown P → Shown P → Shown Q → Shown Q → CopyFault → Type 0
IsOfLast key s t u v (fault.First core) = (l : HasAskedLast s) × Ends l.before t l.last core × (v ≡ u)
IsOfLast key s t u v (fault.Second core) = (l : HasAskedLast u) × Ends l.before v l.last core
IsOfLast key s t u v (fault.Refused told) = (IsRefusal s t told × (v ≡ u) × IfTold s (λ b. IsUnkept (store_now b s) key told)) ⊎ IsRefusal u v told × IfTold u (λ c. IsCopyRefusal key told)
IsOfLast key s t u v (fault.CopyFull blocks) = (blocks ≡ 4000) × (v ≡ u) × IfTold s (λ b. KeepsMore (store_now b s) key 4000)
IsOfLast key s t u v fault.NoMemory = Unit {0}

-- a copy has stopped with a fault: what was asked by then is a front of what a whole one asks for; where anything was asked of the second store,
-- and the first is told, these blocks are all that its key reaches
pub record IsStopped {P Q : Type 0} (name : List ℕ → Address) (key : List ℕ) (s t : Shown P) (u v : Shown Q) (f : CopyFault) : Type 0 where
  pub reads : List Op
  pub read : t.asked ≡ s.asked ++ reads
  pub listing : IsFetching key reads
  pub few : length (reads_in reads) ≤ 4000
  pub first_began : t.began ≡ s.began
  pub first_ended : FirstEnds t.ended f
  pub blocks : List Block
  pub children_first : AreChildrenFirst name [] blocks
  pub ops : List Op
  pub asked : v.asked ≡ u.asked ++ ops
  pub part : IsPartOf key (as_writes name blocks) ops
  pub most : length blocks ≤ 4000
  pub all : (ops ≡ [] → ⊥) → IfTold s (λ b. AreAllOf name (store_now b s) key blocks)
  pub second_began : v.began ≡ u.began
  pub second_ended : SecondEnds v.ended f
  pub last : IsOfLast key s t u v f
