-- A tree that is being stored: what was asked for so far, and what the session holds.
use Rattle.std.proofs.Common.{zero, suc}
use Rattle.std.specs.List.{AllByRecursion, AllZip, concat, flat_map}
use Rattle.std.specs.Prelude.{ℕ, ◌+◌, ◌≡◌, ◌≤◌, List, [], ◌∷◌, ◌++◌, None, Option, Some, false, length, map, take}
use Rattle.hs_asking.specs.Seats.{HasSeat}
use Rattle.hs_asking.specs.Shown.{IfTold, Began, Shown, store_now}
use Rattle.hs_asking.specs.Telling.{grants}
use Rattle.hs_desk.specs.declared.fault.CoreFault.{CoreFault}
use Rattle.hs_laws.specs.Written.{IsBlockAt}
use Rattle.hs_limits.specs.Block.{Block, spell}
use Rattle.hs_limits.specs.declared.address.Address.{Address}
use Rattle.hs_limits.specs.declared.address.Held.{Held}
use Rattle.hs_model.specs.Store.{Store, held_at, retained_at}
use Rattle.hs_model.specs.declared.op.Op.{Op}
use Rattle.hs_model.specs.declared.op.Op.TheVariants as op
use Rattle.hs_model.specs.declared.reply.Reply.{Reply}
use Rattle.hs_model.specs.declared.reply.Reply.TheVariants as reply
use Rattle.hs_tree.specs.Calls.{AsksWithFew, Ends, HasAskedLast, Hears}
use Rattle.hs_tree.specs.Telling.{AreDone}
use Rattle.hs_tree.specs.Trees.{height, node, runs, span, stored_cut, tree}
use Rattle.hs_tree.specs.declared.fault.TreeFault.{TreeFault}
use Rattle.hs_tree.specs.declared.fault.TreeFault.TheVariants as fault
use Rattle.hs_tree.specs.declared.grow.Node.{Node}

-- a place of a tree: its height, and the bytes below it
pub record Place : Type 0 where
  pub height : ℕ
  pub bytes : List ℕ

-- the block there, its name, and the blocks there and below, children first
abbrev pub block_of : (List ℕ → Address) → Place → Block
block_of name p = node stored_cut name p.height p.bytes

abbrev pub name_of : (List ℕ → Address) → Place → Address
name_of name p = name (spell (block_of name p))

abbrev pub tree_below : (List ℕ → Address) → Place → List Block
tree_below name p = tree stored_cut name p.height p.bytes

-- ---- what is asked for

-- the session writes or forgets
abbrev pub IsWork : List ℕ → Op → Type 0
IsWork session (op.Write name payload handles address) = name ≡ session
IsWork session (op.Forget name handle) = name ≡ session
IsWork session other = ⊥

-- the bytes and the address of each write
abbrev pub writes_in : List Op → List (List ℕ × Option Address)
writes_in [] = []
writes_in (op.Write name payload handles address ∷ rest) = (payload, address) ∷ writes_in rest
writes_in (other ∷ rest) = writes_in rest

-- the same of blocks
abbrev pub as_write : (List ℕ → Address) → Block → List ℕ × Option Address
as_write name block = (block.bytes, Some (name (spell block)))

abbrev pub as_writes : (List ℕ → Address) → List Block → List (List ℕ × Option Address)
as_writes name blocks = map (as_write name) blocks

-- the handle of each forget
abbrev pub forgets_in : List Op → List ℕ
forgets_in [] = []
forgets_in (op.Forget name handle ∷ rest) = handle ∷ forgets_in rest
forgets_in (other ∷ rest) = forgets_in rest

-- a write gives a handle and a forget gives one up: after any number of operations, at most so many are held
abbrev pub HoldsAtMost : ℕ → List Op → Type 0
HoldsAtMost most ops = (n : ℕ) → length (writes_in (take n ops)) ≤ length (forgets_in (take n ops)) + most

-- an open, and then only work, by which these blocks were written in this order, and which was done; so many handles are held, and at no time more than 81
pub record HasWorked {tells : Type 0} (name : List ℕ → Address) (session : List ℕ) (start now : Shown tells) (held : ℕ) (blocks : List Block) : Type 0 where
  pub ops : List Op
  pub asked : now.asked ≡ start.asked ++ op.Open session ∷ ops
  pub work : AllByRecursion (IsWork session) ops
  pub writes : writes_in ops ≡ as_writes name blocks
  pub done : AreDone start now (op.Open session ∷ ops)
  pub balance : length (writes_in ops) ≡ length (forgets_in ops) + held
  pub few : HoldsAtMost 81 ops

-- the write of a block above some nodes
abbrev pub write_above : (List ℕ → Address) → List ℕ → List Node → List ℕ → Op
write_above name session nodes payload =
    op.Write session payload (map (λ n. n.handle) nodes) (Some (name (spell (record { pointers = map (λ n. n.address) nodes; bytes = payload }))))

-- ---- what is held

-- a handle of the session stands for a node's address
abbrev pub StandsFor : Store → List ℕ → Node → Type 0
StandsFor s session n = (epoch : ℕ) × (held_at s session n.handle ≡ Some (record { address = n.address; epoch = epoch }))

-- the naming is this one, and the nodes are held, where the store is told
abbrev pub IsNamedBy : {tells : Type 0} → (List ℕ → Address) → List ℕ → Shown tells → List Node → Type 0
IsNamedBy name session now nodes = IfTold now (λ b. (b.name ≡ name) × AllByRecursion (StandsFor (store_now b now) session) nodes)

-- a node is what an entry of the session holds
abbrev pub Matches : Node → ℕ × Held → Type 0
Matches n e = (n.handle ≡ e.0) × (n.address ≡ e.1.address)

-- the block of a place and all below it are present
unfoldable pub IsPlanted : (List ℕ → Address) → Store → ℕ → List ℕ → Type 0
IsPlanted name s zero bytes = IsBlockAt s (name (spell (node stored_cut name zero bytes))) (node stored_cut name zero bytes)
IsPlanted name s (suc h) bytes =
    AllByRecursion (IsPlanted name s h) (runs (span stored_cut h) bytes)
    × IsBlockAt s (name (spell (node stored_cut name (suc h) bytes))) (node stored_cut name (suc h) bytes)

abbrev pub ArePlanted : (List ℕ → Address) → Store → List Place → Type 0
ArePlanted name s places = AllByRecursion (λ p. IsPlanted name s p.height p.bytes) places

-- the limits of handles are the greatest, and the naming is this one
pub record IsOurs (name : List ℕ → Address) (b : Began) : Type 0 where
  pub named : b.name ≡ name
  pub handles : b.limits.handles ≡ 4096

-- the session holds these nodes and nothing else, and the places are present
pub record HasPlanted (name : List ℕ → Address) (b : Began) (s : Store) (session : List ℕ) (front spare last : List Node) (places : List Place) : Type 0 where
  pub ours : IsOurs name b
  pub next : ℕ
  pub fore : List (ℕ × Held)
  pub middle : List (ℕ × Held)
  pub back : List (ℕ × Held)
  pub seat : HasSeat s session next (fore ++ (middle ++ back))
  pub fronts : AllZip Matches front fore
  pub spares : AllZip Matches spare middle
  pub lasts : AllZip Matches last back
  pub planted : ArePlanted name s places

-- each key keeps what it kept
abbrev pub KeepsRoots : Store → Store → Type 0
KeepsRoots s t = (key : List ℕ) → retained_at t key ≡ retained_at s key

-- nodes were written for places: what was asked for, and where the store is told, what is there; beside them some nodes are still held that are not needed
pub record IsGrowing {tells : Type 0} (name : List ℕ → Address) (session : List ℕ) (start now : Shown tells) (front spare last : List Node) (written : List Block) (places : List Place) : Type 0 where
  pub worked : HasWorked name session start now (length front + length spare + length last) written
  pub going : now.ended ≡ None
  pub began : now.began ≡ start.began
  pub names : map (λ n. n.address) (front ++ last) ≡ map (name_of name) places
  pub told : IfTold now (λ b. HasPlanted name b (store_now b now) session front spare last places)
  pub roots : IfTold now (λ b. KeepsRoots (store_now b start) (store_now b now))
  pub held : IfTold now (λ b. AsksWithFew b session 81 start now)

-- nodes were written for places, whose blocks are all that was written, and nothing else is held
abbrev pub IsGrown : {tells : Type 0} → (List ℕ → Address) → List ℕ → Shown tells → Shown tells → List Node → List Place → Type 0
IsGrown name session start now nodes places = IsGrowing name session start now nodes [] [] (flat_map (tree_below name) places) places

-- the place of a piece, those of runs' blocks at a height, and the one above these
abbrev pub piece_at : List ℕ → Place
piece_at piece = record { height = 0; bytes = piece }

abbrev pub places_at : ℕ → List (List ℕ) → List Place
places_at h cs = map (λ c. record { height = h; bytes = c }) cs

abbrev pub run_at : ℕ → List (List ℕ) → Place
run_at h cs = record { height = suc h; bytes = concat cs }

-- a node was written for the top of a file, and nothing else is held
abbrev pub HasTop : {tells : Type 0} → (List ℕ → Address) → List ℕ → Shown tells → Shown tells → Node → List ℕ → Type 0
HasTop name session start now n file = IsGrown name session start now (n ∷ []) (record { height = height stored_cut (length file); bytes = file } ∷ [])

-- ---- how it fails

-- what a storing asks for: an open, writes and forgets, and the root
abbrev pub IsStoringOp : List ℕ → List ℕ → Op → Type 0
IsStoringOp session key (op.Open name) = name ≡ session
IsStoringOp session key (op.Write name payload handles address) = name ≡ session
IsStoringOp session key (op.Forget name handle) = name ≡ session
IsStoringOp session key (op.Root name taken handle) = (name ≡ session) × (taken ≡ key)
IsStoringOp session key other = ⊥

-- the refusals that a storing may meet
abbrev pub IsStoreRefusal : List ℕ → Reply → Type 0
IsStoreRefusal key reply.Collision = Unit {0}
IsStoreRefusal key (reply.ShardFull limit) = Unit {0}
IsStoreRefusal key (reply.KeyTaken taken) = taken ≡ key
IsStoreRefusal key (reply.RootsFull limit) = Unit {0}
IsStoreRefusal key other = ⊥

-- a fault is the one that ended what was asked, or that goes on
abbrev pub IsEndOf : Option CoreFault → TreeFault → Type 0
IsEndOf ended (fault.Core core) = ended ≡ Some core
IsEndOf ended fault.Read = ended ≡ None
IsEndOf ended fault.InputFull = ended ≡ None
IsEndOf ended (fault.Refused told) = ended ≡ None
IsEndOf ended (fault.NotATree address) = ended ≡ None
IsEndOf ended fault.NoMemory = ended ≡ None

-- and where the store is told, a refusal is one of these
abbrev pub IsStoreFault : List ℕ → TreeFault → Type 0
IsStoreFault key (fault.Core core) = Unit {0}
IsStoreFault key fault.Read = Unit {0}
IsStoreFault key fault.InputFull = Unit {0}
IsStoreFault key (fault.Refused told) = IsStoreRefusal key told
IsStoreFault key (fault.NotATree address) = ⊥
IsStoreFault key fault.NoMemory = Unit {0}

-- an open, and then writes and forgets alone; or nothing
abbrev pub IsOpenAndWork : List ℕ → List Op → Type 0
IsOpenAndWork session [] = Unit {0}
IsOpenAndWork session (o ∷ ops) = (o ≡ op.Open session) × AllByRecursion (IsWork session) ops

-- one operation is the last: before it come an open, writes and forgets, unless it is the open
pub record HasLast {tells : Type 0} (session : List ℕ) (start : Shown tells) (ops : List Op) : Type 0 where
  pub asked : HasAskedLast start
  pub split : ops ≡ asked.front ++ asked.last ∷ []
  pub work : IsOpenAndWork session asked.front
  pub first : asked.front ≡ [] → asked.last ≡ op.Open session

-- a refusal, or the end of what was asked, is what the last operation came to, which alone may be the root; any other fault comes while no root was asked for
abbrev pub IsOfLast : {tells : Type 0} → List ℕ → Shown tells → Shown tells → List Op → TreeFault → Type 0
IsOfLast session start now ops (fault.Core core) = (l : HasLast session start ops) × Ends l.asked.before now l.asked.last core
IsOfLast session start now ops fault.Read = IsOpenAndWork session ops
IsOfLast session start now ops fault.InputFull = IsOpenAndWork session ops
IsOfLast session start now ops (fault.Refused told) = (l : HasLast session start ops) × Hears l.asked.before now l.asked.last told × (grants l.asked.last told ≡ false)
IsOfLast session start now ops (fault.NotATree address) = ⊥
IsOfLast session start now ops fault.NoMemory = IsOpenAndWork session ops

-- and unless the asker has ended, each key keeps what it kept
abbrev pub KeepsAll : Store → Store → TreeFault → Type 0
KeepsAll s t (fault.Core core) = Unit {0}
KeepsAll s t fault.Read = KeepsRoots s t
KeepsAll s t fault.InputFull = KeepsRoots s t
KeepsAll s t (fault.Refused told) = KeepsRoots s t
KeepsAll s t (fault.NotATree address) = KeepsRoots s t
KeepsAll s t fault.NoMemory = KeepsRoots s t

-- a storing has stopped with a fault
pub record IsStopped {tells : Type 0} (session key : List ℕ) (start now : Shown tells) (f : TreeFault) : Type 0 where
  pub ops : List Op
  pub asked : now.asked ≡ start.asked ++ ops
  pub kinds : AllByRecursion (IsStoringOp session key) ops
  pub began : now.began ≡ start.began
  pub ended : IsEndOf now.ended f
  pub few : HoldsAtMost 81 ops
  pub last : IsOfLast session start now ops f
  pub cause : IfTold now (λ b. IsStoreFault key f)
  pub kept : IfTold now (λ b. KeepsAll (store_now b start) (store_now b now) f)

-- it has stopped at work, and what was written by then is a front of these blocks
pub record IsHalted {tells : Type 0} (name : List ℕ → Address) (session key : List ℕ) (start now : Shown tells) (blocks : List Block) (f : TreeFault) : Type 0 where
  pub stopped : IsStopped session key start now f
  pub ops : List Op
  pub asked : now.asked ≡ start.asked ++ op.Open session ∷ ops
  pub work : AllByRecursion (IsWork session) ops
  pub back : List (List ℕ × Option Address)
  pub writes : writes_in ops ++ back ≡ as_writes name blocks
