-- How far the blocks of a copy are written, and what each part of that does.
use Rattle.std.specs.List.{AllByRecursion, AllZip}
use Rattle.std.specs.Prelude.{Bool, true, false, ℕ, ◌+◌, ◌≡◌, ◌≤◌, ◌⊎◌, List, [], ◌∷◌, ◌++◌, None, Option, Some, Result, Ok, Err, length, map, slice_get, slice_index, slice_index_or}
use Rattle.hs_asking.specs.Seats.{IsSane}
use Rattle.hs_asking.specs.Shown.{Began, IfTold, Shown, store_now}
use Rattle.hs_asking.specs.Telling.{grants}
use Rattle.hs_copy.specs.Calls.{CallFails, IsCore, IsHeard}
use Rattle.hs_copy.specs.Hands.{HasHands, HasOnly, IsTooOld}
use Rattle.hs_copy.specs.Heard.{AreHeard, joined, ops_of}
use Rattle.hs_copy.specs.Listing.{AreDifferent, name_of}
use Rattle.hs_copy.specs.Writing.{ComesNext, IsBroken, IsCopyRefusal, IsForget, IsForgetDone, IsStale, IsWorkDone, deletes_in}
use Rattle.hs_copy.specs.declared.fault.PartFault.{PartFault}
use Rattle.hs_copy.specs.declared.fault.PartFault.TheVariants as part
use Rattle.hs_copy.specs.declared.order.Placed.{Placed}
use Rattle.hs_copy.specs.declared.write.Node.{Node}
use Rattle.hs_limits.specs.Block.{Block, spell}
use Rattle.hs_limits.specs.Limits.{greatest_limits}
use Rattle.hs_limits.specs.declared.address.Address.{Address}
use Rattle.hs_limits.specs.declared.address.Held.{Held}
use Rattle.hs_limits.specs.declared.spelling.TheConstants.{MOST_BYTES, MOST_POINTERS}
use Rattle.hs_model.specs.Judge.{nothing}
use Rattle.hs_model.specs.Store.{Root, Store, held_at, retained_at}
use Rattle.hs_model.specs.declared.op.Op.{Op}
use Rattle.hs_model.specs.declared.op.Op.TheVariants as op
use Rattle.hs_model.specs.declared.reply.Reply.{Reply}
use Rattle.hs_model.specs.declared.reply.Reply.TheVariants as reply
use Rattle.hs_tree.specs.Calls.{Ends, Hears}
use Rattle.hs_tree.specs.Growing.{as_writes, writes_in}
use Rattle.hs_tree.specs.Storing.{our_session}
use Rattle.hs_tree.specs.Telling.{IsWrittenAs}

-- ---- the blocks

-- the address at a place
abbrev pub address_at : List Address → ℕ → Address
address_at before place = slice_index_or before place nothing.address

-- the block of a place behind some addresses
abbrev pub block_in : List Address → Placed → Block
block_in before q = record { pointers = map (λ p. address_at before p) q.below; bytes = q.bytes }

-- the blocks of some places, each behind the ones before it
abbrev pub blocks_of : (List ℕ → Address) → List Address → List Placed → List Block
blocks_of name before [] = []
blocks_of name before (q ∷ rest) = block_in before q ∷ blocks_of name (before ++ name_of name (block_in before q) ∷ []) rest

-- their names, and what is written of them
abbrev pub names_in : (List ℕ → Address) → List Placed → List Address
names_in name placed = map (name_of name) (blocks_of name [] placed)

abbrev pub writes_of : (List ℕ → Address) → List Placed → List (List ℕ × Option Address)
writes_of name placed = as_writes name (blocks_of name [] placed)

-- ---- one write

-- the block above some nodes, and its write
abbrev pub block_above : List Node → List ℕ → Block
block_above nodes bytes = record { pointers = map (λ (n : Node). n.address) nodes; bytes = bytes }

abbrev pub write_above : (List ℕ → Address) → List ℕ → List Node → List ℕ → Op
write_above name session nodes bytes = op.Write session bytes (map (λ (n : Node). n.handle) nodes) (Some (name (spell (block_above nodes bytes))))

-- it was answered, and this is its node
pub record WritesNode {tells : Type 0} (name : List ℕ → Address) (session : List ℕ) (old new : Shown tells) (nodes : List Node) (bytes : List ℕ) (made : Node) : Type 0 where
  pub answered : IsWrittenAs old new (write_above name session nodes bytes) made.handle
  pub named : made.address ≡ name (spell (block_above nodes bytes))

-- the nodes of some places, which make a block with some bytes
pub record AreBelowOf (nodes : List Node) (q : Placed) (below : List Node) : Type 0 where
  pub found : map (λ p. slice_get nodes p) q.below ≡ map (λ (n : Node). Some n) below
  pub few : length below ≤ MOST_POINTERS
  pub short : length q.bytes ≤ MOST_BYTES

-- the block of a place was written behind some nodes
pub record WritesPlaced {tells : Type 0} (name : List ℕ → Address) (old new : Shown tells) (nodes : List Node) (q : Placed) (made : Node) : Type 0 where
  pub below : List Node
  pub are : AreBelowOf nodes q below
  pub node : WritesNode name our_session old new below q.bytes made

-- or it was not asked for, or failed
pub data PlacedFails {tells : Type 0} (name : List ℕ → Address) (old new : Shown tells) (nodes : List Node) (q : Placed) (f : PartFault) : Type 0 where
  quiet : f ≡ part.NoMemory → new ≡ old → PlacedFails name old new nodes q f
  failed : (below : List Node) → AreBelowOf nodes q below → CallFails old new (write_above name our_session below q.bytes) f → PlacedFails name old new nodes q f

-- the last of some nodes
pub record IsLast (nodes : List Node) (top : Node) : Type 0 where
  pub front : List Node
  pub split : nodes ≡ front ++ top ∷ []

-- ---- what is held where the store is told

-- a handle of the session stands for a node's address
abbrev pub StandsFor : Store → List ℕ → Node → Type 0
StandsFor s session n = (epoch : ℕ) × (held_at s session n.handle ≡ Some (record { address = n.address; epoch = epoch }))

-- the naming is this one, and the nodes are held, where the store is told
abbrev pub IsNamedBy : {tells : Type 0} → (List ℕ → Address) → List ℕ → Shown tells → List Node → Type 0
IsNamedBy name session now nodes = IfTold now (λ b. (b.name ≡ name) × AllByRecursion (StandsFor (store_now b now) session) nodes)

-- a node is what an entry of the session holds
abbrev pub Matches : Node → ℕ × Held → Type 0
Matches n e = (n.handle ≡ e.0) × (n.address ≡ e.1.address)

-- the limits are the greatest, the naming is this one, and the session holds these nodes and nothing else
pub record HoldsNodes (name : List ℕ → Address) (b : Began) (s : Store) (since : ℕ) (nodes : List Node) : Type 0 where
  pub named : b.name ≡ name
  pub limits : b.limits ≡ greatest_limits
  pub next : ℕ
  pub entries : List (ℕ × Held)
  pub hands : HasHands s since next entries
  pub matches : AllZip Matches nodes entries

abbrev pub HoldsSo : {tells : Type 0} → (List ℕ → Address) → Shown tells → List Node → Type 0
HoldsSo name now nodes = IfTold now (λ b. (since : ℕ) × HoldsNodes name b (store_now b now) since nodes)

-- the epoch of shard 0
abbrev pub epoch_now : {tells : Type 0} → Shown tells → ℕ
epoch_now now = slice_index (store_now now.began now).epochs 0

-- the nodes are held by handles that were given since an epoch of it
abbrev pub HoldsSince : {tells : Type 0} → (List ℕ → Address) → ℕ → Shown tells → List Node → Type 0
HoldsSince name since now nodes = IfTold now (λ b. HoldsNodes name b (store_now b now) since nodes)

-- a handle was given too long ago, or the block or the root was refused
abbrev pub IsToldWhy : List ℕ → ℕ → Store → Reply → Type 0
IsToldWhy key since s told = IsTooOld s since told ⊎ IsCopyRefusal key told

-- where a block's name is present it is that block
abbrev pub IsMine : (List ℕ → Address) → Store → Block → Type 0
IsMine name s block = HasOnly s (name_of name block) block

-- ---- one beginning

-- a deletion was asked for, and answered somehow; or none was
pub data DeletesOrNot {tells : Type 0} (old new : Shown tells) (a b : ℕ) : Type 0 where
  none : new ≡ old → b ≡ a → DeletesOrNot old new a b
  one : IsHeard old new op.Delete → b ≡ a + 1 → DeletesOrNot old new a b

abbrev pub DeleteStops : {tells : Type 0} → Shown tells → Shown tells → ℕ → PartFault → Type 0
DeleteStops old new a f = IsCore f × CallFails old new op.Delete f × (a + 1 ≤ 4)

-- some blocks were written behind a beginning, one after another, and deletions were asked for
pub record WritesAll {tells : Type 0} (name : List ℕ → Address) (old new : Shown tells) (placed : List Placed) (nodes : List Node) (a b : ℕ) : Type 0 where
  pub work : List (Op × Reply)
  pub done : AllByRecursion IsWorkDone work
  pub heard : AreHeard old new work
  pub writes : writes_in (ops_of work) ≡ writes_of name placed
  pub names : map (λ (n : Node). n.address) nodes ≡ names_in name placed
  pub deletes : deletes_in (ops_of work) + a ≡ b
  pub going : new.ended ≡ None
  pub began : new.began ≡ old.began
  pub holds : HoldsSo name new nodes
  pub fresh : HoldsSince name (epoch_now old) new nodes
  pub mine : IfTold new (λ c. AreDifferent (names_in name placed) → AllByRecursion (IsMine name (store_now c new)) (blocks_of name [] placed))

-- what may come behind some writes: the next one, the root, or a deletion
abbrev pub IsNext : List ℕ → List (List ℕ × Option Address) → List (Op × Reply) → ℕ → Op → Type 0
IsNext key all work a op.Delete = (deletes_in (ops_of work) + 1) + a ≤ 4
IsNext key all work a o = ComesNext key all work o

-- the operation behind some writes ended the asker, was refused, or was not asked for
abbrev pub IsEnd : {tells : Type 0} → List ℕ → List (List ℕ × Option Address) → List (Op × Reply) → ℕ → Shown tells → Shown tells → PartFault → Type 0
IsEnd key all work a mid new (part.Core core) = (o : Op) × IsNext key all work a o × Ends mid new o core
IsEnd key all work a mid new (part.Refused told) = (o : Op) × ComesNext key all work o × Hears mid new o told × (grants o told ≡ false)
IsEnd key all work a mid new part.TooMany = ⊥
IsEnd key all work a mid new part.NoMemory = new ≡ mid

-- a beginning has stopped: some writes were done, and this came behind them
pub record RoundStops {tells : Type 0} (name : List ℕ → Address) (key : List ℕ) (old new : Shown tells) (placed : List Placed) (nodes : List Node) (a b : ℕ) (f : PartFault) : Type 0 where
  pub work : List (Op × Reply)
  pub done : AllByRecursion IsWorkDone work
  pub mid : Shown tells
  pub heard : AreHeard old mid work
  pub calm : mid.ended ≡ None
  pub back : List (List ℕ × Option Address)
  pub writes : writes_in (ops_of work) ++ back ≡ writes_of name placed
  pub end : IsEnd key (writes_of name placed) work a mid new f
  pub deletes : deletes_in (ops_of work) + a ≤ 4
  pub began : new.began ≡ old.began
  pub exact : (told : Reply) → f ≡ part.Refused told → deletes_in (ops_of work) + a ≡ b
  pub going : (told : Reply) → f ≡ part.Refused told → new.ended ≡ None
  pub holds : (told : Reply) → f ≡ part.Refused told → HoldsSo name new nodes
  pub cause : (told : Reply) → f ≡ part.Refused told → IfTold new (λ c. IsToldWhy key (epoch_now old) (store_now c new) told)

-- the key keeps the name of the last of some places
pub record KeepsLast (name : List ℕ → Address) (s : Store) (key : List ℕ) (placed : List Placed) : Type 0 where
  pub front : List Address
  pub last : Address
  pub split : names_in name placed ≡ front ++ last ∷ []
  pub root : Root
  pub kept : retained_at s key ≡ Some root
  pub same : root.address ≡ last

-- all blocks were written, and the root was put
pub record RoundDone {tells : Type 0} (name : List ℕ → Address) (key : List ℕ) (old new : Shown tells) (placed : List Placed) (a b : ℕ) : Type 0 where
  pub work : List (Op × Reply)
  pub done : AllByRecursion IsWorkDone work
  pub writes : writes_in (ops_of work) ≡ writes_of name placed
  pub handle : ℕ
  pub heard : AreHeard old new (work ++ (op.Root our_session key handle, reply.Ok) ∷ [])
  pub deletes : deletes_in (ops_of work) + a ≡ b
  pub going : new.ended ≡ None
  pub began : new.began ≡ old.began
  pub kept : IfTold new (λ c. KeepsLast name (store_now c new) key placed)
  pub sane : IfTold new (λ c. IsSane (store_now c new))
  pub mine : IfTold new (λ c. AreDifferent (names_in name placed) → AllByRecursion (IsMine name (store_now c new)) (blocks_of name [] placed))

-- or a handle was stale, and these nodes are held
pub record RoundStale {tells : Type 0} (name : List ℕ → Address) (key : List ℕ) (old new : Shown tells) (placed : List Placed) (nodes : List Node) (a b : ℕ) : Type 0 where
  pub work : List (Op × Reply)
  pub done : AllByRecursion IsWorkDone work
  pub o : Op
  pub told : Reply
  pub next : ComesNext key (writes_of name placed) work o
  pub stale : IsStale told
  pub heard : AreHeard old new (work ++ (o, told) ∷ [])
  pub deletes : deletes_in (ops_of work) + a ≡ b
  pub going : new.ended ≡ None
  pub began : new.began ≡ old.began
  pub holds : HoldsSo name new nodes
  pub risen : IfTold new (λ c. epoch_now old + 1 ≤ epoch_now new)

abbrev pub RoundIs : {tells : Type 0} → (List ℕ → Address) → List ℕ → Shown tells → Shown tells → List Placed → List Node → ℕ → ℕ → Bool → Type 0
RoundIs name key old new placed nodes a b true = RoundDone name key old new placed a b
RoundIs name key old new placed nodes a b false = RoundStale name key old new placed nodes a b

-- a beginning's result where a stale handle is no fault
abbrev pub IsTriedAs : {T : Type 0} → Result T PartFault → Result Bool PartFault → Type 0
IsTriedAs (Ok x) tried = tried ≡ Ok true
IsTriedAs (Err (part.Refused told)) tried = ((tried ≡ Ok false) × IsStale told) ⊎ (tried ≡ Err (part.Refused told)) × (IsStale told → ⊥)
IsTriedAs (Err (part.Core core)) tried = tried ≡ Err (part.Core core)
IsTriedAs (Err part.TooMany) tried = tried ≡ Err part.TooMany
IsTriedAs (Err part.NoMemory) tried = tried ≡ Err part.NoMemory

-- a fault that is no stale handle
abbrev pub IsNotStale : PartFault → Type 0
IsNotStale (part.Core core) = Unit {0}
IsNotStale (part.Refused told) = IsStale told → ⊥
IsNotStale part.TooMany = Unit {0}
IsNotStale part.NoMemory = Unit {0}

-- ---- forgetting

-- some nodes were given up
pub record Forgets {tells : Type 0} (name : List ℕ → Address) (old new : Shown tells) (nodes : List Node) : Type 0 where
  pub forgets : List (Op × Reply)
  pub done : AllByRecursion IsForgetDone forgets
  pub heard : AreHeard old new forgets
  pub going : new.ended ≡ None
  pub began : new.began ≡ old.began
  pub holds : (rest : List Node) → HoldsSo name old (nodes ++ rest) → HoldsSo name new rest

-- a forget ended the asker, was refused, or was not asked for
abbrev pub IsForgetEnd : {tells : Type 0} → Shown tells → Shown tells → PartFault → Type 0
IsForgetEnd mid new (part.Core core) = (o : Op) × IsForget o × Ends mid new o core
IsForgetEnd mid new (part.Refused told) = (o : Op) × IsForget o × Hears mid new o told × (grants o told ≡ false)
IsForgetEnd mid new part.TooMany = ⊥
IsForgetEnd mid new part.NoMemory = new ≡ mid

pub record ForgetStops {tells : Type 0} (old new : Shown tells) (f : PartFault) : Type 0 where
  pub forgets : List (Op × Reply)
  pub done : AllByRecursion IsForgetDone forgets
  pub mid : Shown tells
  pub heard : AreHeard old mid forgets
  pub calm : mid.ended ≡ None
  pub end : IsForgetEnd mid new f
  pub began : new.began ≡ old.began

-- where these nodes are held none of their forgets is refused
abbrev pub AreForgettable : {tells : Type 0} → (List ℕ → Address) → Shown tells → List Node → PartFault → Type 0
AreForgettable name old nodes (part.Core core) = Unit {0}
AreForgettable name old nodes (part.Refused told) = HoldsSo name old nodes → IfTold old (λ b. ⊥)
AreForgettable name old nodes part.TooMany = Unit {0}
AreForgettable name old nodes part.NoMemory = Unit {0}

-- ---- all beginnings

-- some beginnings came to a stale handle, and nothing is held
pub record RoundsBroken {tells : Type 0} (name : List ℕ → Address) (key : List ℕ) (old now : Shown tells) (placed : List Placed) (n a b : ℕ) : Type 0 where
  pub rounds : List (List (Op × Reply))
  pub counted : length rounds ≡ n
  pub broken : AllByRecursion (IsBroken key (writes_of name placed)) rounds
  pub heard : AreHeard old now (joined rounds)
  pub deletes : deletes_in (ops_of (joined rounds)) + a ≡ b
  pub going : now.ended ≡ None
  pub began : now.began ≡ old.began
  pub holds : HoldsSo name old [] → HoldsSo name now []
  pub risen : IfTold now (λ c. epoch_now old + n ≤ epoch_now now)

-- and then the last one was done
pub record RoundsDone {tells : Type 0} (name : List ℕ → Address) (key : List ℕ) (old new : Shown tells) (placed : List Placed) (a : ℕ) : Type 0 where
  pub n : ℕ
  pub few : n ≤ 4
  pub mid : Shown tells
  pub c : ℕ
  pub b : ℕ
  pub broken : RoundsBroken name key old mid placed n a c
  pub done : RoundDone name key mid new placed c b
  pub deletes : b ≤ 4

-- or stopped, or the forgets behind a stale handle were
pub data RoundsStop {tells : Type 0} (name : List ℕ → Address) (key : List ℕ) (old new : Shown tells) (placed : List Placed) (a : ℕ) (f : PartFault) : Type 0 where
  in_round : (n : ℕ) → n ≤ 4 → (mid : Shown tells) (c b : ℕ) (nodes : List Node) → RoundsBroken name key old mid placed n a c → RoundStops name key mid new placed nodes c b f → (n ≡ 4) ⊎ IsNotStale f → RoundsStop name key old new placed a f
  in_forgets : (n : ℕ) → n ≤ 4 → (mid stale : Shown tells) (c b : ℕ) (nodes : List Node) → RoundsBroken name key old mid placed n a c → RoundStale name key mid stale placed nodes c b → b ≤ 4 → ForgetStops stale new f → AreForgettable name stale nodes f → RoundsStop name key old new placed a f

-- ---- with the open

-- the session was opened, and all was written
pub record RootDone {tells : Type 0} (name : List ℕ → Address) (key : List ℕ) (old new : Shown tells) (placed : List Placed) : Type 0 where
  pub mid : Shown tells
  pub opened : Hears old mid (op.Open our_session) reply.Ok
  pub done : RoundsDone name key mid new placed 0

-- the open failed, or what came behind it
pub data RootStops {tells : Type 0} (name : List ℕ → Address) (key : List ℕ) (old new : Shown tells) (placed : List Placed) (f : PartFault) : Type 0 where
  unopened : CallFails old new (op.Open our_session) f → RootStops name key old new placed f
  opened : (mid : Shown tells) → Hears old mid (op.Open our_session) reply.Ok → RoundsStop name key mid new placed 0 f → RootStops name key old new placed f

-- where the store is told, a refusal is of a block or of the root
abbrev pub IsWriteCause : {tells : Type 0} → List ℕ → Shown tells → PartFault → Type 0
IsWriteCause key old (part.Core core) = Unit {0}
IsWriteCause key old (part.Refused told) = IfTold old (λ b. IsCopyRefusal key told)
IsWriteCause key old part.TooMany = Unit {0}
IsWriteCause key old part.NoMemory = Unit {0}
