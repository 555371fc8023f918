-- What is asked of the store that a root is copied from, and what is found there.
use Rattle.std.specs.List.{AllByRecursion}
use Rattle.std.specs.Prelude.{ℕ, ◌<◌, ◌≡◌, List, [], ◌∷◌, ◌++◌, None, Some, Contains, length, map}
use Rattle.hs_asking.specs.Shown.{IfTold, Shown, store_now}
use Rattle.hs_asking.specs.Staying.{Stays}
use Rattle.hs_laws.specs.Written.{IsBlockAt}
use Rattle.hs_limits.specs.Block.{Block, spell}
use Rattle.hs_limits.specs.declared.address.Address.{Address}
use Rattle.hs_model.specs.Reach.{IsReached}
use Rattle.hs_model.specs.Store.{Root, Store, retained_at}
use Rattle.hs_model.specs.declared.op.Op.{Op}
use Rattle.hs_model.specs.declared.op.Op.TheVariants as op
use Rattle.hs_model.specs.declared.reply.Reply.{Reply}
use Rattle.hs_model.specs.declared.reply.Reply.TheVariants as reply
use Rattle.hs_tree.specs.Fetching.{IsReading}
use Rattle.hs_tree.specs.Storing.{our_session}

-- the handle of each read
abbrev pub reads_in : List Op → List ℕ
reads_in [] = []
reads_in (op.Read name handle ∷ rest) = handle ∷ reads_in rest
reads_in (other ∷ rest) = reads_in rest

-- no address stands twice in a list
abbrev pub AreDifferent : List Address → Type 0
AreDifferent [] = Unit {0}
AreDifferent (a ∷ rest) = (Contains rest a → ⊥) × AreDifferent rest

-- the addresses that one reaches in a store, each once
pub record AreReached (s : Store) (a : Address) (list : List Address) : Type 0 where
  pub once : AreDifferent list
  pub reached : (b : Address) → Contains list b → IsReached s (a ∷ []) b
  pub all : (b : Address) → IsReached s (a ∷ []) b → Contains list b

-- more than so many different addresses are reached
pub record ReachesMore (s : Store) (a : Address) (n : ℕ) : Type 0 where
  pub list : List Address
  pub once : AreDifferent list
  pub reached : (b : Address) → Contains list b → IsReached s (a ∷ []) b
  pub more : n < length list

-- a key keeps an address that does
abbrev pub KeepsMore : Store → List ℕ → ℕ → Type 0
KeepsMore s key n = (root : Root) × (retained_at s key ≡ Some root) × ReachesMore s root.address n

-- a key keeps nothing, and that was told
abbrev pub IsUnkept : Store → List ℕ → Reply → Type 0
IsUnkept s key told = (told ≡ reply.NoKey key) × (retained_at s key ≡ None)

-- each root that a key retains it retains later, and all that its address leads to stays with the same blocks
pub record KeepsItsOwn (s t : Store) : Type 0 where
  pub roots : (key : List ℕ) (root : Root) → retained_at s key ≡ Some root → retained_at t key ≡ Some root
  pub blocks : (key : List ℕ) (root : Root) → retained_at s key ≡ Some root → Stays s t root.address

-- an open, one look at the key, and so many reads, with forgets, and nothing else; all was done, and where the store is told it keeps its own
pub record HasListed {tells : Type 0} (key : List ℕ) (start now : Shown tells) (n : ℕ) : Type 0 where
  pub ops : List Op
  pub asked : now.asked ≡ start.asked ++ op.Open our_session ∷ (op.Look our_session key ∷ ops)
  pub kinds : AllByRecursion (IsReading our_session) ops
  pub reads : length (reads_in ops) ≡ n
  pub going : now.ended ≡ None
  pub began : now.began ≡ start.began
  pub keeps : IfTold start (λ b. KeepsItsOwn (store_now b start) (store_now b now))

-- the name of a block
abbrev pub name_of : (List ℕ → Address) → Block → Address
name_of name block = name (spell block)

-- the key keeps the name of the last of some blocks, they are all that it reaches, each once, and each stands at its name
pub record AreAllOf (name : List ℕ → Address) (s : Store) (key : List ℕ) (blocks : List Block) : Type 0 where
  pub root : Root
  pub kept : retained_at s key ≡ Some root
  pub front : List Address
  pub last : map (name_of name) blocks ≡ front ++ root.address ∷ []
  pub addresses : AreReached s root.address (map (name_of name) blocks)
  pub present : AllByRecursion (λ block. IsBlockAt s (name_of name block) block) blocks
