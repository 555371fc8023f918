-- A file that is taken piece by piece and stored.
use Rattle.std.specs.List.{AllByRecursion, concat}
use Rattle.std.specs.Prelude.{ℕ, ◌<◌, ◌≡◌, ◌≤◌, ◌⊎◌, List, [], ◌∷◌, ◌++◌, None, Option, length}
use Rattle.hs_asking.specs.Asked.{HasBegun}
use Rattle.hs_asking.specs.Shown.{IfTold, Began, Shown, store_now}
use Rattle.hs_limits.specs.Limits.{greatest_limits}
use Rattle.hs_limits.specs.declared.address.Address.{Address}
use Rattle.hs_model.specs.declared.op.Op.{Op}
use Rattle.hs_model.specs.declared.op.Op.TheVariants as op
use Rattle.hs_ports.specs.Source.{IsEnded, before}
use Rattle.hs_tree.specs.Calls.{AsksWithFew}
use Rattle.hs_tree.specs.Growing.{HasTop, HoldsAtMost, IsGrown, IsHalted, IsOpenAndWork, IsWork, as_writes, places_at, writes_in}
use Rattle.hs_tree.specs.Telling.{AreDone}
use Rattle.hs_tree.specs.Trees.{IsStored, stored_cut, tree_of}
use Rattle.hs_tree.specs.declared.fault.TreeFault.{TreeFault}
use Rattle.hs_tree.specs.declared.grow.Node.{Node}

-- files are stored and fetched in the session `a`
abbrev pub our_session : List ℕ
our_session = 97 ∷ []

-- where the store is told it has no session, the limits are the greatest, and the naming is this one
pub record IsIdle {tells : Type 0} (name : List ℕ → Address) (b : Began) (s : Shown tells) : Type 0 where
  pub none_open : (store_now b s).sessions ≡ []
  pub limits : b.limits ≡ greatest_limits
  pub named : b.name ≡ name

-- ---- how far a file was taken

-- parts of n bytes each
abbrev pub AreFull : ℕ → List (List ℕ) → Type 0
AreFull n cs = AllByRecursion (λ c. length c ≡ n) cs

-- but for the last, which may be shorter
abbrev pub IsCut : ℕ → List (List ℕ) → Type 0
IsCut n [] = Unit {0}
IsCut n (c ∷ []) = (0 < length c) × (length c ≤ n)
IsCut n (c ∷ d ∷ cs) = (length c ≡ n) × IsCut n (d ∷ cs)

-- all pieces so far are full: whole runs are closed, and the pieces behind them are open
pub record IsGathering {tells : Type 0} (name : List ℕ → Address) (session : List ℕ) (start now : Shown tells) (upper lower : List Node) (file : List ℕ) : Type 0 where
  pub tops : List (List ℕ)
  pub pieces : List (List ℕ)
  pub grown : IsGrown name session start now (upper ++ lower) (places_at 1 tops ++ places_at 0 pieces)
  pub uppers : length upper ≡ length tops
  pub lowers : length lower ≡ length pieces
  pub few : length pieces ≤ 64
  pub full_tops : AreFull 4194304 tops
  pub full_pieces : AreFull 65536 pieces
  pub whole : concat tops ++ concat pieces ≡ file

-- no run is closed before another piece comes
pub record IsTaking {tells : Type 0} (name : List ℕ → Address) (session : List ℕ) (start now : Shown tells) (upper lower : List Node) (file : List ℕ) : Type 0 where
  pub gathering : IsGathering name session start now upper lower file
  pub some : 0 < length file → 0 < length gathering.pieces
  pub fits : length file ≤ 67108864

-- so it is from somewhere on
pub record IsUnderWay {tells : Type 0} (name : List ℕ → Address) (session : List ℕ) (now : Shown tells) (upper lower : List Node) (bytes : ℕ) : Type 0 where
  pub start : Shown tells
  pub file : List ℕ
  pub taking : IsTaking name session start now upper lower file
  pub counted : bytes ≡ length file

-- the file has ended: there is a piece, and the last one may be short, or empty where it is the only one
pub record IsGathered {tells : Type 0} (name : List ℕ → Address) (session : List ℕ) (start now : Shown tells) (upper lower : List Node) (file : List ℕ) : Type 0 where
  pub tops : List (List ℕ)
  pub pieces : List (List ℕ)
  pub grown : IsGrown name session start now (upper ++ lower) (places_at 1 tops ++ places_at 0 pieces)
  pub uppers : length upper ≡ length tops
  pub lowers : length lower ≡ length pieces
  pub few : length pieces ≤ 64
  pub some : 0 < length pieces
  pub full_tops : AreFull 4194304 tops
  pub cut : IsCut 65536 pieces ⊎ (tops ≡ []) × (pieces ≡ [] ∷ [])
  pub whole : concat tops ++ concat pieces ≡ file

-- so it is of some file of so many bytes
pub record IsWhole {tells : Type 0} (name : List ℕ → Address) (session : List ℕ) (now : Shown tells) (upper lower : List Node) (bytes : ℕ) : Type 0 where
  pub start : Shown tells
  pub file : List ℕ
  pub gathered : IsGathered name session start now upper lower file
  pub counted : bytes ≡ length file
  pub fits : bytes ≤ 67108864

-- a piece was added
pub record HasAdded {tells : Type 0} (name : List ℕ → Address) (session : List ℕ) (start now : Shown tells) (upper lower : List Node) (file piece : List ℕ) : Type 0 where
  pub gathered : IsGathered name session start now upper lower (file ++ piece)
  pub going_on : length piece ≡ 65536 → length (file ++ piece) ≤ 67108864 → IsTaking name session start now upper lower (file ++ piece)

-- a piece was taken, of so many bytes, and added
pub record HasTaken {tells : Type 0} (name : List ℕ → Address) (session : List ℕ) (start now : Shown tells) (left left' : Option (List ℕ)) (upper lower : List Node) (file : List ℕ) (taken : ℕ) : Type 0 where
  pub piece : List ℕ
  pub counted : taken ≡ length piece
  pub stream : before piece left' ≡ left
  pub bound : taken ≤ 65536
  pub added : HasAdded name session start now upper lower file piece
  pub ended : taken < 65536 → IsEnded left'

-- the whole source was taken
pub record HasGathered {tells : Type 0} (name : List ℕ → Address) (session : List ℕ) (start now : Shown tells) (left left' : Option (List ℕ)) (upper lower : List Node) (bytes : ℕ) : Type 0 where
  pub file : List ℕ
  pub counted : bytes ≡ length file
  pub fits : length file ≤ 67108864
  pub stream : before file left' ≡ left
  pub ended : IsEnded left'
  pub gathered : IsGathered name session start now upper lower file

-- some more bytes were taken behind a file, and the storing has stopped: what was written by then is a front of the tree of both
pub record HasHalted {tells : Type 0} (name : List ℕ → Address) (session key : List ℕ) (start now : Shown tells) (left left' : Option (List ℕ)) (file : List ℕ) (f : TreeFault) : Type 0 where
  pub more : List ℕ
  pub stream : before more left' ≡ left
  pub halted : IsHalted name session key start now (tree_of stored_cut name (file ++ more)) f

-- ---- a file that is stored

-- the root was asked for last, of a top behind which all of the file's tree was written
pub record AsksRoot {tells : Type 0} (name : List ℕ → Address) (key : List ℕ) (start now : Shown tells) (file : List ℕ) : Type 0 where
  pub before : Shown tells
  pub top : Node
  pub grown : HasTop name our_session start before top file
  pub asked : now.asked ≡ before.asked ++ op.Root our_session key top.handle ∷ []
  pub begun : HasBegun before now (op.Root our_session key top.handle)
  pub began : now.began ≡ before.began

-- its tree's blocks were asked for one by one, children first, with at most 81 handles held at a time, and then the root, and all was done; all is there where the store is told
pub record HasStored {tells : Type 0} (name : List ℕ → Address) (key : List ℕ) (start now : Shown tells) (left left' : Option (List ℕ)) (bytes : ℕ) : Type 0 where
  pub file : List ℕ
  pub counted : bytes ≡ length file
  pub fits : length file ≤ 67108864
  pub stream : before file left' ≡ left
  pub ended : IsEnded left'
  pub ops : List Op
  pub handle : ℕ
  pub asked : now.asked ≡ start.asked ++ op.Open our_session ∷ (ops ++ op.Root our_session key handle ∷ [])
  pub work : AllByRecursion (IsWork our_session) ops
  pub writes : writes_in ops ≡ as_writes name (tree_of stored_cut name file)
  pub few : HoldsAtMost 81 ops
  pub held : IfTold now (λ b. AsksWithFew b our_session 81 start now)
  pub going : now.ended ≡ None
  pub began : now.began ≡ start.began
  pub done : AreDone start now (op.Open our_session ∷ (ops ++ op.Root our_session key handle ∷ []))
  pub stored : IfTold now (λ b. IsStored name (store_now b now) key file)
  pub root : AsksRoot name key start now file

-- ---- one that is not

-- of a storing that has stopped: its writes are, in order, the first of those of the tree of the bytes that were taken, and the root came only behind all of them, of a file that was taken to its end
pub record IsUnfinished {tells : Type 0} (name : List ℕ → Address) (start now : Shown tells) (left left' : Option (List ℕ)) : Type 0 where
  pub file : List ℕ
  pub stream : before file left' ≡ left
  pub ops : List Op
  pub asked : now.asked ≡ start.asked ++ ops
  pub back : List (List ℕ × Option Address)
  pub writes : writes_in ops ++ back ≡ as_writes name (tree_of stored_cut name file)
  pub whole : (front : List Op) (session key : List ℕ) (handle : ℕ) → ops ≡ front ++ op.Root session key handle ∷ [] → (back ≡ []) × IsEnded left' × (length file ≤ 67108864)
  pub root : ((session : List ℕ) × IsOpenAndWork session ops) ⊎ ((key : List ℕ) × AsksRoot name key start now file × IsEnded left' × (length file ≤ 67108864))

-- nothing was written yet
pub record IsUnwritten {tells : Type 0} (start now : Shown tells) : Type 0 where
  pub ops : List Op
  pub asked : now.asked ≡ start.asked ++ ops
  pub work : IsOpenAndWork our_session ops
  pub writes : writes_in ops ≡ []
