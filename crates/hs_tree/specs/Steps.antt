-- What each part of a storing does to a tree that has grown so far.
use Rattle.std.specs.List.{concat, flat_map}
use Rattle.std.specs.Prelude.{ℕ, ◌+◌, ◌≡◌, ◌≤◌, List, [], ◌∷◌, ◌++◌, length, map}
use Rattle.hs_asking.specs.Shown.{Shown}
use Rattle.hs_limits.specs.Block.{Block, spell}
use Rattle.hs_limits.specs.declared.address.Address.{Address}
use Rattle.hs_tree.specs.Growing.{IsGrowing, IsGrown, IsHalted, Place, piece_at, places_at, run_at, tree_below, write_above}
use Rattle.hs_tree.specs.Telling.{IsWrittenAs}
use Rattle.hs_tree.specs.Trees.{runs, span, stored_cut}
use Rattle.hs_tree.specs.declared.fault.TreeFault.{TreeFault}
use Rattle.hs_tree.specs.declared.grow.Node.{Node}

-- a block was written above some nodes, and this is its node
pub record WritesNode {tells : Type 0} (name : List ℕ → Address) (session : List ℕ) (old new : Shown tells) (nodes : List Node) (payload : List ℕ) (made : Node) : Type 0 where
  pub answered : IsWrittenAs old new (write_above name session nodes payload) made.handle
  pub named : made.address ≡ name (spell (record { pointers = map (λ (n : Node). n.address) nodes; bytes = payload }))

-- some nodes that are not needed are given up
abbrev pub Forgets : {tells : Type 0} → List ℕ → Shown tells → Shown tells → List Node → Type 0
Forgets {tells} session old new nodes =
    (name : List ℕ → Address) (start : Shown tells) (front spare last : List Node) (blocks : List Block) (places : List Place)
    → IsGrowing name session start old front (nodes ++ spare) last blocks places → IsGrowing name session start new front spare last blocks places

abbrev pub ForgetStops : {tells : Type 0} → List ℕ → Shown tells → Shown tells → List Node → TreeFault → Type 0
ForgetStops {tells} session old new nodes f =
    (name : List ℕ → Address) (key : List ℕ) (start : Shown tells) (front spare last : List Node) (blocks : List Block) (places : List Place)
    → IsGrowing name session start old front (nodes ++ spare) last blocks places → IsHalted name session key start new blocks f

-- the nodes of a run behind some others belong to places, and there is room for one more
pub record IsFitting (front run : List Node) (places : List Place) : Type 0 where
  pub counted : length (front ++ run) ≡ length places
  pub room : length (front ++ run) + 1 ≤ 81

-- a piece is written, and its node stands at the end of the run
abbrev pub AddsPiece : {tells : Type 0} → (List ℕ → Address) → List ℕ → Shown tells → Shown tells → List ℕ → List Node → List Node → Type 0
AddsPiece {tells} name session old new piece run after =
    (start : Shown tells) (front : List Node) (places : List Place) → IsFitting front run places
    → IsGrown name session start old (front ++ run) places → IsGrown name session start new (front ++ after) (places ++ piece_at piece ∷ [])

abbrev pub Stops : {tells : Type 0} → (List ℕ → Address) → List ℕ → Shown tells → Shown tells → List ℕ → List Node → TreeFault → Type 0
Stops {tells} name session old new piece run f =
    (key : List ℕ) (start : Shown tells) (front : List Node) (places : List Place) → IsFitting front run places
    → IsGrown name session start old (front ++ run) places → IsHalted name session key start new (flat_map (tree_below name) (places ++ piece_at piece ∷ [])) f

-- the run's nodes belong to these pieces or runs of a height, which have so many bytes
pub record IsRun (front : List Node) (fp : List Place) (h : ℕ) (cs : List (List ℕ)) (bytes : ℕ) : Type 0 where
  pub counted : length front ≡ length fp
  pub cut : runs (span stored_cut h) (concat cs) ≡ cs
  pub below : bytes ≡ length (concat cs)

-- a block is written above a run, and its node stands behind those above in place of the run
abbrev pub ClosesRun : {tells : Type 0} → (List ℕ → Address) → List ℕ → Shown tells → Shown tells → ℕ → List Node → List Node → List Node → Type 0
ClosesRun {tells} name session old new bytes run above after =
    (start : Shown tells) (fp : List Place) (h : ℕ) (cs : List (List ℕ)) → IsRun above fp h cs bytes → length (above ++ run) + 1 ≤ 81
    → IsGrown name session start old (above ++ run) (fp ++ places_at h cs) → IsGrown name session start new after (fp ++ run_at h cs ∷ [])

abbrev pub CloseStops : {tells : Type 0} → (List ℕ → Address) → List ℕ → Shown tells → Shown tells → ℕ → List Node → List Node → TreeFault → Type 0
CloseStops {tells} name session old new bytes run above f =
    (key : List ℕ) (start : Shown tells) (fp : List Place) (h : ℕ) (cs : List (List ℕ)) → IsRun above fp h cs bytes → length (above ++ run) + 1 ≤ 81
    → IsGrown name session start old (above ++ run) (fp ++ places_at h cs) → IsHalted name session key start new (flat_map (tree_below name) (fp ++ run_at h cs ∷ [])) f
