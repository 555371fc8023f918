-- The same tree from its pieces up, level by level.
use Rattle.std.proofs.Common.{zero, suc}
use Rattle.std.specs.Int.{to_be_bytes, w64}
use Rattle.std.specs.Prelude.{ℕ, List, [], ◌∷◌, ◌++◌, if◌then◌else◌, length, map, nat_le, sum}
use Rattle.hs_limits.specs.Block.{Block, spell}
use Rattle.hs_limits.specs.declared.address.Address.{Address}
use Rattle.hs_tree.specs.Trees.{Cut, node, runs, span, stored_cut}

-- a block of a level, and the number of file bytes below it
pub record Node : Type 0 where
  pub block : Block
  pub below : ℕ

-- the pieces of a file: its bytes in runs, and of an empty file one empty piece
abbrev pub pieces : Cut → List ℕ → List (List ℕ)
pieces cut [] = [] ∷ []
pieces cut (x ∷ xs) = runs cut.piece (x ∷ xs)

-- level 0: a block without pointers for each piece
abbrev pub first_level : Cut → List ℕ → List Node
first_level cut file = map (λ piece. record { block = record { pointers = []; bytes = piece }; below = length piece }) (pieces cut file)

-- a block that points to a run of blocks
abbrev pub parent : (List ℕ → Address) → List Node → Node
parent name run =
    let below : ℕ = sum (map (λ n. n.below) run) in
    record { block = record { pointers = map (λ n. name (spell n.block)) run; bytes = to_be_bytes w64 below }; below = below }

-- the next level: one such block for each run
abbrev pub next_level : Cut → (List ℕ → Address) → List Node → List Node
next_level cut name level = map (parent name) (runs cut.fan level)

-- a level, and while it has more than one block the next one; for as many more levels as there are turns
unfoldable pub levels : Cut → (List ℕ → Address) → ℕ → List Node → List (List Node)
levels cut name zero level = level ∷ []
levels cut name (suc turns) level = if nat_le (length level) 1 then level ∷ [] else level ∷ levels cut name turns (next_level cut name level)

-- the levels of a file's tree
abbrev pub levels_of : Cut → (List ℕ → Address) → List ℕ → List (List Node)
levels_of cut name file = levels cut name 2 (first_level cut file)

-- the level of a height by the tree: the block of each run that the height spans, with its bytes
abbrev pub level_at : (List ℕ → Address) → ℕ → List ℕ → List Node
level_at name h file = map (λ c. record { block = node stored_cut name h c; below = length c }) (runs (span stored_cut h) file)

-- the levels up to a height
abbrev pub levels_to : (List ℕ → Address) → ℕ → List ℕ → List (List Node)
levels_to name zero file = level_at name 0 file ∷ []
levels_to name (suc h) file = levels_to name h file ++ level_at name (suc h) file ∷ []
