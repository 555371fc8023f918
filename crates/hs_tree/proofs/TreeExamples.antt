-- Small trees, computed: pieces of 2 bytes and runs of 2, with names that tell their blocks apart.
use Rattle.std.proofs.Common.{◌≡◌, ℕ, List, [], ◌∷◌, refl, length, map, sum}
use Rattle.hs_limits.specs.Block.{Block, spell}
use Rattle.hs_limits.specs.declared.address.Address.{Address}
use Rattle.hs_tree.specs.Levels.{Node, levels, levels_of}
use Rattle.hs_tree.specs.Trees.{Cut, height, height_from, node, runs, span, stored_cut, tree, tree_of}

-- ---- heights of the files that are stored

of_nothing : height stored_cut 0 ≡ 0
unfolding height height_from span
of_nothing = refl

of_a_piece : height stored_cut 65536 ≡ 0
unfolding height height_from span
of_a_piece = refl

of_one_byte_more : height stored_cut 65537 ≡ 1
unfolding height height_from span
of_one_byte_more = refl

of_a_run : height stored_cut 4194304 ≡ 1
unfolding height height_from span
of_a_run = refl

of_a_run_and_a_byte : height stored_cut 4194305 ≡ 2
unfolding height height_from span
of_a_run_and_a_byte = refl

of_the_longest : height stored_cut 67108864 ≡ 2
unfolding height height_from span
of_the_longest = refl

-- ---- trees

abbrev small : Cut
small = record { piece = 2; fan = 2 }

abbrev named : List ℕ → Address
named bytes = record { 0 = length bytes ∷ sum bytes ∷ [] }

abbrev eight : ℕ → List ℕ
eight n = 0 ∷ 0 ∷ 0 ∷ 0 ∷ 0 ∷ 0 ∷ 0 ∷ n ∷ []

abbrev leaf : List ℕ → Block
leaf piece = record { pointers = []; bytes = piece }

abbrev above : List Block → ℕ → Block
above run below = record { pointers = map (λ block. named (spell block)) run; bytes = eight below }

-- an empty file is one block, without pointers and bytes
nothing_is_one_block : tree_of small named [] ≡ leaf [] ∷ []
unfolding tree_of tree node runs height height_from span
nothing_is_one_block = refl

one_byte_is_one_block : tree_of small named (7 ∷ []) ≡ leaf (7 ∷ []) ∷ []
unfolding tree_of tree node runs height height_from span
one_byte_is_one_block = refl

-- one byte more than a piece: two pieces, and a block above them
three_bytes_are_three_blocks : tree_of small named (7 ∷ 8 ∷ 9 ∷ []) ≡ leaf (7 ∷ 8 ∷ []) ∷ leaf (9 ∷ []) ∷ above (leaf (7 ∷ 8 ∷ []) ∷ leaf (9 ∷ []) ∷ []) 3 ∷ []
unfolding tree_of tree node runs height height_from span
three_bytes_are_three_blocks = refl

-- one byte more than a run: each run has its block behind its pieces, and the last run has one piece
five_bytes_are_six_blocks : tree_of small named (1 ∷ 2 ∷ 3 ∷ 4 ∷ 5 ∷ [])
    ≡ leaf (1 ∷ 2 ∷ []) ∷ leaf (3 ∷ 4 ∷ []) ∷ above (leaf (1 ∷ 2 ∷ []) ∷ leaf (3 ∷ 4 ∷ []) ∷ []) 4
    ∷ leaf (5 ∷ []) ∷ above (leaf (5 ∷ []) ∷ []) 1
    ∷ above (above (leaf (1 ∷ 2 ∷ []) ∷ leaf (3 ∷ 4 ∷ []) ∷ []) 4 ∷ above (leaf (5 ∷ []) ∷ []) 1 ∷ []) 5 ∷ []
unfolding tree_of tree node runs height height_from span
five_bytes_are_six_blocks = refl

-- ---- the same from the pieces up

abbrev blocks_of : List Node → List Block
blocks_of level = map (λ n. n.block) level

levels_of_nothing : map blocks_of (levels_of small named []) ≡ (leaf [] ∷ []) ∷ []
unfolding levels runs
levels_of_nothing = refl

levels_of_five_bytes : map blocks_of (levels_of small named (1 ∷ 2 ∷ 3 ∷ 4 ∷ 5 ∷ []))
    ≡ (leaf (1 ∷ 2 ∷ []) ∷ leaf (3 ∷ 4 ∷ []) ∷ leaf (5 ∷ []) ∷ [])
    ∷ (above (leaf (1 ∷ 2 ∷ []) ∷ leaf (3 ∷ 4 ∷ []) ∷ []) 4 ∷ above (leaf (5 ∷ []) ∷ []) 1 ∷ [])
    ∷ (node small named (height small 5) (1 ∷ 2 ∷ 3 ∷ 4 ∷ 5 ∷ []) ∷ []) ∷ []
unfolding levels runs node height height_from span
levels_of_five_bytes = refl
