-- A file as a tree of blocks: pieces of its bytes at height 0, and at each height above blocks that point to runs of those below.
use Rattle.std.proofs.Common.{zero, suc}
use Rattle.std.specs.Int.{to_be_bytes, w64}
use Rattle.std.specs.List.{AllByRecursion, AllZip, flat_map}
use Rattle.std.specs.Prelude.{ℕ, ◌*◌, ◌+◌, ◌≡◌, List, [], ◌∷◌, ◌++◌, Some, drop, if◌then◌else◌, length, map, nat_le, take}
use Rattle.hs_laws.specs.Written.{IsBlockAt}
use Rattle.hs_limits.specs.Block.{Block, spell}
use Rattle.hs_limits.specs.declared.address.Address.{Address}
use Rattle.hs_limits.specs.declared.spelling.TheConstants.{MOST_BYTES, MOST_POINTERS}
use Rattle.hs_model.specs.Store.{Root, Store, retained_at}

-- how a file is cut: the bytes of a piece, and the blocks of a run
pub record Cut : Type 0 where
  pub piece : ℕ
  pub fan : ℕ

-- as much as a block takes of each
abbrev pub stored_cut : Cut
stored_cut = record { piece = MOST_BYTES; fan = MOST_POINTERS }

-- a list in runs of n, of which the last may be shorter, for at most as many runs as there are turns
abbrev pub runs_in : {A : Type 0} → ℕ → ℕ → List A → List (List A)
runs_in turns n [] = []
runs_in zero n (x ∷ xs) = []
runs_in (suc turns) n (x ∷ xs) = take n (x ∷ xs) ∷ runs_in turns n (drop n (x ∷ xs))

-- all of it
unfoldable pub runs : {A : Type 0} → ℕ → List A → List (List A)
runs n xs = runs_in (length xs) n xs

-- how many bytes at most are below a block at a height
unfoldable pub span : Cut → ℕ → ℕ
span cut zero = cut.piece
span cut (suc h) = cut.fan * span cut h

-- the least height from this one on that spans n bytes; the last is taken where the turns are over
unfoldable pub height_from : Cut → ℕ → ℕ → ℕ → ℕ
height_from cut zero n h = h
height_from cut (suc turns) n h = if nat_le n (span cut h) then h else height_from cut turns n (h + 1)

-- the height of the top of a file of n bytes: at most 2, which spans 268,435,456 bytes of those that are stored
unfoldable pub height : Cut → ℕ → ℕ
height cut n = height_from cut 2 n 0

-- the block at a height that has these bytes below it: the piece itself at height 0, and else the names of the blocks of its runs, with the number of the bytes in 8 bytes
unfoldable pub node : Cut → (List ℕ → Address) → ℕ → List ℕ → Block
node cut name zero file = record { pointers = []; bytes = file }
node cut name (suc h) file = record {
  pointers = map (λ run. name (spell (node cut name h run))) (runs (span cut h) file);
  bytes = to_be_bytes w64 (length file);
}

-- that block and all below it, children first
unfoldable pub tree : Cut → (List ℕ → Address) → ℕ → List ℕ → List Block
tree cut name zero file = node cut name zero file ∷ []
tree cut name (suc h) file = flat_map (tree cut name h) (runs (span cut h) file) ++ node cut name (suc h) file ∷ []

-- the tree of a file, and the name of its top
unfoldable pub tree_of : Cut → (List ℕ → Address) → List ℕ → List Block
tree_of cut name file = tree cut name (height cut (length file)) file

unfoldable pub top : Cut → (List ℕ → Address) → List ℕ → Address
top cut name file = name (spell (node cut name (height cut (length file)) file))

-- ---- in a store

-- each block of some is present at its name
abbrev pub ArePresent : (List ℕ → Address) → Store → List Block → Type 0
ArePresent name s blocks = AllByRecursion (λ block. IsBlockAt s (name (spell block)) block) blocks

-- a file is stored under a key: the key keeps the top of its tree, all of which is present
pub record IsStored (name : List ℕ → Address) (s : Store) (key file : List ℕ) : Type 0 where
  pub root : Root
  pub kept : retained_at s key ≡ Some root
  pub tops : root.address ≡ top stored_cut name file
  pub tree : ArePresent name s (tree_of stored_cut name file)

-- at an address and below it, down to height 0, stand the blocks of a file, place by place: of the same shape, with the same bytes
unfoldable pub IsTreeBelow : Store → ℕ → Address → List ℕ → Type 0
IsTreeBelow s zero a file = IsBlockAt s a (record { pointers = []; bytes = file })
IsTreeBelow s (suc h) a file =
    (pointers : List Address) × IsBlockAt s a (record { pointers = pointers; bytes = to_be_bytes w64 (length file) })
    × AllZip (IsTreeBelow s h) pointers (runs (span stored_cut h) file)

-- they are the tree of a whole file
abbrev pub IsTreeAt : Store → Address → List ℕ → Type 0
IsTreeAt s a file = IsTreeBelow s (height stored_cut (length file)) a file
