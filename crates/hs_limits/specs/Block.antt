-- A block, and its one spelling.
use Rattle.std.specs.Prelude.{◌≡◌, ℕ, ◌≤◌, List, ◌∷◌, ◌++◌, length, All}
use Rattle.std.specs.List.{flat_map}
use Rattle.std.specs.Int.{w16, w32, to_be_bytes}
use Rattle.hs_limits.specs.declared.address.Address.{Address}
use Rattle.hs_limits.specs.declared.spelling.TheConstants.{MOST_POINTERS, MOST_BYTES}

-- pointers to blocks, and bytes
pub record Block : Type 0 where
  pub pointers : List Address
  pub bytes : List ℕ

-- at most 64 pointers and 65,536 bytes
pub record IsBlock (block : Block) : Type 0 where
  pub pointers : length block.pointers ≤ MOST_POINTERS
  pub bytes : length block.bytes ≤ MOST_BYTES

-- each pointer has the 32 bytes of an address, as every pointer that a program holds
abbrev pub HasAddresses : Block → Type 0
HasAddresses block = All (λ pointer. length pointer.0 ≡ 32) block.pointers

-- the version 1, the number of pointers, the pointers, the number of bytes, the bytes
abbrev pub spell : Block → List ℕ
spell block = 1 ∷ to_be_bytes w16 (length block.pointers) ++ flat_map (λ pointer. pointer.0) block.pointers ++ to_be_bytes w32 (length block.bytes) ++ block.bytes

-- the bytes are the spelling of some block
pub record IsSpelling (spelling : List ℕ) : Type 0 where
  pub block : Block
  pub bounds : IsBlock block
  pub addressed : HasAddresses block
  pub spelled : spelling ≡ spell block
