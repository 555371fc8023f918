-- The data of a block stand at the end of its spelling.
use Rattle.std.proofs.Common.{◌≡◌, ◌∙◌, ℕ, ◌+◌, ◌-◌, ◌≤◌, List, ◌∷◌, ◌++◌, length, drop, Ok, ap, append_assoc, arith}
use Rattle.std.specs.List.{flat_map}
use Rattle.std.specs.Int.{w16, w32, to_be_bytes}
use Rattle.std.proofs.lemmas.List.{append-nil, drop_at, length-append}
use Rattle.hs_limits.specs.Block.{Block, spell}
use Rattle.hs_limits.specs.Reading.{read_block}
use Rattle.hs_limits.proofs.FieldLemmas.{IsBytes}
use Rattle.hs_limits.proofs.ReadingLemmas.{read_takes}

-- a list ends in another
pub record EndsIn (content bytes : List ℕ) : Type 0 where
  pub there : length content ≤ length bytes
  pub behind : drop (length bytes - length content) bytes ≡ content

ends_in : (head content bytes : List ℕ) → bytes ≡ head ++ content → EndsIn content bytes
ends_in head content bytes e =
    let sizes : length bytes ≡ length head + length content = ap (λ (l : List ℕ). length l) e ∙ length-append head content in
    record {
      there = omega (arith, sizes);
      behind = ap (λ (l : List ℕ). drop (length bytes - length content) l) e ∙ drop_at head content (length bytes - length content) (omega (arith, sizes));
    }

-- what is read ends in the block's data
pub read_ends : (bytes : List ℕ) (block : Block) → IsBytes bytes → read_block bytes ≡ Ok block → EndsIn block.bytes bytes
read_ends bytes block fit e =
    let head : List ℕ = 1 ∷ (to_be_bytes w16 (length block.pointers) ++ (flat_map (λ pointer. pointer.0) block.pointers ++ to_be_bytes w32 (length block.bytes))) in
    let parts : spell block ≡ head ++ block.bytes = simp append_assoc in
    ends_in head block.bytes bytes ((read_takes bytes block fit e).spelled ∙ append-nil (spell block) ∙ parts)
