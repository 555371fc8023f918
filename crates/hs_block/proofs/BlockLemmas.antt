-- Reading blocks: addresses one after the other, and what was read.
use Rattle.std.proofs.Common.{◌≡◌, ℕ, suc, ◌+◌, ◌-◌, ◌<◌, List, [], ◌∷◌, ◌++◌, take, drop, Result, Ok, Err, refl, sym, ap, subst, ◌∙◌, append_assoc, arith}
use Rattle.std.specs.Prelude.{IfOk}
use Rattle.std.proofs.lemmas.List.{append-nil}
use Rattle.hs_limits.specs.declared.address.Address.{Address}
use Rattle.hs_limits.specs.declared.spelling.SpellingFault.{SpellingFault}
use Rattle.hs_limits.specs.Block.{Block, IsBlock, HasAddresses, spell}
use Rattle.hs_limits.specs.Reading.{addresses, read_block}
use Rattle.hs_limits.proofs.FieldLemmas.{IsBytes}
use Rattle.hs_limits.proofs.ReadingLemmas.{read_takes, read_again}
use Rattle.hs_block.specs.declared.fault.BlockFault.{BlockFault}
use Rattle.hs_block.specs.Refusal.{IsReading}

-- one address more was read
pub addresses_go_on : (front : List Address) (count i : ℕ) (bytes : List ℕ) (all : List Address) → i < count → front ++ addresses (count - i) bytes ≡ all
    → (front ++ (record { 0 = take 32 bytes }) ∷ []) ++ addresses (count - (i + 1)) (drop 32 bytes) ≡ all
unfolding addresses
addresses_go_on front count i bytes all lt so_far =
    let k : count - i ≡ suc (count - (i + 1)) = omega arith in
    let one : front ++ addresses (count - i) bytes ≡ front ++ ((record { 0 = take 32 bytes }) ∷ addresses (count - (i + 1)) (drop 32 bytes)) = rw k refl in
    append_assoc front (record { 0 = take 32 bytes } ∷ []) (addresses (count - (i + 1)) (drop 32 bytes)) ∙ sym one ∙ so_far

pub addresses_are_done : (front : List Address) (n : ℕ) (bytes : List ℕ) (all : List Address) → n ≡ 0 → front ++ addresses n bytes ≡ all → front ≡ all
unfolding addresses
addresses_are_done front n bytes all none so_far =
    let one : front ++ addresses n bytes ≡ front = rw none (append-nil front) in
    sym one ∙ so_far

-- what was read
pub is_found : (bytes : List ℕ) (r : Result Block BlockFault) → IsBytes bytes → IsReading r (read_block bytes) → IfOk r (λ block. IsBlock block × HasAddresses block × (bytes ≡ spell block))
is_found bytes (Ok block) fit given =
    let read = read_takes bytes block fit given in
    (read.bounds, read.whole, read.spelled ∙ append-nil (spell block))
is_found bytes (Err fault) fit given = tt

pub is_read : (bytes : List ℕ) (r : Result Block BlockFault) → IsReading r (read_block bytes) → (block : Block) → IsBlock block → HasAddresses block → bytes ≡ spell block → IsReading r (Ok block)
is_read bytes r given block bounds addressed spelled =
    subst (λ (read : Result Block SpellingFault). IsReading r read) (ap read_block spelled ∙ read_again block bounds addressed) given
