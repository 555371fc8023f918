-- Reading pointers, one after the other.
use Rattle.std.proofs.Common.{◌≡◌, ℕ, suc, ◌+◌, ◌-◌, ◌<◌, List, [], ◌∷◌, ◌++◌, take, drop, refl, sym, ◌∙◌, append_assoc, arith}
use Rattle.std.proofs.lemmas.List.{append-nil}
use Rattle.hs_limits.specs.declared.address.Address.{Address}
use Rattle.hs_limits.specs.Reading.{addresses}

-- one address more was read
pub addresses_go_on : (front : List Address) (count i : ℕ) (bytes : List ℕ) (all : List Address) → i < count → front ++ addresses (count - i) bytes ≡ all
    → (front ++ (record { 0 = take 32 bytes }) ∷ []) ++ addresses (count - (i + 1)) (drop 32 bytes) ≡ all
unfolding addresses
addresses_go_on front count i bytes all lt so_far =
    let k : count - i ≡ suc (count - (i + 1)) = omega arith in
    let one : front ++ addresses (count - i) bytes ≡ front ++ ((record { 0 = take 32 bytes }) ∷ addresses (count - (i + 1)) (drop 32 bytes)) = rw k refl in
    append_assoc front (record { 0 = take 32 bytes } ∷ []) (addresses (count - (i + 1)) (drop 32 bytes)) ∙ sym one ∙ so_far

pub addresses_are_done : (front : List Address) (n : ℕ) (bytes : List ℕ) (all : List Address) → n ≡ 0 → front ++ addresses n bytes ≡ all → front ≡ all
unfolding addresses
addresses_are_done front n bytes all none so_far =
    let one : front ++ addresses n bytes ≡ front = rw none (append-nil front) in
    sym one ∙ so_far
