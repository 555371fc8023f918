-- What the definitions give in a deletion run: a parent and its child, counted, and lowered when nothing keeps the parent.
use Rattle.std.proofs.Common.{◌≡◌, ℕ, [], ◌∷◌, map, replicate, Some, None, refl}
use Rattle.hs_limits.specs.declared.address.Address.{Address}
use Rattle.hs_limits.specs.declared.delta.Delta.{Delta}
use Rattle.hs_counts.specs.Counts.{CountList, count_of, raise, lower, place, remove_count, zero_addresses}

abbrev a : ℕ → Address
a byte = record { 0 = replicate 32 byte }

abbrev by : ℕ → ℕ → Delta
by byte amount = record { address = a byte; amount = amount }

-- write a 63 / write a 70 h0 / delete: both are counted, and the parent 7 points to the child 6
abbrev counted : CountList
counted = raise (by 6 1) (place (a 6) (place (a 7) []))

-- round 1 finds the parent, which nothing points to; its decrement goes out, and round 2 finds the child
round_1 : zero_addresses counted ≡ a 7 ∷ []
round_1 = refl

round_2 : zero_addresses (lower (by 6 1) counted) ≡ a 6 ∷ a 7 ∷ []
round_2 = refl

-- both are swept
swept : remove_count (a 6) (remove_count (a 7) (lower (by 6 1) counted)) ≡ []
swept = refl

-- a child that two pointers name is no zero block after one decrement, and is placed again with its count
shared : map (λ byte. count_of (a byte) (place (a 6) (lower (by 6 1) (raise (by 6 1) counted)))) (6 ∷ 7 ∷ 8 ∷ []) ≡ Some 1 ∷ Some 0 ∷ None ∷ []
shared = refl

stays : zero_addresses (lower (by 6 1) (raise (by 6 1) counted)) ≡ a 7 ∷ []
stays = refl
