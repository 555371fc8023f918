-- Which peer of a shard is chosen.
use Rattle.std.proofs.Common.{◌≡◌, ◌∙◌, ap, sym, ℕ, suc, ◌+◌, ◌*◌, ◌-◌, ◌<◌, ◌≤◌, List, Option, Some, None, drop, length, take, arith}
use Rattle.std.proofs.Math.Nat.{mul-le-mul_right, suc-mul}
use Rattle.std.proofs.lemmas.List.Quantifiers.{position-Some}
use Rattle.hs_coldstart.specs.Choose.{choose, is_greatest}
use Rattle.hs_entry.specs.declared.rank.Rank.{Rank}
use Rattle.hs_limits.specs.declared.shape.Shape.{Shape}

-- the peers of a shard are peers
pub shard_within : (shape : Shape) (shard : ℕ) → shard < shape.shards → shard * shape.copies + shape.copies ≤ shape.shards * shape.copies
shard_within shape shard low =
    let m : suc shard * shape.copies ≤ shape.shards * shape.copies = mul-le-mul_right shape.copies (omega (arith, low)) in
    let d : suc shard * shape.copies ≡ shard * shape.copies + shape.copies = suc-mul shard shape.copies in
    omega (arith, m, d)

-- a chosen place is one of them
pub chosen_within : (ranks : List (Option Rank)) (copy : ℕ) → choose ranks ≡ Some copy → copy < length ranks
chosen_within ranks copy is = (position-Some (is_greatest ranks) ranks copy None is).0

-- the ranks of a shard's peers, as a part of all
pub part_is : (ranks : List (Option Rank)) (from to first copies : ℕ) → from ≡ first → to ≡ from + copies → take (to - from) (drop from ranks) ≡ take copies (drop first ranks)
part_is ranks from to first copies is end =
    let n : to - from ≡ copies = omega (arith, end) in
    ap (λ k. take k (drop from ranks)) n ∙ ap (λ k. take copies (drop k ranks)) is

-- the place that is chosen of equal lists
pub choice_is : (own part : List (Option Rank)) (found : Option ℕ) → found ≡ choose own → own ≡ part → choose part ≡ found
choice_is own part found is same = ap choose (sym same) ∙ sym is
