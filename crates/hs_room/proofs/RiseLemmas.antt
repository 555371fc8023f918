-- Later lines have room for no fewer entries.
use Rattle.std.proofs.Common.{◌≡◌, ℕ, zero, suc, ◌+◌, ◌-◌, ◌*◌, ◌≤◌, Bool, Option, arith, count_by}
use Rattle.std.specs.List.{range_with_len}
use Rattle.hs_limits.specs.declared.shape.Shape.{Shape}
use Rattle.hs_model.specs.declared.command.Command.{Command}
use Rattle.hs_promise.specs.Completes.{deletes_up_to, entries_most, is_delete}
use Rattle.hs_settled.proofs.EndsCountLemmas.{many, many-counted, times, times-is, times_le}

count_rises : (p : ℕ → Bool) (from low high : ℕ) → low ≤ high → many p (range_with_len from low) ≤ many p (range_with_len from high)
count_rises p from zero high up = omega arith
count_rises p from (suc low) zero up = absurd (omega (arith, up))
count_rises p from (suc low) (suc high) up =
    let rest : many p (range_with_len (from + 1) low) ≤ many p (range_with_len (from + 1) high) = count_rises p (from + 1) low high (omega (arith, up)) in
    omega (arith, rest)

deletes_rise : (commands : ℕ → Option Command) (low high : ℕ) → low ≤ high → deletes_up_to commands low ≤ deletes_up_to commands high
deletes_rise commands low high up =
    let p : ℕ → Bool = λ n. is_delete (commands n) in
    let all : many p (range_with_len 1 low) ≤ many p (range_with_len 1 high) = count_rises p 1 low high up in
    let few : many p (range_with_len 1 low) ≡ count_by p (range_with_len 1 low) = many-counted p (range_with_len 1 low) in
    let more : many p (range_with_len 1 high) ≡ count_by p (range_with_len 1 high) = many-counted p (range_with_len 1 high) in
    omega (arith, all, few, more)

pub most_rises : (commands : ℕ → Option Command) (shape : Shape) (low high : ℕ) → low ≤ high → entries_most commands shape low ≤ entries_most commands shape high
most_rises commands shape low high up =
    let n : ℕ = 2 * shape.shards + 1 in
    let a : ℕ = deletes_up_to commands low + 2 in
    let b : ℕ = deletes_up_to commands high + 2 in
    let fewer : deletes_up_to commands low ≤ deletes_up_to commands high = deletes_rise commands low high up in
    let wider : times n a ≤ times n b = times_le n a b (omega (arith, fewer)) in
    let one : times n a ≡ n * a = times-is n a in
    let two : times n b ≡ n * b = times-is n b in
    omega (arith, up, wider, one, two)

-- and by one a line more
pub most_more : (commands : ℕ → Option Command) (shape : Shape) (low high : ℕ) → low ≤ high → entries_most commands shape low + (high - low) ≤ entries_most commands shape high
most_more commands shape low high up =
    let n : ℕ = 2 * shape.shards + 1 in
    let a : ℕ = deletes_up_to commands low + 2 in
    let b : ℕ = deletes_up_to commands high + 2 in
    let fewer : deletes_up_to commands low ≤ deletes_up_to commands high = deletes_rise commands low high up in
    let wider : times n a ≤ times n b = times_le n a b (omega (arith, fewer)) in
    let one : times n a ≡ n * a = times-is n a in
    let two : times n b ≡ n * b = times-is n b in
    omega (arith, up, wider, one, two)
