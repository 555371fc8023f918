use Rattle.std.proofs.Common.{◌≡◌, length, ap, ◌∙◌, arith}
use Rattle.hs_limits.proofs.ReadingLemmas.{length-addresses}
use Rattle.hs_block.proofs.block.block_of.Goals as goal

pub invariant_of-result : goal.invariant_of-result
invariant_of-result c =
    let count : length c.from_vec-pointers.result ≡ c.in_ok-count.count = ap length (c.from_vec-pointers.ensures ∙ c.in_ok-addresses_of.ensures) ∙ length-addresses c.in_ok-count.count c.in_ok-count.pointers.now in
    let len : length c.from_vec-bytes.result ≡ length c.in_ok-count.content.now = ap length (c.from_vec-bytes.ensures ∙ c.in_ok-from_slice.ensures.items) in
    record { pointers = omega (arith, count, c.in_ok-count.ensures.few); bytes = omega (arith, len, c.in_ok-count.ensures.short) }
