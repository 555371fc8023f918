use Rattle.std.proofs.Common.{◌≡◌, ◌∙◌, ◌+◌, ◌≤◌, List, ℕ, length, ap, arith, length-append, vec_len}
use Rattle.hs_entry.specs.Payload.{payload}
use Rattle.hs_entry.proofs.ShortLemmas.{payload-short}
use Rattle.hs_side.proofs.lay.lay_entry.Goals as goal

pub overflow_cast-len : goal.overflow_cast-len
overflow_cast-len c =
    let short : length (payload c.args.number c.args.entry.now) ≤ 600000 = payload-short c.args.number c.args.entry.now c.requires in
    let front = c.extend_from_slice.new.self in
    let vec = c.write_entry.new.out in
    let room : vec_len front ≡ length front.items = omega (arith, front.ok.0) in
    let long : vec_len vec ≡ length vec.items = omega (arith, vec.ok.0) in
    let size : length vec.items ≡ length front.items + length (payload c.args.number c.args.entry.now) = ap (λ (l : List ℕ). length l) c.in-Ok.ensures.ok ∙ length-append front.items (payload c.args.number c.args.entry.now) in
    omega (arith, short, room, long, size, c.in_ok-extend_from_slice.ensures.len, c.clear.ensures.len, c.len-len.ensures)
