use Rattle.std.proofs.Common.{rules, ◌≡◌, ℕ, ◌-◌, ◌/◌, List, length, take, ap, arith, length-take-le}
use Rattle.hs_ports.specs.Disk.{overwritten}
use Rattle.hs_ports.proofs.TearLemmas.{half_written}
use Rattle.hs_ports.proofs.image.write_half.Goals as goal

pub returns : goal.returns
returns c = λ l image.
    let bytes = c.args.bytes.now in
    let half = take (length bytes / 2) bytes in
    let size : length half ≡ length bytes / 2 = length-take-le (length bytes / 2) bytes (omega arith) in
    let zeros = c.in_ok-zeros.zeros.items in
    let over : length c.overwrite.new.held.items ≡ length (overwritten c.args.at half c.args.torn.now.items)
    = ap (λ (bs : List ℕ). length bs) c.in_ok-overwrite.ensures.ok in
    let count : length zeros ≡ length bytes - c.min-reach.result = search rules in
    rw (c.in_ok-extend_from_slice.ensures.items, c.deref.ensures.value, c.in_ok-overwrite.ensures.ok)
    (half_written l c.args.torn.now.items half zeros c.args.at (length bytes) image (omega arith) (omega arith))
