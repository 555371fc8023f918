use Rattle.std.proofs.Common.{rules, ◌≡◌, length, arith}
use Rattle.hs_ports.proofs.TearLemmas.{filled_of}
use Rattle.hs_ports.proofs.image.fill.Goals as goal

pub returns : goal.returns
returns c =
    let piece = c.in_ok-filled.filled.items in
    let size : length piece ≡ c.min-count.result = search rules in
    rw (c.in_ok-overwrite.ensures.ok, c.deref.ensures.value)
    (filled_of c.args.torn.now.items piece c.args.at c.args.len (omega arith) (omega arith))
