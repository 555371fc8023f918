use Rattle.std.proofs.Common.{◌*◌, arith}
use Rattle.hs_script.proofs.DigitLemmas.{decodes_not}
use Rattle.hs_script.proofs.digits.decode.Goals as goal

pub returns-in-None : goal.returns-in-None
returns-in-None c =
    decodes_not c.args.digits.now c.pairs.bytes c.pairs.bytes c.pairs.i (omega arith) (c.in-None.ensures (2 * c.pairs.i)) c.pairs.invariant
