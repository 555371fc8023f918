-- So far, the front of the bytes is decoded.
use Rattle.hs_script.proofs.DigitLemmas.{IsDecodedTo}
use Rattle.hs_script.proofs.digits.decode.Given as goal

abbrev pub invariant-pairs : goal.invariant-pairs
invariant-pairs l = IsDecodedTo l.digits l.bytes l.i
