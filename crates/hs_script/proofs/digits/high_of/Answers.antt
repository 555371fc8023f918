use Rattle.hs_script.proofs.DigitLemmas.{most_in_high}
use Rattle.hs_script.proofs.digits.high_of.Goals as goal

pub returns-clause-most : goal.returns-clause-most
returns-clause-most c = most_in_high c.args.byte c.ranges.byte.fits
