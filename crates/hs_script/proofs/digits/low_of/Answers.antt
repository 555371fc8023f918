use Rattle.hs_script.proofs.DigitLemmas.{most_in_low}
use Rattle.hs_script.proofs.digits.low_of.Goals as goal

pub returns-clause-most : goal.returns-clause-most
returns-clause-most c = most_in_low c.args.byte c.ranges.byte.fits
