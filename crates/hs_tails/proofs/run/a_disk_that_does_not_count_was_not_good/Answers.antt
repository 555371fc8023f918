use Rattle.hs_tails.proofs.AsideLemmas.{never_was_good}
use Rattle.hs_tails.proofs.run.a_disk_that_does_not_count_was_not_good.Goals as goal

pub returns : goal.returns
returns c = never_was_good
