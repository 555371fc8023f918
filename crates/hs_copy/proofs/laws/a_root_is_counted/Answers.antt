use Rattle.hs_copy.proofs.CountLemmas.{counted_all}
use Rattle.hs_copy.proofs.laws.a_root_is_counted.Goals as goal

pub returns : goal.returns
returns c = counted_all
