use Rattle.hs_scrub.proofs.CauseLemmas.{all_same, none_bad}
use Rattle.hs_scrub.proofs.laws.none_is_bad_where_all_are_same.Goals as goal

pub returns : goal.returns
returns c = λ marks. (none_bad marks, all_same marks)
