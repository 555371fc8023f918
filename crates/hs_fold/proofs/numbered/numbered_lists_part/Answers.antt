use Rattle.hs_fold.proofs.NumberedLemmas.{numbered-behind, numbered-up_to, numbered-more}
use Rattle.hs_fold.proofs.PrefixLemmas.{last-length}
use Rattle.hs_fold.proofs.numbered.numbered_lists_part.Goals as goal

pub returns-clause-last : goal.returns-clause-last
returns-clause-last c = λ list g. last-length list g

pub returns-clause-up_to : goal.returns-clause-up_to
returns-clause-up_to c = λ front back g. numbered-up_to front back g

pub returns-clause-behind : goal.returns-clause-behind
returns-clause-behind c = λ front back g. numbered-behind front back g

pub returns-clause-more : goal.returns-clause-more
returns-clause-more c = λ list entry g f. numbered-more list entry g f
