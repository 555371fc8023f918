use Rattle.hs_settled.proofs.good.a_peer_is_good_until_it_is_told.Goals as goal
use Rattle.hs_settled.proofs.UntoldLemmas.{all_start_good, good_untold, good_while_untold}

pub returns-clause-opens : goal.returns-clause-opens
returns-clause-opens c = λ S r story one went past peer low. all_start_good S r story went past one peer low

pub returns-clause-stays : goal.returns-clause-stays
returns-clause-stays c = λ S r story went past m peer low starts begins untold none. good_untold S r story went past m peer low starts untold none begins

pub returns-clause-untold : goal.returns-clause-untold
returns-clause-untold c = λ S r story went alone past m peer during low untold none its.
    good_while_untold S r story went past m peer during low untold none (λ one starts. alone one m peer during.above low starts) its
