use Rattle.hs_tails.proofs.FrontLemmas.{front_open, front_rests}
use Rattle.hs_tails.proofs.tails.a_front_of_a_tail_is_a_tail.Goals as goal

pub returns-clause-rests : goal.returns-clause-rests
returns-clause-rests c = λ set cs shard front tail more t. front_rests set cs shard front tail more t

pub returns-clause-lines : goal.returns-clause-lines
returns-clause-lines c = λ core shard tail more t. front_open core shard tail more t
