use Rattle.hs_standing.proofs.StopsRecordLemmas.{few_wait, lines_once}
use Rattle.hs_standing.proofs.suffices.easily_told_facts_suffice.Goals as goal

pub returns-clause-records : goal.returns-clause-records
returns-clause-records c = λ set lists shard few. few_wait set lists shard few

pub returns-clause-lines : goal.returns-clause-lines
returns-clause-lines c = λ start lists each differ. lines_once start lists each differ
