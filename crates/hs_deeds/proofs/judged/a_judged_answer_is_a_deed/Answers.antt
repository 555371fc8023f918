use Rattle.hs_deeds.proofs.JudgedLemmas.{judge_is, judge_left, reads_any}
use Rattle.hs_deeds.proofs.judged.a_judged_answer_is_a_deed.Goals as goal

pub returns-clause-is : goal.returns-clause-is
returns-clause-is c = λ limits s o before line. judge_is limits s o before line

pub returns-clause-leaves : goal.returns-clause-leaves
returns-clause-leaves c = λ limits s o. judge_left limits s o

pub returns-clause-data_free : goal.returns-clause-data_free
returns-clause-data_free c = λ limits s name handle line bytes content handles before told. reads_any limits s name handle line bytes content handles before told
