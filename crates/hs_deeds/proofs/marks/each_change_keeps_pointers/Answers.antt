use Rattle.hs_deeds.proofs.MarkedLemmas.{points_beside, points_effect, points_goes, points_line, points_new, points_opens, points_own, points_told}
use Rattle.hs_deeds.proofs.marks.each_change_keeps_pointers.Goals as goal

pub returns-clause-opened : goal.returns-clause-opened
returns-clause-opened c = λ shape limits found moment. points_new shape limits found moment

pub returns-clause-views : goal.returns-clause-views
returns-clause-views c = λ shard core its. points_opens shard core its

pub returns-clause-beside : goal.returns-clause-beside
returns-clause-beside c = λ before after same its. points_beside before after same its

pub returns-clause-own : goal.returns-clause-own
returns-clause-own c = λ core its shard line epoch. points_own core its shard line epoch

pub returns-clause-line : goal.returns-clause-line
returns-clause-line c = λ name core order its line o may. points_line name core order its line o may

pub returns-clause-goes : goal.returns-clause-goes
returns-clause-goes c = λ name core order its line idle. points_goes name core order its line idle

pub returns-clause-told : goal.returns-clause-told
returns-clause-told c = λ name core order its line number bytes w at waits. points_told name core order its line number bytes w at waits

pub returns-clause-effect : goal.returns-clause-effect
returns-clause-effect c = λ name cs core folded order its shard number entry low leads names. points_effect name cs core folded order its shard number entry low leads names
