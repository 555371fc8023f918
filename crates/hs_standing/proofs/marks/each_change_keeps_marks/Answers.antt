use Rattle.hs_standing.proofs.HeldLineLemmas.{written_line}
use Rattle.hs_standing.proofs.HeldOpenLemmas.{written_new, written_opens}
use Rattle.hs_standing.proofs.ToldLemmas.{written_told}
use Rattle.hs_standing.proofs.WrittenLemmas.{entered_proposed, written_beside, written_effect, written_goes}
use Rattle.hs_standing.proofs.marks.each_change_keeps_marks.Goals as goal

pub returns-clause-opened : goal.returns-clause-opened
returns-clause-opened c = λ cs shape limits found moment. written_new cs shape limits found moment

pub returns-clause-views : goal.returns-clause-views
returns-clause-views c = λ shard core cs its. written_opens shard core cs its

pub returns-clause-beside : goal.returns-clause-beside
returns-clause-beside c = λ cs before after same its. written_beside cs before after same its

pub returns-clause-own : goal.returns-clause-own
returns-clause-own c = λ cs core its shard line epoch. entered_proposed cs core its shard line epoch

pub returns-clause-line : goal.returns-clause-line
returns-clause-line c = λ name cs core order its line o may. written_line name cs core order its line o may

pub returns-clause-goes : goal.returns-clause-goes
returns-clause-goes c = λ name cs core order its line idle. written_goes name cs core order its line idle

pub returns-clause-told : goal.returns-clause-told
returns-clause-told c = λ name cs core folded order addressed its line number bytes w at waits true_bytes. written_told name cs core folded order addressed its line number bytes w at waits true_bytes

pub returns-clause-effect : goal.returns-clause-effect
returns-clause-effect c = λ name cs core folded order its shard number entry low leads names. written_effect name cs core folded order its shard number entry low leads names
