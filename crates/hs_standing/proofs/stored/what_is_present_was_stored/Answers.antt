use Rattle.hs_standing.proofs.RestsOpenLemmas.{list_numbers, stored_new}
use Rattle.hs_standing.proofs.StoredLemmas.{stored_beside, stored_effect, stored_goes, stored_line, stored_proposed}
use Rattle.hs_standing.proofs.stored.what_is_present_was_stored.Goals as goal

pub returns-clause-listed : goal.returns-clause-listed
returns-clause-listed c = λ at list numbered a facts found. list_numbers at list numbered a facts found

pub returns-clause-opened : goal.returns-clause-opened
returns-clause-opened c = λ cs shape limits found moment each stored. stored_new cs shape limits found moment each stored

pub returns-clause-beside : goal.returns-clause-beside
returns-clause-beside c = λ cs before after stored beside. stored_beside cs before after stored beside

pub returns-clause-effect : goal.returns-clause-effect
returns-clause-effect c = λ name cs core shard number entry its stored low leads. stored_effect name cs core its stored shard number entry low leads

pub returns-clause-goes : goal.returns-clause-goes
returns-clause-goes c = λ cs core next line stored. stored_goes cs core stored next line

pub returns-clause-line : goal.returns-clause-line
returns-clause-line c = λ cs core line o stored. stored_line cs core stored line o

pub returns-clause-proposed : goal.returns-clause-proposed
returns-clause-proposed c = λ cs core shard entry stored. stored_proposed cs core stored shard entry
