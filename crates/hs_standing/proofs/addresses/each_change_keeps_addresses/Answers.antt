use Rattle.hs_standing.proofs.HeldHeldLemmas.{held_beside, held_effect, held_goes, held_line, held_told, proposed_held}
use Rattle.hs_standing.proofs.HeldOpenLemmas.{held_new, held_opens}
use Rattle.hs_standing.proofs.addresses.each_change_keeps_addresses.Goals as goal

pub returns-clause-opened : goal.returns-clause-opened
returns-clause-opened c = λ shape limits found moment h. held_new shape limits found moment h

pub returns-clause-views : goal.returns-clause-views
returns-clause-views c = λ shard core its. held_opens shard core its

pub returns-clause-beside : goal.returns-clause-beside
returns-clause-beside c = λ before after same its. held_beside before after same its

pub returns-clause-proposed : goal.returns-clause-proposed
returns-clause-proposed c = λ shard entry core its. proposed_held shard entry core its

pub returns-clause-line : goal.returns-clause-line
returns-clause-line c = λ name names core its line o may. held_line name names core its line o may

pub returns-clause-goes : goal.returns-clause-goes
returns-clause-goes c = λ name names core order its line. held_goes name names core order its line

pub returns-clause-told : goal.returns-clause-told
returns-clause-told c = λ name names core order its line bytes w. held_told name names core order its line bytes w

pub returns-clause-effect : goal.returns-clause-effect
returns-clause-effect c = λ name names core order its shard number entry leads. held_effect name names core order its shard number entry leads
