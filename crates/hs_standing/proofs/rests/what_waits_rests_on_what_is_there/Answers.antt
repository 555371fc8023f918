use Rattle.hs_standing.proofs.RestLemmas.{rests_beside, rests_due, rests_effect, rests_goes, rests_line, rests_new, rests_opens, rests_round, rests_told}
use Rattle.hs_standing.proofs.rests.what_waits_rests_on_what_is_there.Goals as goal

pub returns-clause-opened : goal.returns-clause-opened
returns-clause-opened c = λ cs shape limits found moment. rests_new cs shape limits found moment

pub returns-clause-viewed : goal.returns-clause-viewed
returns-clause-viewed c = λ cs core shard rests low. rests_opens cs core rests shard low

pub returns-clause-beside : goal.returns-clause-beside
returns-clause-beside c = λ cs before after rests beside. rests_beside cs before after rests beside

pub returns-clause-effect : goal.returns-clause-effect
returns-clause-effect c = λ name cs core shard number entry its low leads few gots. rests_effect name cs core its shard number entry low leads few gots

pub returns-clause-goes : goal.returns-clause-goes
returns-clause-goes c = λ name cs core line its. rests_goes name cs core its line

pub returns-clause-told : goal.returns-clause-told
returns-clause-told c = λ name cs core line bytes w its at. rests_told name cs core its line bytes w at

pub returns-clause-line : goal.returns-clause-line
returns-clause-line c = λ name cs core line o its. rests_line name cs core its line o

pub returns-clause-due : goal.returns-clause-due
returns-clause-due c = λ name cs core shard its low due. rests_due name cs core its shard low due

pub returns-clause-round : goal.returns-clause-round
returns-clause-round c = λ name cs core number from to epoch round total deltas its low gots. rests_round name cs core its number from to epoch round total deltas low gots
