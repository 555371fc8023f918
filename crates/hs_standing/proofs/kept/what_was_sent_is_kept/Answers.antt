use Rattle.hs_standing.proofs.AtomLemmas.{sent_again, sent_beside, sent_downed, sent_due, sent_effect, sent_goes, sent_line, sent_new, sent_opens, sent_refused, sent_round, sent_told}
use Rattle.hs_standing.proofs.kept.what_was_sent_is_kept.Goals as goal

pub returns-clause-opened : goal.returns-clause-opened
returns-clause-opened c = λ name history shape limits found moment. sent_new name history shape limits found moment

pub returns-clause-view : goal.returns-clause-view
returns-clause-view c = λ name history core shard sent. sent_opens name history core sent shard

pub returns-clause-beside : goal.returns-clause-beside
returns-clause-beside c = λ name history a b sent same. sent_beside name history a b sent same

pub returns-clause-downed : goal.returns-clause-downed
returns-clause-downed c = λ name history core peer line sent. sent_downed name history core sent peer line

pub returns-clause-refused : goal.returns-clause-refused
returns-clause-refused c = λ name history core line refusal sent. sent_refused name history core sent line refusal

pub returns-clause-line : goal.returns-clause-line
returns-clause-line c = λ name history core line o sent called. sent_line name history core sent line o called

pub returns-clause-goes : goal.returns-clause-goes
returns-clause-goes c = λ name history core line order sent. sent_goes name history core order sent line

pub returns-clause-told : goal.returns-clause-told
returns-clause-told c = λ name history core line bytes pointers order sent. sent_told name history core order sent line bytes pointers

pub returns-clause-due : goal.returns-clause-due
returns-clause-due c = λ name history core shard epoch sent. sent_due name history core sent shard epoch

pub returns-clause-round : goal.returns-clause-round
returns-clause-round c = λ name cs core lawful number from to epoch round total deltas sent at new. sent_round name cs core lawful sent number from to epoch round total deltas at new

pub returns-clause-again : goal.returns-clause-again
returns-clause-again c = λ name cs core lawful back shard sent. sent_again name cs core lawful sent back shard

pub returns-clause-effect : goal.returns-clause-effect
returns-clause-effect c = λ name cs core lawful shard number entry order sent low first. sent_effect name cs core lawful sent order shard number entry low first
