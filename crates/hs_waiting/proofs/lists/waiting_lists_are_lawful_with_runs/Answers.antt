use Rattle.hs_laws.proofs.ValidLemmas.{is_from_valid}
use Rattle.hs_fold.specs.Shards.Parted.{whole_lists}
use Rattle.hs_fold.specs.Runs.Opened.{catalogues, store_of}
use Rattle.hs_waiting.proofs.ListLemmas.{whole_valid, whole_lawful, whole_room, whole_sent}
use Rattle.hs_waiting.proofs.lists.waiting_lists_are_lawful_with_runs.Goals as goal

pub returns-clause-lawful : goal.returns-clause-lawful
returns-clause-lawful c = λ set lists lawful shape count records waits more. whole_lawful set lists lawful shape count records waits more

pub returns-clause-valid : goal.returns-clause-valid
returns-clause-valid c = λ set lists lawful shape count records waits more. is_from_valid (store_of (catalogues set 0 (whole_lists lists))) (whole_valid set lists lawful shape count records waits more)

pub returns-clause-room : goal.returns-clause-room
returns-clause-room c = λ set lists lawful shape count records waits more. whole_room set lists lawful shape count records waits more

pub returns-clause-sent : goal.returns-clause-sent
returns-clause-sent c = λ set lists lawful shape count records waits more shard l. whole_sent set lists lawful shape count records waits more shard l
