use Rattle.hs_fold.proofs.Shards.DeedLemmas.{deed-mine}
use Rattle.hs_fold.proofs.Shards.ListLemmas.{lists-mine}
use Rattle.hs_fold.proofs.histories.catalogues_are_of_their_shards.Goals as goal

pub returns-clause-lists : goal.returns-clause-lists
returns-clause-lists c = λ set lists. lists-mine set 0 lists

pub returns-clause-kept : goal.returns-clause-kept
returns-clause-kept c = λ set cs deed all low mine. deed-mine set deed cs all low mine
