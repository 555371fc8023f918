use Rattle.hs_fold.proofs.Runs.OwnLemmas.{apply-own, lists-own}
use Rattle.hs_fold.proofs.deletion.runs_keep_catalogues_own.Goals as goal

pub returns-clause-lists : goal.returns-clause-lists
returns-clause-lists c = λ set lists. lists-own set 0 lists

pub returns-clause-kept : goal.returns-clause-kept
returns-clause-kept c = λ at k number entry own. apply-own at k own number entry
