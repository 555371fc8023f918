use Rattle.hs_model.proofs.Members.{contains_from_member}
use Rattle.hs_fold.specs.Runs.Fits.{catalogue_at}
use Rattle.hs_fold.proofs.Runs.EndDeedLemmas.{end-searches, end-sweeps}
use Rattle.hs_fold.proofs.deletion.ends_of_rounds_change_the_store.Goals as goal

pub returns-clause-search : goal.returns-clause-search
returns-clause-search c = λ set cs shard all low own more late. end-searches set shard cs all low own more (λ r m e. late r (contains_from_member r (catalogue_at cs shard).roots m) e)

pub returns-clause-sweep : goal.returns-clause-sweep
returns-clause-sweep c = λ set cs shard all low own last exact. end-sweeps set shard cs all low own last (λ e m. exact e (contains_from_member e (catalogue_at cs shard).blocks m))
