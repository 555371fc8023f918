use Rattle.hs_fold.specs.Runs.Catalogue.{catalogue_of as catalogue_with_runs}
use Rattle.hs_fold.specs.Shards.Catalogue.{catalogue_of}
use Rattle.hs_fold.proofs.Shards.FrontLemmas.{front-exact}
use Rattle.hs_fold.proofs.fronts.fronts_are_prefixes.Goals as goal

pub returns-clause-exact : goal.returns-clause-exact
returns-clause-exact c = λ at front all f g. front-exact (λ es. catalogue_of at es) front all f g

pub returns-clause-with_runs : goal.returns-clause-with_runs
returns-clause-with_runs c = λ at front all f g. front-exact (λ es. catalogue_with_runs at es) front all f g
