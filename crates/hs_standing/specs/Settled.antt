-- What took effect of the lists of all shards, as folds.
use Rattle.std.specs.Prelude.{◌≡◌, ◌≤◌, List, All, AllPairs}
use Rattle.hs_fold.specs.Lawful.{Ascends, Deed}
use Rattle.hs_fold.specs.Runs.Facts.{Catalogue as Folded}
use Rattle.hs_fold.specs.Runs.History.{FitAll, follow_all, no_entries}
use Rattle.hs_fold.specs.Shards.Setting.{Setting}
use Rattle.hs_joint.specs.Along.{KeepFewRecords}
use Rattle.hs_standing.specs.Lists.{Lists, settled_catalogues}

-- these folds are what took effect of the lists, and a lawful history gives them, in which the numbers of each shard ascend, up to its front at most
pub record AreSettled (set : Setting) (lists : Lists) (cs : List Folded) : Type 0 where
  pub folds : settled_catalogues set lists ≡ cs
  pub history : List Deed
  pub ascends : AllPairs Ascends history
  pub within : All (λ deed. deed.number ≤ lists.front deed.shard) history
  pub fits : FitAll set (no_entries set) history
  pub records : KeepFewRecords set (no_entries set) history
  pub gives : follow_all set (no_entries set) history ≡ cs
