-- The folds of a core beside the machine of deletion.
use Rattle.std.specs.Prelude.{◌<◌, List}
use Rattle.hs_deletion.specs.Following.{AreCountsFollowed}
use Rattle.hs_deletion.specs.Machine.{Machine}
use Rattle.hs_deletion.specs.Promises.{HasEachZero, HasNoWrongZero}
use Rattle.hs_fold.specs.Runs.Facts.{Catalogue as Folded}
use Rattle.hs_fold.specs.Shards.Setting.{Setting}
use Rattle.hs_joint.specs.Joined.{AreJoined}
use Rattle.hs_joint.specs.Seen.{all_seen, layout_of}

-- folds follow a machine that a lawful history makes; each count is how often the address is named, but for what is on its way; no zero block that its run reaches is a wrong one; at a last round each block out of reach is a zero block
pub record FollowsMachine (set : Setting) (some : 0 < set.shape.shards) (cs : List Folded) : Type 0 where
  pub machine : Machine
  pub joined : AreJoined set some cs machine
  pub counts : AreCountsFollowed (layout_of set.shape.shards some) machine (all_seen cs)
  pub no_wrong_zero : HasNoWrongZero (layout_of set.shape.shards some) machine
  pub exact_zero : HasEachZero (layout_of set.shape.shards some) machine
