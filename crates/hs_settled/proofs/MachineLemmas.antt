-- The folds of a core that stands follow a machine of deletion.
use Rattle.std.proofs.Common.{subst, ℕ, ◌<◌, List}
use Rattle.hs_answered.specs.Telling.{Judging}
use Rattle.hs_core_words.specs.Looking.{shape_of}
use Rattle.hs_core_words.specs.State.{Core}
use Rattle.hs_settled.specs.Machine.{FollowsMachine}
use Rattle.hs_deletion.specs.Catalogue.{ShardCatalogue}
use Rattle.hs_deletion.specs.Following.{AreCountsFollowed, IsFollowed}
use Rattle.hs_deletion.specs.History.{IsMade}
use Rattle.hs_deletion.specs.Machine.{Layout, Machine}
use Rattle.hs_deletion.specs.Promises.{HasEachZero, HasNoWrongZero}
use Rattle.hs_effects.specs.Lawful.{AreOfHistory}
use Rattle.hs_effects.specs.Taking.{setting_of}
use Rattle.hs_fold.specs.Lawful.{Deed}
use Rattle.hs_fold.specs.Runs.Facts.{Catalogue as Folded}
use Rattle.hs_fold.specs.Runs.History.{FitAll, follow_all, no_entries}
use Rattle.hs_fold.specs.Shards.Setting.{Setting}
use Rattle.hs_joint.specs.Along.{KeepFewRecords}
use Rattle.hs_joint.specs.Joined.{AreJoined}
use Rattle.hs_joint.specs.Seen.{all_seen, layout_of}
use Rattle.hs_standing.specs.Legal.{IsStanding}
use Rattle.hs_limits.specs.Shape.{IsShape}
use Rattle.hs_model.specs.Store.{Store}

-- what is known of lawful histories, and of the machines that they make
pub record OfMachines : Type 0 where
  pub joined : (set : Setting) (history : List Deed) (some : 0 < set.shape.shards) → IsShape set.shape → FitAll set (no_entries set) history → KeepFewRecords set (no_entries set) history
      → (m : Machine) × AreJoined set some (follow_all set (no_entries set) history) m
  pub counts : (layout : Layout) (m : Machine) (catalogues : ℕ → ShardCatalogue) → IsFollowed layout m catalogues → AreCountsFollowed layout m catalogues
  pub none : (layout : Layout) (m : Machine) → IsMade layout m → HasNoWrongZero layout m
  pub found : (layout : Layout) (m : Machine) → IsMade layout m → HasEachZero layout m

pub core_follows : OfMachines → (by : Judging) (start : Store) (core : Core) (cs : List Folded) (some : 0 < (shape_of core).shards) → IsStanding by start core cs → FollowsMachine (setting_of by.name core) some cs
core_follows laws by start core cs some its = record {
  machine = found.0;
  joined = joined;
  counts = laws.counts (layout_of (shape_of core).shards some) found.0 (all_seen cs) joined.followed;
  no_wrong_zero = laws.none (layout_of (shape_of core).shards some) found.0 joined.followed.made;
  exact_zero = laws.found (layout_of (shape_of core).shards some) found.0 joined.followed.made;
}
  where
    lawful : AreOfHistory (setting_of by.name core) cs
    lawful = its.lawful.lawful

    found : (m : Machine) × AreJoined (setting_of by.name core) some (follow_all (setting_of by.name core) (no_entries (setting_of by.name core)) lawful.history) m
    found = laws.joined (setting_of by.name core) lawful.history some its.lawful.folded.valid lawful.fits lawful.records

    joined : AreJoined (setting_of by.name core) some cs found.0
    joined = subst (λ (ds : List Folded). AreJoined (setting_of by.name core) some ds found.0) lawful.gives found.1
