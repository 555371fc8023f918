-- How a run opens: over sound lists, and so that its whole stands.
use Rattle.std.specs.List.{AllByRecursion}
use Rattle.std.specs.Prelude.{◌≡◌, ℕ, ◌<◌, List, None, length}
use Rattle.hs_standing.specs.Walks.{HasRecordRoom}
use Rattle.hs_events.specs.Found.{Found, first_core, opened_list, opens_with}
use Rattle.hs_events.specs.Sane.{IsFromOne}
use Rattle.hs_events.specs.Taken.{peer_count}
use Rattle.hs_fold.specs.Runs.Facts.{Catalogue as Folded}
use Rattle.hs_fold.specs.Runs.Opened.{catalogues}
use Rattle.hs_fold.specs.Shards.Setting.{Setting}
use Rattle.hs_journal.specs.Events.{client_op}
use Rattle.hs_limits.specs.Shape.{IsShape}
use Rattle.hs_sound.specs.Stay.{AreSoundAlong}
use Rattle.hs_standing.specs.Held.{GivesAddresses, KeepsAddresses}
use Rattle.hs_standing.specs.Lists.{Lists, whole_from}
use Rattle.hs_standing.specs.Start.{Start}

-- the lists with which a store opens, all of which took effect, and their folds
abbrev pub opened_lists : Setting → Found → Lists
opened_lists set found = record { whole = opened_list set found; front = λ shard. length (opened_list set found shard) }

abbrev pub opened_folds : Setting → Found → List Folded
opened_folds set found = catalogues set 0 (whole_from (opened_lists set found) 0 set.shape.shards)

-- a store opens over sound lists, which go from 1 on without a Base; of each peer it is known whether it is good; blocks are named by addresses of 32 bytes,
-- and such are all that the lists have
pub record OpensSoundly (set : Setting) (found : Found) : Type 0 where
  pub shape : IsShape set.shape
  pub names : GivesAddresses set.name
  pub many : length found.good ≡ peer_count set.shape
  pub lists : (shard : ℕ) → shard < set.shape.shards → IsFromOne (opened_list set found shard)
  pub sound : AreSoundAlong set (whole_from (opened_lists set found) 0 set.shape.shards)
  pub addressed : AllByRecursion KeepsAddresses (opens_with set found).catalogues

-- each shard has one copy, which has a log from 1 on; these are sound, the core goes on, and line 0 is no client's
pub record OpensWell (start : Start) (found : Found) : Type 0 where
  pub one : start.set.shape.copies ≡ 1
  pub going : (first_core start.set found).ended ≡ None
  pub many : length found.good ≡ peer_count start.set.shape
  pub lists : (shard : ℕ) → shard < start.set.shape.shards → IsFromOne (opened_list start.set found shard)
  pub sound : AreSoundAlong start.set (whole_from (opened_lists start.set found) 0 start.set.shape.shards)
  pub nobody : client_op (start.commands 0) ≡ None
  pub few : HasRecordRoom (first_core start.set found)
