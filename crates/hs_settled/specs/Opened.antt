-- With what a store of several copies opens, and whom opening set aside.
use Rattle.std.specs.Prelude.{ℕ, ◌<◌, ◌≡◌, false, true}
use Rattle.hs_entry.specs.Entries.{rank_of}
use Rattle.hs_events.specs.Found.{Found, opened_list}
use Rattle.hs_fold.specs.Shards.Setting.{Setting}
use Rattle.hs_events.specs.Taken.{is_taken}
use Rattle.hs_limits.specs.Shape.{IsShape}
use Rattle.hs_promise.specs.Entry.{is_aside}
use Rattle.hs_promise.specs.Found.{IsToldAside}
use Rattle.hs_promise.specs.Run.{Ran, Script}
use Rattle.hs_promise.specs.Story.{Story}

-- its shape is one that is served; and a shard whose list has no entry has had no view
pub record OpensRanked (set : Setting) (found : Found) : Type 0 where
  pub shape : IsShape set.shape
  pub blank : (shard : ℕ) → shard < set.shape.shards → (rank_of (opened_list set found shard)).number ≡ 0 → (rank_of (opened_list set found shard)).view ≡ 0

-- a peer was not good as the core opened: its disk shows why; and opening set it aside, but where its log was the taken one
pub record IsAsideAs (S : Script) (r : Ran) (story : Story) (peer : ℕ) : Type 0 where
  pub told : IsToldAside S r story peer
  pub aside : is_taken S.set.shape story.found.logs peer ≡ false → is_aside S r peer ≡ true
