-- With which lists a core opens.
use Rattle.std.specs.Prelude.{◌≡◌, ℕ, length}
use Rattle.hs_events.specs.Found.{Found, opened_list}
use Rattle.hs_events.specs.Sane.{IsFromOne}
use Rattle.hs_events.specs.Taken.{peer_count}
use Rattle.hs_fold.specs.Shards.Setting.{Setting}
use Rattle.hs_fold.specs.Shards.Sound.{HasRisingViews}
use Rattle.hs_limits.specs.Shape.{IsShape}
use Rattle.hs_members.specs.Members.{IsShard}

-- of each peer it is known whether it has the taken log; each shard's list has numbers from 1 on and no Base, and its views never fall
pub record MayOpenWhole (set : Setting) (found : Found) : Type 0 where
  pub shape : IsShape set.shape
  pub count : length found.good ≡ peer_count set.shape
  pub lists : (shard : ℕ) → IsShard set.shape shard → IsFromOne (opened_list set found shard)
  pub views : (shard : ℕ) → IsShard set.shape shard → HasRisingViews (opened_list set found shard)
