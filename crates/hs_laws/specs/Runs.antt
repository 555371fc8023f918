-- The stores that legal runs leave.
use Rattle.std.specs.Prelude.{◌≡◌, ℕ, ◌<◌, List}
use Rattle.hs_limits.specs.declared.limits.Limits.{Limits}
use Rattle.hs_model.specs.Run.{Event, run, IsLegal}
use Rattle.hs_model.specs.Store.{Store, empty_store}

-- some legal run leaves the store, from a store of at least one shard with nothing in it
pub record IsLeft (limits : Limits) (s : Store) : Type 0 where
  pub shards : ℕ
  pub some_shard : 0 < shards
  pub events : List Event
  pub legal : IsLegal limits (empty_store shards) events
  pub leaves : run limits (empty_store shards) events ≡ s
