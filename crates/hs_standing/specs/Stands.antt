-- What the laws of the core owe of a state at a moment, so that what a stop leaves then reopens.
use Rattle.std.specs.Prelude.{true, ℕ, ◌<◌, ◌≡◌, ◌≤◌}
use Rattle.hs_fold.specs.Shards.Images.{Stop}
use Rattle.hs_moments.specs.Machine.{Machine}
use Rattle.hs_standing.specs.Left.{EachLineOnce, MayBeLeft, TookEffect}
use Rattle.hs_standing.specs.Lists.{Lists}
use Rattle.hs_standing.specs.Start.{IsAwaited, Start}

module _ {State Event : Type 0} (M : Machine State Event) where
  -- each shard has one peer, of its number
  abbrev pub lists_of : State → Lists
  lists_of c = record { whole = M.reach c; front = M.front c }

  -- each good peer's disk counts
  abbrev pub GoodPeersCount : State → Type 0
  GoodPeersCount c = (peer : ℕ) → M.good c peer ≡ true → M.counts c peer ≡ true

  -- a good peer's disk counts, and has all that took effect of its shard; what took effect is what the journal tells; what waits may be left, and changes the store once for each line
  pub record Stands (start : Start) (stop : Stop) (c : State) : Type 0 where
    pub counted : GoodPeersCount c
    pub sealed : (peer : ℕ) → M.good c peer ≡ true → M.front c peer ≤ M.floor c peer
    pub took : TookEffect start (M.journal c) (lists_of c)
    pub left : (shard : ℕ) → shard < start.set.shape.shards → MayBeLeft start.set (IsAwaited start stop (M.journal c)) (lists_of c) shard
    pub once : EachLineOnce start (lists_of c)

  -- so where each shard has its good peer
  abbrev pub StandsWhereGood : Start → Stop → State → Type 0
  StandsWhereGood start stop c = ((shard : ℕ) → shard < start.set.shape.shards → M.good c shard ≡ true) → Stands start stop c
