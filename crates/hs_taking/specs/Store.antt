-- What the disks of a store of one copy were read as, and what it opens with.
use Rattle.std.specs.List.{AllPairs}
use Rattle.std.specs.Prelude.{◌≡◌, ◌<◌, ℕ, true, length, Contains, None, is_some}
use Rattle.hs_fold.specs.Shards.Setting.{Setting}
use Rattle.hs_taking.specs.Disks.{seen_at}
use Rattle.hs_taking.specs.Shares.{HasShare, IsLater, IsLostAt, Span, Taken, all_lost, share_at}
use Rattle.hs_taking.specs.Viewed.{IsUnread}

-- each peer's log was taken, unless its disk failed or is no log; those that were lost since stand in a list, each with its moment
pub record HasRead (tells : Type 0) (set : Setting) (span : Span) (taken : Taken) : Type 0 where
  pub each : (peer : ℕ) → peer < length taken.shares → HasShare tells set span taken peer
  pub unread : (peer : ℕ) → peer < length taken.shares → (share_at taken peer).took ≡ None → IsUnread tells (seen_at span.old peer) (seen_at span.new peer)
  pub lost : (x : ℕ × ℕ) → Contains (all_lost taken) x → IsLostAt tells span taken x
  pub once : AllPairs IsLater (all_lost taken)
  pub all : (peer : ℕ) → peer < length taken.shares → is_some (share_at taken peer).lost ≡ true → (moment : ℕ) × Contains (all_lost taken) (peer, moment)
