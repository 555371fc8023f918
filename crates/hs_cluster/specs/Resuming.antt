-- What a cluster is resumed from.
use Rattle.std.specs.Option.{IsSomeAnd}
use Rattle.std.specs.Prelude.{◌≡◌, ℕ, false, List, None, Option}
use Rattle.hs_cluster.specs.Disks.{log_at}
use Rattle.hs_core_words.specs.Looking.{sealed_of, status_of}
use Rattle.hs_core_words.specs.State.{Core}
use Rattle.hs_members.specs.Members.{IsPeer, is_down}
use Rattle.hs_peerlog.specs.Lists.{Keeping}

-- the last entry of a log has this number, and nothing waits to be sealed
pub record EndsWith (number : ℕ) (keeping : Keeping) : Type 0 where
  pub last : keeping.rank.number ≡ number
  pub sealed : keeping.waits ≡ None

-- each peer that is not down has a log, which ends with the last entry that the core knows it to have sealed
pub record EndAsSealed (core : Core) (logs : List (Option Keeping)) : Type 0 where
  pub each : (peer : ℕ) → IsPeer core.members.shape peer → is_down (status_of peer core) ≡ false
      → IsSomeAnd (log_at logs peer) (EndsWith (sealed_of peer core))
