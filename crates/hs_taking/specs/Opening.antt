-- What a stop leaves of the disks of a shard while a store opens, whatever opening comes to.
use Rattle.std.specs.Prelude.{◌≡◌, ◌⊎◌, ℕ, None, Option}
use Rattle.hs_fold.specs.Shards.Setting.{Numbered}
use Rattle.hs_limits.specs.declared.shape.Shape.{Shape}
use Rattle.hs_ports.specs.Fault.{HasRisen}
use Rattle.hs_side.specs.Current.{list_in}
use Rattle.hs_taking.specs.Copies.{IsFirst, IsOf, LeavesWhileOpening}
use Rattle.hs_taking.specs.Disks.{seen_at}
use Rattle.hs_taking.specs.Shares.{Span}

-- what the disks of a shard were read as, but for one that failed; whose log is taken of these; and what a stop leaves of them meanwhile
pub record LeavesShard (tells : Type 0) (shape : Shape) (span : Span) (shard : ℕ) : Type 0 where
  pub logs : ℕ → Option Numbered
  pub from : ℕ
  pub first : IsFirst shape logs shard from
  pub read : (peer : ℕ) → IsOf shape shard peer → tells
      → (logs peer ≡ list_in (seen_at span.old peer).stands.seen) ⊎ ((logs peer ≡ None) × HasRisen (seen_at span.old peer).faults (seen_at span.new peer).faults)
  pub leaves : LeavesWhileOpening tells shape span logs shard from
