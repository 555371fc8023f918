-- What is written where a disk of another store is found.
use Rattle.std.specs.Prelude.{◌≡◌, ◌<◌, ℕ, length, Some}
use Rattle.hs_limits.specs.declared.shape.Shape.{Shape}
use Rattle.hs_peerlog.specs.declared.fault.LogFault.TheVariants as log
use Rattle.hs_peerlog.specs.Opening.{refusal_in}
use Rattle.hs_ports.specs.Fault.{HasRisen}
use Rattle.hs_side.specs.declared.header.Header.{Header}
use Rattle.hs_taking.specs.Disks.{seen_at}
use Rattle.hs_taking.specs.Shares.{Span}
use Rattle.hs_taking.specs.Viewed.{IsOnlyRead}

-- where the disk of a peer is of another store, and its count surely didn't rise, no disk was written
pub record SparesDisks (tells : Type 0) (shape : Shape) (span : Span) : Type 0 where
  pub none : tells → (at : ℕ) (found : Header) → at < length span.old → refusal_in shape at (seen_at span.old at).stands.seen ≡ Some (log.WrongShape found) → (HasRisen (seen_at span.old at).faults (seen_at span.new at).faults → ⊥)
      → (peer : ℕ) → peer < length span.old → IsOnlyRead tells span.before span.now (seen_at span.old peer) (seen_at span.new peer)
