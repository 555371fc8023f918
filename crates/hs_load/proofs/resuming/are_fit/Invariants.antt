-- So far each peer is fit.
use Rattle.std.proofs.Common.{◌≡◌, ◌<◌, ℕ, false}
use Rattle.std.specs.Option.{IsSomeAnd}
use Rattle.hs_cluster.specs.Resuming.{EndsWith}
use Rattle.hs_core_words.specs.Looking.{sealed_of, status_of}
use Rattle.hs_members.specs.Members.{is_down}
use Rattle.hs_taking.specs.Disks.{log_at}
use Rattle.hs_load.proofs.resuming.are_fit.Given as goal

abbrev pub invariant-loop-peer : goal.invariant-loop-peer
invariant-loop-peer l = (peer : ℕ) → peer < l.peer → is_down (status_of peer l.core) ≡ false → IsSomeAnd (log_at l.logs peer) (EndsWith (sealed_of peer l.core))
