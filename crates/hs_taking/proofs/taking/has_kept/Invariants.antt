use Rattle.std.proofs.Common.{◌≡◌, ◌-◌, is_some}
use Rattle.std.specs.List.{list_any, range_with_len}
use Rattle.hs_limits.specs.Shape.{peer_of}
use Rattle.hs_taking.specs.Evens.{has_kept, log_of}
use Rattle.hs_taking.specs.Slots.{slot_at}
use Rattle.hs_taking.proofs.taking.has_kept.Given as goal

-- of the first copies no log is kept
abbrev pub invariant-loop-copy : goal.invariant-loop-copy
invariant-loop-copy l = has_kept l.shape l.slots l.shard ≡ list_any (λ peer. is_some (log_of (slot_at l.slots peer))) (range_with_len (peer_of l.shape l.shard l.copy) (l.shape.copies - l.copy))
