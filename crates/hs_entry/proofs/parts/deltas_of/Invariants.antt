-- So far, the front of the deltas is read, and the rest is read from here.
use Rattle.std.proofs.Common.{◌≡◌, ◌+◌, ◌-◌, ◌*◌, None}
use Rattle.hs_entry.specs.Reading.{with_deltas, deltas_at}
use Rattle.hs_entry.proofs.parts.deltas_of.Given as goal

abbrev pub invariant-deltas : goal.invariant-deltas
invariant-deltas l =
    deltas_at l.whole 30 l.count None l.bytes
    ≡ with_deltas l.deltas (deltas_at l.whole (30 + 36 * l.index) (l.count - l.index) l.last l.rest)
