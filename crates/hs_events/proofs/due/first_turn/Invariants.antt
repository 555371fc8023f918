use Rattle.std.proofs.Common.{◌≡◌, ◌-◌}
use Rattle.std.specs.List.{range_with_len}
use Rattle.std.specs.Prelude.{filter_map, slice_get}
use Rattle.hs_events.specs.Due.{turn_of}
use Rattle.hs_events.proofs.due.first_turn.Given as goal

abbrev pub invariant-loop-peer : goal.invariant-loop-peer
invariant-loop-peer l =
    slice_get (filter_map (turn_of l.core) (range_with_len l.peer (l.to - l.peer))) 0
    ≡ slice_get (filter_map (turn_of l.core) (range_with_len l.from (l.to - l.from))) 0
