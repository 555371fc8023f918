use Rattle.std.proofs.Common.{◌≡◌, ◌++◌}
use Rattle.std.specs.List.{range_with_len}
use Rattle.std.specs.Prelude.{flat_map}
use Rattle.hs_cluster.specs.Begins.{good_of}
use Rattle.hs_cluster.proofs.opening.note_others.Given as goal

abbrev pub invariant-loop-peer : goal.invariant-loop-peer
invariant-loop-peer l = l.course.items ≡ l.initial.course.items ++ flat_map (good_of l.shape (record { logs = l.logs; shares = l.shares }) l.opened) (range_with_len 0 l.peer)
