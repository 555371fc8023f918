use Rattle.std.proofs.Common.{◌≡◌, ◌-◌}
use Rattle.std.specs.List.{list_any, range_with_len}
use Rattle.std.specs.Prelude.{nat_lt, slice_index_or}
use Rattle.hs_core_words.specs.Looking.{known_of}
use Rattle.hs_events.proofs.progress.raises_known.Given as goal

abbrev pub invariant-loop-peer : goal.invariant-loop-peer
invariant-loop-peer l =
    list_any (λ peer. nat_lt (slice_index_or l.knowns peer 0) (known_of peer l.core)) (range_with_len l.peer (l.peers - l.peer))
    ≡ list_any (λ peer. nat_lt (slice_index_or l.knowns peer 0) (known_of peer l.core)) (range_with_len 0 l.peers)
