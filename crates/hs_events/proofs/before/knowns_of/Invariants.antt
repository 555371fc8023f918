use Rattle.std.proofs.Common.{◌≡◌, map}
use Rattle.std.specs.List.{range_with_len}
use Rattle.hs_core_words.specs.Looking.{known_of}
use Rattle.hs_events.proofs.before.knowns_of.Given as goal

abbrev pub invariant-loop-peer : goal.invariant-loop-peer
invariant-loop-peer l = l.knowns.items ≡ map (λ peer. known_of peer l.core) (range_with_len 0 l.peer)
