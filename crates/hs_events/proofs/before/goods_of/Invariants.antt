use Rattle.std.proofs.Common.{◌≡◌, map}
use Rattle.std.specs.List.{range_with_len}
use Rattle.hs_core_words.specs.Looking.{status_of}
use Rattle.hs_members.specs.Members.{is_good_status}
use Rattle.hs_events.proofs.before.goods_of.Given as goal

abbrev pub invariant-loop-peer : goal.invariant-loop-peer
invariant-loop-peer l = l.goods.items ≡ map (λ peer. is_good_status (status_of peer l.core)) (range_with_len 0 l.peer)
