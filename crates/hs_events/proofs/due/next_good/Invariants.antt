use Rattle.std.proofs.Common.{◌≡◌, ◌-◌}
use Rattle.std.specs.List.{range_with_len}
use Rattle.std.specs.Prelude.{find}
use Rattle.hs_core_words.specs.Looking.{status_of}
use Rattle.hs_members.specs.Members.{is_good_status}
use Rattle.hs_events.proofs.due.next_good.Given as goal

abbrev pub invariant-loop-peer : goal.invariant-loop-peer
invariant-loop-peer l =
    find (λ p. is_good_status (status_of p l.core)) (range_with_len l.peer (l.peers - l.peer))
    ≡ find (λ p. is_good_status (status_of p l.core)) (range_with_len l.from (l.peers - l.from))
