use Rattle.std.proofs.Common.{◌≡◌, ◌-◌}
use Rattle.std.specs.List.{range_with_len}
use Rattle.hs_awaiting.specs.Words.{change_if, each}
use Rattle.hs_core_words.specs.Changing.{change_rejoin}
use Rattle.hs_core_state.specs.Keeping.{KeepsCore}
use Rattle.hs_core_words.specs.Looking.{status_of}
use Rattle.hs_members.specs.Members.{is_joining}
use Rattle.hs_rejoin.specs.Rejoin.{follow}
use Rattle.hs_core.proofs.joining.follow.Given as goal

abbrev pub invariant-loop-peer : goal.invariant-loop-peer
invariant-loop-peer l = record {
  members : l.core.members ≡ l.initial.core.members;
  kept : KeepsCore l.initial.core l.core;
  told : each (range_with_len l.peer (l.last - l.peer)) (λ p. change_if (is_joining (status_of p l.initial.core)) (change_rejoin p (follow l.lead))) l.core
      ≡ each (range_with_len l.first (l.last - l.first)) (λ p. change_if (is_joining (status_of p l.initial.core)) (change_rejoin p (follow l.lead))) l.initial.core;
}
