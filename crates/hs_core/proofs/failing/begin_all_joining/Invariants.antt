use Rattle.std.proofs.Common.{◌≡◌, ◌+◌, ◌-◌}
use Rattle.hs_awaiting.specs.Words.{each}
use Rattle.hs_core_words.specs.Joining.{begin_joining, joining_peers}
use Rattle.hs_core_state.specs.Keeping.{KeepsCore}
use Rattle.hs_core_words.specs.Looking.{status_of}
use Rattle.hs_limits.specs.Shape.{peer_of}
use Rattle.hs_members.specs.Members.{is_joining}
use Rattle.hs_core.proofs.JoiningLemmas.{each_from}
use Rattle.hs_core.proofs.failing.begin_all_joining.Given as goal

abbrev pub invariant-loop-copy : goal.invariant-loop-copy
invariant-loop-copy l = record {
  kept : KeepsCore l.initial.core l.core;
  members : l.core.members ≡ l.initial.core.members;
  begun : each_from (λ peer. is_joining (status_of peer l.initial.core)) begin_joining (peer_of l.initial.core.members.shape l.shard 0 + l.copy) (l.initial.core.members.shape.copies - l.copy) l.core
      ≡ each (joining_peers l.shard l.initial.core) begin_joining l.initial.core;
}
