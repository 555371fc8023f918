use Rattle.std.proofs.Common.{◌≡◌, ◌*◌, ◌-◌}
use Rattle.std.specs.List.{range_with_len}
use Rattle.hs_awaiting.specs.Words.{each}
use Rattle.hs_core_words.specs.Opening.{note_if_down}
use Rattle.hs_core_state.proofs.state.State.note_down.Given as goal

abbrev pub invariant-loop-peer : goal.invariant-loop-peer
invariant-loop-peer l = record {
  members : l.self.members ≡ l.initial.self.members;
  told : each (range_with_len l.peer (l.initial.self.members.shape.shards * l.initial.self.members.shape.copies - l.peer)) note_if_down l.self
      ≡ each (range_with_len 0 (l.initial.self.members.shape.shards * l.initial.self.members.shape.copies)) note_if_down l.initial.self;
}
