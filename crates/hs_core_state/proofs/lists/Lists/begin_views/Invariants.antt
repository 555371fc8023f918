use Rattle.std.proofs.Common.{◌≡◌, ◌-◌, []}
use Rattle.std.specs.List.{range_with_len}
use Rattle.hs_awaiting.specs.Words.{each}
use Rattle.hs_core_state.specs.Anew.{AreOfAll, with_lists}
use Rattle.hs_core_words.specs.State.{Core}
use Rattle.hs_core_words.specs.Views.{change_view}
use Rattle.hs_core_state.proofs.lists.Lists.begin_views.Given as goal

abbrev pub invariant-loop-shard : goal.invariant-loop-shard
invariant-loop-shard l = record {
  members : l.self.members ≡ l.initial.self.members;
  all : AreOfAll l.self;
  begun : (core : Core) → core.operations ≡ [] →
      each (range_with_len l.shard (l.initial.self.members.shape.shards - l.shard)) change_view (with_lists l.self core)
      ≡ each (range_with_len 0 l.initial.self.members.shape.shards) change_view (with_lists l.initial.self core);
}
