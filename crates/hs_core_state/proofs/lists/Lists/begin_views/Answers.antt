use Rattle.std.proofs.Common.{◌≡◌, ◌∙◌, sym, ap, arith, ◌+◌, ◌-◌, ◌<◌, rules}
use Rattle.std.proofs.lemmas.Grind.{common_steps}
use Rattle.std.specs.List.{range_with_len}
use Rattle.hs_awaiting.specs.Words.{each}
use Rattle.hs_core_state.specs.Anew.{with_lists}
use Rattle.hs_core_words.specs.Views.{change_view}
use Rattle.hs_core_state.proofs.RangeLemmas.{each_range_next}
use Rattle.hs_core_state.proofs.lists.Lists.begin_views.Goals as goal

pub loop-shard-preserved : goal.loop-shard-preserved
loop-shard-preserved c = record {
  members = c.in_ok-change_view.ensures.members ∙ c.loop-shard.invariant.members;
  all = c.in_ok-change_view.ensures.all;
  begun = λ core e.
      let n = c.args.self.now.members.shape.shards in
      let s = c.loop-shard.shard in
      let less : s < n = grind (arith, common_steps) in
      ap (λ x. each (range_with_len (s + 1) (n - (s + 1))) change_view x) (c.in_ok-change_view.ensures.ok core e)
      ∙ sym (each_range_next change_view s n (with_lists c.loop-shard.self core) less)
      ∙ c.loop-shard.invariant.begun core e;
}
