use Rattle.std.proofs.Common.{◌≡◌, ◌∙◌, sym, refl, arith, ◌<◌, length, true}
use Rattle.hs_core_state.specs.Anew.{with_lists}
use Rattle.hs_core_words.specs.State.{Core}
use Rattle.hs_core_words.specs.Views.{begin_view, change_view}
use Rattle.hs_members.specs.Members.{has_good}
use Rattle.hs_core_state.proofs.ViewLemmas.{begin_view_anew}
use Rattle.hs_core_state.proofs.lists.Lists.change_view.Goals as goal

pub returns-in_ok-begin_view-clause-ok : goal.returns-in_ok-begin_view-clause-ok
returns-in_ok-begin_view-clause-ok c core e =
    let shard = c.args.shard in
    let before : Core = with_lists c.args.self.now core in
    let good : has_good shard c.args.self.now.members ≡ true = sym c.has_good.ensures ∙ c.if-has_good.true in
    let within : shard < length before.groups = omega (arith, c.requires.all.groups, c.requires.shard) in
    let begun : begin_view shard before ≡ change_view shard before = rw good refl in
    c.in_ok-begin_view.ensures.ok core e ∙ sym (begin_view_anew shard before within (c.requires.all.each shard c.requires.shard).same_shard e) ∙ begun
