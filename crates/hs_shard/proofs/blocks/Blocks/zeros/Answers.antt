use Rattle.std.proofs.Common.{◌≡◌, ap, subst, ◌∙◌, false}
use Rattle.hs_shard.specs.Listed.{stand_each}
use Rattle.hs_shard.specs.Rounds.{each_block, spare}
use Rattle.hs_shard.proofs.EachLemmas.{spared_picked}
use Rattle.hs_shard.proofs.ListedLemmas.{zeros_listed}
use Rattle.hs_shard.proofs.OutcomeLemmas.{if_ok_map}
use Rattle.hs_shard.proofs.blocks.Blocks.zeros.Goals as goal

pub returns : goal.returns
returns c = record {
  spared =
      if_ok_map c.pick_all.result _ (λ a. stand_each false false a.items c.args.self.now ≡ each_block spare c.args.self.now)
      (λ a e. subst (λ bs. stand_each false false a.items bs ≡ each_block spare bs) c.self.view_is
      (ap (λ ks. stand_each false false ks c.self.inside.known.entries) (e ∙ zeros_listed c.self.inside.known.entries c.self.inside.numbers.entries c.self.inside.listed c.self.invariant c.pick_all.ensures.ordered)
      ∙ spared_picked c.self.inside.known.entries c.self.invariant.ordered))
      c.pick_all.ensures.items;
}
