use Rattle.std.proofs.Common.{◌≡◌, ap, subst, ◌∙◌, true, false}
use Rattle.hs_shard.specs.Listed.{pointers_each, stand_each}
use Rattle.hs_shard.specs.Rounds.{count_block, each_block, is_new, pointers_of}
use Rattle.hs_shard.proofs.EachLemmas.{counted_picked, pointers_picked}
use Rattle.hs_shard.proofs.ListedLemmas.{new_listed}
use Rattle.hs_shard.proofs.OutcomeLemmas.{if_ok_map}
use Rattle.hs_shard.proofs.blocks.Blocks.new_in.Goals as goal

pub returns-clause-told : goal.returns-clause-told
returns-clause-told c =
    if_ok_map c.pick_new.result _ (λ a. pointers_each a.items c.args.self.now ≡ pointers_of (is_new c.args.epoch) c.args.self.now)
    (λ a e. subst (λ bs. pointers_each a.items bs ≡ pointers_of (is_new c.args.epoch) bs) c.self.view_is
    (ap (λ ks. pointers_each ks c.self.inside.known.entries) (e ∙ new_listed c.args.epoch c.self.inside.known.entries c.self.inside.numbers.entries c.self.inside.listed c.self.invariant c.pick_new.ensures.ordered)
    ∙ pointers_picked (is_new c.args.epoch) c.self.inside.known.entries c.self.invariant.ordered))
    c.pick_new.ensures.items

pub returns-clause-counted : goal.returns-clause-counted
returns-clause-counted c =
    if_ok_map c.pick_new.result _ (λ a. stand_each true false a.items c.args.self.now ≡ each_block (count_block c.args.epoch) c.args.self.now)
    (λ a e. subst (λ bs. stand_each true false a.items bs ≡ each_block (count_block c.args.epoch) bs) c.self.view_is
    (ap (λ ks. stand_each true false ks c.self.inside.known.entries) (e ∙ new_listed c.args.epoch c.self.inside.known.entries c.self.inside.numbers.entries c.self.inside.listed c.self.invariant c.pick_new.ensures.ordered)
    ∙ counted_picked c.args.epoch c.self.inside.known.entries c.self.invariant.ordered c.self.invariant.sound))
    c.pick_new.ensures.items
