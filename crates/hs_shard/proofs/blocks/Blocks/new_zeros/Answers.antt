use Rattle.std.proofs.Common.{◌≡◌, List, ap, subst, ◌∙◌, length, count_by, true}
use Rattle.hs_limits.specs.declared.address.Address.{Address}
use Rattle.hs_shard.specs.Listed.{pointers_each, stand_each}
use Rattle.hs_shard.specs.Rounds.{each_block, find_zero, is_new_zero, pointers_of}
use Rattle.hs_shard.proofs.EachLemmas.{length_picked, pointers_picked, zeros_picked}
use Rattle.hs_shard.proofs.ListedLemmas.{new_zeros_listed}
use Rattle.hs_shard.proofs.OutcomeLemmas.{if_ok_map}
use Rattle.hs_shard.proofs.blocks.Blocks.new_zeros.Goals as goal

pub returns-clause-told : goal.returns-clause-told
returns-clause-told c =
    if_ok_map c.pick_new_zeros.result _ (λ a. pointers_each a.items c.args.self.now ≡ pointers_of (is_new_zero c.args.epoch) c.args.self.now)
    (λ a e. subst (λ bs. pointers_each a.items bs ≡ pointers_of (is_new_zero c.args.epoch) bs) c.self.view_is
    (ap (λ ks. pointers_each ks c.self.inside.known.entries) (e ∙ new_zeros_listed c.args.epoch c.self.inside.known.entries c.self.inside.numbers.entries c.self.inside.listed c.self.invariant c.pick_new_zeros.ensures.ordered)
    ∙ pointers_picked (is_new_zero c.args.epoch) c.self.inside.known.entries c.self.invariant.ordered))
    c.pick_new_zeros.ensures.items

pub returns-clause-found : goal.returns-clause-found
returns-clause-found c =
    if_ok_map c.pick_new_zeros.result _ (λ a. stand_each true true a.items c.args.self.now ≡ each_block (find_zero c.args.epoch) c.args.self.now)
    (λ a e. subst (λ bs. stand_each true true a.items bs ≡ each_block (find_zero c.args.epoch) bs) c.self.view_is
    (ap (λ ks. stand_each true true ks c.self.inside.known.entries) (e ∙ new_zeros_listed c.args.epoch c.self.inside.known.entries c.self.inside.numbers.entries c.self.inside.listed c.self.invariant c.pick_new_zeros.ensures.ordered)
    ∙ zeros_picked c.args.epoch c.self.inside.known.entries c.self.invariant.ordered))
    c.pick_new_zeros.ensures.items

pub returns-clause-count : goal.returns-clause-count
returns-clause-count c =
    if_ok_map c.pick_new_zeros.result _ (λ a. length a.items ≡ count_by (λ e. is_new_zero c.args.epoch e.1) c.args.self.now)
    (λ a e. subst (λ bs. length a.items ≡ count_by (λ e. is_new_zero c.args.epoch e.1) bs) c.self.view_is
    (ap (λ (ks : List Address). length ks) (e ∙ new_zeros_listed c.args.epoch c.self.inside.known.entries c.self.inside.numbers.entries c.self.inside.listed c.self.invariant c.pick_new_zeros.ensures.ordered)
    ∙ length_picked (is_new_zero c.args.epoch) c.self.inside.known.entries))
    c.pick_new_zeros.ensures.items
