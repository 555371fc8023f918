use Rattle.std.proofs.Common.{◌≡◌, List, ap, subst, ◌∙◌, length, filter, not}
use Rattle.hs_limits.specs.declared.address.Address.{Address}
use Rattle.hs_shard.specs.Listed.{remove_each}
use Rattle.hs_shard.specs.Rounds.{gone_count, is_gone}
use Rattle.hs_shard.proofs.EachLemmas.{length_picked, remove_picked}
use Rattle.hs_shard.proofs.ListedLemmas.{gone_listed}
use Rattle.hs_shard.proofs.OutcomeLemmas.{if_ok_map}
use Rattle.hs_shard.proofs.blocks.Blocks.gone.Goals as goal

pub returns-clause-removed : goal.returns-clause-removed
returns-clause-removed c =
    if_ok_map c.pick_gone.result _ (λ a. remove_each a.items c.args.self.now ≡ filter (λ e. not (is_gone c.args.epoch e.1)) c.args.self.now)
    (λ a e. subst (λ bs. remove_each a.items bs ≡ filter (λ e. not (is_gone c.args.epoch e.1)) bs) c.self.view_is
    (ap (λ ks. remove_each ks c.self.inside.known.entries) (e ∙ gone_listed c.args.epoch c.self.inside.known.entries c.self.inside.numbers.entries c.self.inside.listed c.self.invariant c.pick_gone.ensures.ordered)
    ∙ remove_picked (is_gone c.args.epoch) c.self.inside.known.entries c.self.invariant.ordered))
    c.pick_gone.ensures.items

pub returns-clause-count : goal.returns-clause-count
returns-clause-count c =
    if_ok_map c.pick_gone.result _ (λ a. length a.items ≡ gone_count c.args.epoch c.args.self.now)
    (λ a e. subst (λ bs. length a.items ≡ gone_count c.args.epoch bs) c.self.view_is
    (ap (λ (ks : List Address). length ks) (e ∙ gone_listed c.args.epoch c.self.inside.known.entries c.self.inside.numbers.entries c.self.inside.listed c.self.invariant c.pick_gone.ensures.ordered)
    ∙ length_picked (is_gone c.args.epoch) c.self.inside.known.entries))
    c.pick_gone.ensures.items
