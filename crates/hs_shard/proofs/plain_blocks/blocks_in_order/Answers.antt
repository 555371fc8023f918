use Rattle.std.proofs.Common.{◌≡◌, ◌++◌, List, sym, ap, subst, ◌∙◌}
use Rattle.std.proofs.lemmas.List.{append-nil}
use Rattle.std.specs.List.Sorted.{IsStrictlySortedBy}
use Rattle.std.specs.Map.{keys_of}
use Rattle.hs_limits.specs.declared.address.Address.{Address}
use Rattle.hs_model.specs.declared.store.StoredBlock.{StoredBlock}
use Rattle.hs_model.specs.Store.{address_cmp}
use Rattle.hs_shard.specs.Adding.{listed_blocks, outlined}
use Rattle.hs_shard.proofs.PlainLemmas.{keys_outlined}
use Rattle.hs_shard.proofs.plain_blocks.blocks_in_order.Goals as goal

pub returns-clause-ordered : goal.returns-clause-ordered
returns-clause-ordered c =
    let whole : listed_blocks c.loop-address.list ≡ outlined c.args.outlines.entries =
    sym (append-nil (listed_blocks c.loop-address.list))
    ∙ ap (λ z. listed_blocks c.loop-address.list ++ outlined z) (sym c.in-None.ensures.steps.0)
    ∙ c.loop-address.invariant in
    subst (λ (z : List (Address × StoredBlock)). IsStrictlySortedBy address_cmp (keys_of z)) (sym whole)
    (subst (λ ks. IsStrictlySortedBy address_cmp ks) (sym (keys_outlined c.args.outlines.entries)) c.into_iter-address-iterator.ensures.into_iter_gives.5)
