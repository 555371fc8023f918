use Rattle.std.proofs.Common.{List, [], ◌++◌, ap, sym, ◌∙◌}
use Rattle.hs_limits.specs.declared.address.Address.{Address}
use Rattle.hs_shard.specs.Listed.{pointers_each}
use Rattle.hs_shard.specs.Tally.{count_all, deltas_of, tally}
use Rattle.hs_shard.proofs.TallyLemmas.{count_more}
use Rattle.hs_shard.proofs.catalogue.Catalogue.tally.Goals as goal

pub returns-clause-value : goal.returns-clause-value
returns-clause-value c =
    let pointers : List Address = pointers_each c.args.blocks.now c.self.inside.blocks in
    c.in_ok-deltas.ensures.value
    ∙ ap deltas_of (c.in_ok-add_all.ensures ∙ ap (λ counts. count_all c.args.roots.now counts) (c.in_ok-tell.ensures ∙ ap (λ counts. count_all pointers counts) c.new-tally.ensures) ∙ sym (count_more pointers c.args.roots.now []))
    ∙ ap (λ v. tally (pointers_each c.args.blocks.now v.blocks ++ c.args.roots.now)) c.self.view_is
