use Rattle.std.proofs.Common.{ℕ, ◌+◌, ◌∙◌, ◌++◌, ap, List, map, filter, nat_le}
use Rattle.hs_limits.specs.declared.address.Address.{Address}
use Rattle.hs_model.specs.Reach.{is_among, counts_in}
use Rattle.hs_model.specs.Store.{Store, Root}
use Rattle.hs_model.proofs.SweptLemmas.{anchors_of_parts}
use Rattle.hs_plain.proofs.memory_store.MemoryStore.anchors.Goals as goal

pub returns : goal.returns
returns c =
    let run = c.args.epoch in
    let counting = λ (z : Store). map (λ (root : Root). root.address) (filter (counts_in run) z.roots) in
    let rooted = λ (a : Address). c.in_ok-anchors.ensures a ∙ ap (λ (z : Store). is_among (counting z) a) c.self.view_is in
    let given = c.in_ok-given.ensures ∙ ap (λ (z : Store). map (λ (e : Address × ℕ). e.0) (filter (λ (e : Address × ℕ). nat_le run (e.1 + 1)) z.given)) c.self.view_is in
    anchors_of_parts c.args.self.now run c.in_ok-anchors.anchors.items c.in_ok-given.given.items c.extend_from_slice.new.self.items rooted given (c.in_ok-extend_from_slice.ensures.items ∙ ap (λ (z : List Address). c.in_ok-anchors.anchors.items ++ z) c.as_slice.ensures.value)
