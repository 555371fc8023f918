use Rattle.std.proofs.Common.{◌+◌, ◌∙◌, ◌++◌, ap, List, map, filter, nat_le}
use Rattle.hs_limits.specs.declared.address.Address.{Address}
use Rattle.hs_limits.specs.declared.address.Held.{Held}
use Rattle.hs_model.specs.declared.plain.PlainRoot.{PlainRoot}
use Rattle.hs_model.specs.Plain.{root_of}
use Rattle.hs_model.specs.Reach.{counts_in}
use Rattle.hs_model.proofs.SweptLemmas.{anchors_are}
use Rattle.hs_model.proofs.slow.unreached.anchors.Goals as goal

pub returns : goal.returns
returns c =
    let run = c.args.epoch in
    let roots = c.in_ok-anchors.ensures ∙ ap (λ (z : List PlainRoot). map (λ (root : PlainRoot). root.address) (filter (λ (root : PlainRoot). counts_in run (root_of root)) z)) c.as_slice.ensures in
    let given = c.in_ok-given.ensures ∙ ap (λ (z : List Held). map (λ (held : Held). held.address) (filter (λ (held : Held). nat_le run (held.epoch + 1)) z)) c.as_slice-2.ensures in
    anchors_are c.args.store.now run c.in_ok-anchors.anchors.items c.in_ok-given.given.items c.extend_from_slice.new.self.items roots given (c.in_ok-extend_from_slice.ensures.items ∙ ap (λ (z : List Address). c.in_ok-anchors.anchors.items ++ z) c.as_slice-3.ensures.value)
