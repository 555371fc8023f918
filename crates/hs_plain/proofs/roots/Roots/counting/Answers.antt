use Rattle.std.proofs.Common.{◌+◌, ◌++◌, ◌∙◌, ap, List, map, filter, nat_le}
use Rattle.hs_limits.specs.declared.address.Address.{Address}
use Rattle.hs_plain.specs.declared.roots.DroppedRoot.{DroppedRoot}
use Rattle.hs_model.specs.Reach.{is_among}
use Rattle.hs_plain.proofs.RootLemmas.{counting_is}
use Rattle.hs_plain.proofs.roots.Roots.counting.Goals as goal

pub returns : goal.returns
returns c = λ a.
    let run = c.args.epoch in
    let address_of = λ (root : DroppedRoot). root.address in
    let counts = λ (root : DroppedRoot). nat_le run (root.epoch + 1) in
    let gone = c.in_ok-gone.ensures ∙ ap (λ (z : List DroppedRoot). map address_of (filter counts z)) c.as_slice.ensures.value in
    let all = c.in_ok-extend_from_slice.ensures.items ∙ ap (λ (z : List Address). c.in_ok-found.found.items ++ z) (c.as_slice-2.ensures.value ∙ gone) ∙ ap (λ (z : List Address). z ++ map address_of (filter counts c.self.inside.gone.items)) c.in_ok-found.ensures in
    rw (← c.self.view_is) (ap (λ (z : List Address). is_among z a) all ∙ counting_is run c.self.inside.kept.entries c.self.inside.gone.items a)
