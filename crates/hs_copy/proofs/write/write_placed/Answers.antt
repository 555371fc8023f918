use Rattle.std.proofs.Common.{◌∙◌, ◌≤◌, ap, length, map, refl, slice_get, subst, sym}
use Rattle.hs_copy.proofs.NodeLemmas.{below_named}
use Rattle.hs_copy.proofs.StepLemmas.{placed_fails}
use Rattle.hs_copy.specs.Rounds.{AreBelowOf, IsNamedBy}
use Rattle.hs_limits.specs.declared.spelling.TheConstants.{MOST_BYTES, MOST_POINTERS}
use Rattle.hs_tree.specs.Storing.{our_session}
use Rattle.hs_copy.proofs.write.write_placed.Goals as goal

pub write_node-requires-clause-named : goal.write_node-requires-clause-named
write_node-requires-clause-named g c =
    let fit = c.if-not-fits.ensures refl in
    let are : AreBelowOf c.args.nodes.now c.args.place.now c.in_ok-below.below.items = record {
      found = ap (λ z. map (λ p. slice_get c.args.nodes.now p) z) (sym c.as_slice.ensures) ∙ c.in_ok-below.ensures.ok;
      few = subst (λ z. length z ≤ MOST_POINTERS) c.deref.ensures.value fit.0;
      short = subst (λ z. length z ≤ MOST_BYTES) c.as_slice-bytes.ensures fit.1;
    } in
    subst (λ z. IsNamedBy (g.A.Addresser.name c.args.naming.now) z (g.B.Asker.shows c.args.asker.now) c.deref-2.result.now) (sym c.requires.ours)
    (subst (λ z. IsNamedBy (g.A.Addresser.name c.args.naming.now) our_session (g.B.Asker.shows c.args.asker.now) z) (sym c.deref-2.ensures.value) (below_named (g.A.Addresser.name c.args.naming.now) (g.B.Asker.shows c.args.asker.now) c.args.nodes.now c.in_ok-below.below.items c.args.place.now c.requires.holds are))

pub returns-clause-err : goal.returns-clause-err
returns-clause-err g c =
    let fit = c.if-not-fits.ensures refl in
    let are : AreBelowOf c.args.nodes.now c.args.place.now c.in_ok-below.below.items = record {
      found = ap (λ z. map (λ p. slice_get c.args.nodes.now p) z) (sym c.as_slice.ensures) ∙ c.in_ok-below.ensures.ok;
      few = subst (λ z. length z ≤ MOST_POINTERS) c.deref.ensures.value fit.0;
      short = subst (λ z. length z ≤ MOST_BYTES) c.as_slice-bytes.ensures fit.1;
    } in
    placed_fails (g.A.Addresser.name c.args.naming.now) (g.B.Asker.shows c.args.asker.now) (g.B.Asker.shows c.write_node.new.asker) c.args.session.now c.args.nodes.now c.deref-2.result.now c.args.place.now c.as_slice-bytes.result.now c.write_node.result c.requires.ours c.as_slice-bytes.ensures
    (subst (λ z. AreBelowOf c.args.nodes.now c.args.place.now z) (sym c.deref-2.ensures.value) are) c.write_node.ensures.err
