use Rattle.std.proofs.Common.{◌≡◌, ◌∙◌, ap, sym, refl, arith, List, None, Some}
use Rattle.std.proofs.lemmas.Grind.{common_steps}
use Rattle.hs_roots.specs.declared.root.RootRecord.{RootRecord}
use Rattle.hs_roots.specs.Places.{place_of}
use Rattle.hs_roots.specs.Roots.{retains}
use Rattle.hs_roots.proofs.PlaceLemmas.{found, nowhere}
use Rattle.hs_roots.proofs.root_set.RootSet.look.Goals as goal

pub returns-in_err-place : goal.returns-in_err-place
returns-in_err-place c =
    let none : place_of c.args.key.now c.self.inside.records.items ≡ None = ap (λ (z : List RootRecord). place_of c.args.key.now z) (sym c.as_slice.ensures.value) ∙ sym c.in_err-place.ensures in
    rw (c.from_residual.ensures, ← c.self.view_is, nowhere (retains c.args.key.now) c.self.inside.records.items 0 none) refl

pub index-requires : goal.index-requires
index-requires c =
    let at : place_of c.args.key.now c.self.inside.records.items ≡ Some c.in_ok-place.place = ap (λ (z : List RootRecord). place_of c.args.key.now z) (sym c.as_slice.ensures.value) ∙ sym c.in_ok-place.ensures in
    let below = (found (retains c.args.key.now) c.self.inside.records.items c.in_ok-place.place at).0 in
    grind (arith, common_steps, below)

pub returns : goal.returns
returns c =
    let at : place_of c.args.key.now c.self.inside.records.items ≡ Some c.in_ok-place.place = ap (λ (z : List RootRecord). place_of c.args.key.now z) (sym c.as_slice.ensures.value) ∙ sym c.in_ok-place.ensures in
    let there = (found (retains c.args.key.now) c.self.inside.records.items c.in_ok-place.place at).1 c.index.result.now in
    rw (← c.self.view_is, there, ← c.index.ensures) refl
