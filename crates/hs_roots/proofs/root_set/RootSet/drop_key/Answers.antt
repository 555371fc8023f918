use Rattle.std.proofs.Common.{◌≡◌, ◌∙◌, ◌-◌, ap, sym, refl, arith, List, None, Some}
use Rattle.std.proofs.lemmas.Grind.{common_steps}
use Rattle.hs_roots.specs.declared.root.RootRecord.{RootRecord}
use Rattle.hs_roots.specs.Places.{place_of}
use Rattle.hs_roots.specs.Roots.{retains}
use Rattle.hs_roots.proofs.PlaceLemmas.{found, nowhere}
use Rattle.hs_roots.proofs.RootLemmas.{dropped_is, dropped_kept, retained_once}
use Rattle.hs_roots.proofs.root_set.RootSet.drop_key.Goals as goal

pub returns-in_default-clause-refused : goal.returns-in_default-clause-refused
returns-in_default-clause-refused c =
    let none : place_of c.args.key.now c.self.inside.records.items ≡ None = ap (λ (z : List RootRecord). place_of c.args.key.now z) (sym c.as_slice.ensures.value) ∙ sym c.in_default.ensures in
    rw (← c.self.view_is, nowhere (retains c.args.key.now) c.self.inside.records.items 0 none) refl

pub index_mut-requires : goal.index_mut-requires
index_mut-requires c =
    let at : place_of c.args.key.now c.self.inside.records.items ≡ Some c.in-Some.place = ap (λ (z : List RootRecord). place_of c.args.key.now z) (sym c.as_slice.ensures.value) ∙ sym c.in-Some.ensures in
    let below = (found (retains c.args.key.now) c.self.inside.records.items c.in-Some.place at).0 in
    grind (arith, common_steps, below)

pub overflow_sub-self : goal.overflow_sub-self
overflow_sub-self c =
    let at : place_of c.args.key.now c.self.inside.records.items ≡ Some c.in-Some.place = ap (λ (z : List RootRecord). place_of c.args.key.now z) (sym c.as_slice.ensures.value) ∙ sym c.in-Some.ensures in
    (dropped_kept c.self.inside.records.items c.self.inside.retained c.args.key.now c.in-Some.place c.args.epoch c.self.invariant at).0

pub invariant_of-self : goal.invariant_of-self
invariant_of-self c =
    let roots = c.self.inside.records.items in
    let key = c.args.key.now in
    let at : place_of key roots ≡ Some c.in-Some.place = ap (λ (z : List RootRecord). place_of key z) (sym c.as_slice.ensures.value) ∙ sym c.in-Some.ensures in
    let dropped = dropped_is roots key c.in-Some.place c.args.epoch c.index_mut.result.now at (retained_once roots c.self.invariant.ordered key) c.index_mut.ensures.value in
    let kept = dropped_kept roots c.self.inside.retained key c.in-Some.place c.args.epoch c.self.invariant at in
    rw dropped (kept.1 (c.self.inside.retained - 1) (omega (arith, kept.0)))

pub returns-clause-ok : goal.returns-clause-ok
returns-clause-ok c =
    let roots = c.self.inside.records.items in
    let at : place_of c.args.key.now roots ≡ Some c.in-Some.place = ap (λ (z : List RootRecord). place_of c.args.key.now z) (sym c.as_slice.ensures.value) ∙ sym c.in-Some.ensures in
    rw (← c.self.view_is) (dropped_is roots c.args.key.now c.in-Some.place c.args.epoch c.index_mut.result.now at (retained_once roots c.self.invariant.ordered c.args.key.now) c.index_mut.ensures.value)

pub returns-clause-refused : goal.returns-clause-refused
returns-clause-refused c =
    let at : place_of c.args.key.now c.self.inside.records.items ≡ Some c.in-Some.place = ap (λ (z : List RootRecord). place_of c.args.key.now z) (sym c.as_slice.ensures.value) ∙ sym c.in-Some.ensures in
    rw (← c.self.view_is, (found (retains c.args.key.now) c.self.inside.records.items c.in-Some.place at).1 c.index_mut.result.now) refl
