use Rattle.std.proofs.Common.{◌≡◌, ◌+◌, Some, None, ap, arith, cond, sym, ◌∙◌}
use Rattle.hs_roots.specs.declared.root.RootRecord.{RootRecord}
use Rattle.hs_roots.specs.ByKey.{count_upto}
use Rattle.hs_roots.proofs.RootLemmas.{place_last, place_none}
use Rattle.hs_roots.proofs.root_set.place_of.Goals as goal

pub returns-in_err-place : goal.returns-in_err-place
returns-in_err-place c =
    let none : count_upto (λ (root : RootRecord). root.key) c.args.key.now c.args.records.now ≡ 0 = omega (arith, c.count_upto.ensures, c.in_err-place.ensures) in
    c.from_residual.ensures ∙ sym (place_none c.args.records.now c.args.key.now none)

pub returns-then-retains : goal.returns-then-retains
returns-then-retains c =
    let last : count_upto (λ (root : RootRecord). root.key) c.args.key.now c.args.records.now ≡ c.in_ok-place.place + 1 = omega (arith, c.count_upto.ensures, c.in_ok-place.ensures) in
    sym (place_last c.args.records.now c.args.key.now c.in_ok-place.place c.index-records-place.result c.requires last c.index-records-place.is ∙ ap (λ b. cond b (Some c.in_ok-place.place) None) (sym c.if-retains.ensures))

pub returns-else-retains : goal.returns-else-retains
returns-else-retains c =
    let last : count_upto (λ (root : RootRecord). root.key) c.args.key.now c.args.records.now ≡ c.in_ok-place.place + 1 = omega (arith, c.count_upto.ensures, c.in_ok-place.ensures) in
    sym (place_last c.args.records.now c.args.key.now c.in_ok-place.place c.index-records-place.result c.requires last c.index-records-place.is ∙ ap (λ b. cond b (Some c.in_ok-place.place) None) (sym c.if-retains.ensures))
