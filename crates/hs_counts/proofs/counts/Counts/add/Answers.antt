use Rattle.std.proofs.Common.{◌≡◌, ◌<◌, ◌+◌, ◌^◌, sym, subst, Some, arith}
use Rattle.hs_counts.specs.Counts.{CountList, count_of}
use Rattle.hs_counts.proofs.counts.Counts.add.Goals as goal

pub overflow_add-count : goal.overflow_add-count
overflow_add-count c =
    let P : CountList → Type 0 = λ counts. count_of c.args.delta.address counts ≡ Some c.in-Some.count.now in
    let fits : c.in-Some.count.now + c.args.delta.amount < 2 ^ 32 = c.requires.fits c.in-Some.count.now (subst P c.self.view_is (sym c.in-Some.ensures.value)) in
    omega (arith, fits)
