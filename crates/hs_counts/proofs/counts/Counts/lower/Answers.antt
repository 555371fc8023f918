use Rattle.std.proofs.Common.{◌≡◌, sym, subst, Some}
use Rattle.hs_counts.specs.Counts.{CountList, count_of}
use Rattle.hs_counts.proofs.counts.Counts.lower.Goals as goal

pub overflow_sub-count : goal.overflow_sub-count
overflow_sub-count c =
    let P : CountList → Type 0 = λ counts. count_of c.args.delta.address counts ≡ Some c.in-Some.count.now in
    c.requires.enough c.in-Some.count.now (subst P c.self.view_is (sym c.in-Some.ensures.value))
