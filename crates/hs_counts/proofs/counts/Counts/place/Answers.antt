use Rattle.std.proofs.Common.{◌≡◌, ℕ, subst, Option, Some, None}
use Rattle.std.specs.Option.{IsSome}
use Rattle.hs_counts.specs.Counts.{CountList, count_of}
use Rattle.hs_counts.proofs.counts.Counts.place.Goals as goal

-- no value is there and not there
never : {P : Type 0} (o : Option ℕ) → o ≡ None → IsSome o → P
never None none some = cc
never (Some x) none some = cc

pub returns-in_err-insert-clause-again : goal.returns-in_err-insert-clause-again
returns-in_err-insert-clause-again c =
    let P : CountList → Type 0 = λ counts. count_of c.args.address counts ≡ None in
    never (count_of c.args.address c.args.self.now) (subst P c.self.view_is c.in_err-insert.ensures.absent)
