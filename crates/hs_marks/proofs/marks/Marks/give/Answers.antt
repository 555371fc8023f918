use Rattle.std.proofs.Common.{◌≡◌, ℕ, subst, Option, Some, None}
use Rattle.std.specs.Option.{IsSome}
use Rattle.hs_marks.specs.Marks.{MarkList, mark_of}
use Rattle.hs_marks.proofs.marks.Marks.give.Goals as goal

-- no value is there and not there
never : {P : Type 0} (o : Option ℕ) → o ≡ None → IsSome o → P
never None none some = cc
never (Some x) none some = cc

pub returns-in_err-insert-clause-again : goal.returns-in_err-insert-clause-again
returns-in_err-insert-clause-again c =
    let P : MarkList → Type 0 = λ marks. mark_of c.args.address marks ≡ None in
    never (mark_of c.args.address c.args.self.now) (subst P c.self.view_is c.in_err-insert.ensures.absent)
