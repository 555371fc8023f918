use Rattle.std.proofs.Common.{◌≡◌, Some}
use Rattle.hs_model.specs.Judge.{asked_of}
use Rattle.hs_workers.proofs.ask.ask.Given as goal

-- what was begun waits for its answer
abbrev pub invariant-loop : goal.invariant-loop
invariant-loop g l =
    let noted = g.B.Pass.Pass.noted in
    noted l.pass ≡ record (noted l.fn.pass) { asked = Some (asked_of l.fn.op); number = l.number }
