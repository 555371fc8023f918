use Rattle.std.proofs.Common.{◌≡◌, ℕ, ◌+◌, Some, arith}
use Rattle.std.proofs.lemmas.Grind.{common_steps}
use Rattle.hs_replica.specs.Counting.{Differs, count_at}
use Rattle.hs_replica.proofs.TallyLemmas.{counted_more}
use Rattle.hs_replica.proofs.tally.Tally.add.Goals as goal

pub returns-clause-ok : goal.returns-clause-ok
returns-clause-ok c =
    let more : Differs c.args.place (Some c.in-Some.count) c.args.self.now c.insert.new.self.entries = rw (← c.self.view_is) c.in-Ok.ensures.updates.0 in
    let n : c.in-Some.count ≡ 1 + count_at c.args.self.now c.args.place = grind (arith, common_steps) in
    counted_more c.args.place (Some c.in-Some.count) c.args.self.now c.insert.new.self.entries more n
