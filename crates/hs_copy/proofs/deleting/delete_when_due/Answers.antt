use Rattle.std.proofs.Common.{◌+◌, ◌-◌, ◌<◌, ◌≤◌, rules}
use Rattle.hs_copy.proofs.DueLemmas.{one_due}
use Rattle.hs_copy.proofs.StepLemmas.{delete_stops}
use Rattle.hs_copy.proofs.deleting.delete_when_due.Goals as goal

pub returns-clause-err : goal.returns-clause-err
returns-clause-err g c =
    let room : c.args.deleting.now.asked + 1 ≤ 4 = search rules in
    delete_stops (g.B.Asker.shows c.args.asker.now) (g.B.Asker.shows c.delete.new.asker) c.args.deleting.now.asked c.delete.result c.delete.ensures.err c.delete.ensures.core room

pub returns-clause-due : goal.returns-clause-due
returns-clause-due g c =
    let room : c.args.deleting.now.asked < 4 = search rules in
    let much : c.in-Some.every - 1 ≤ c.args.deleting.now.writes = search rules in
    one_due (g.B.Asker.shows c.args.asker.now) (g.B.Asker.shows c.delete.new.asker) c.args.deleting.now.every c.in-Some.every c.args.deleting.now.writes c.args.deleting.now.asked c.delete.result c.in-Some.is room much c.delete.ensures.ok
