use Rattle.hs_copy.proofs.StepLemmas.{tried_caught, tried_err, tried_ok}
use Rattle.hs_copy.proofs.DueLemmas.{tried_so}
use Rattle.hs_copy.specs.Due.{DeletesSo, count_of}
use Rattle.hs_copy.specs.Rounds.{RoundStops}
use Rattle.hs_copy.proofs.write.try_round.Goals as goal

pub returns-clause-ok : goal.returns-clause-ok
returns-clause-ok g c = tried_ok (g.A.Addresser.name c.args.naming.now) c.args.key.now c.args.placed.now (g.B.Asker.shows c.args.asker.now) (g.B.Asker.shows c.write_round.new.asker) c.write_round.new.nodes.items c.args.deleting.now.asked c.write_round.new.deleting.asked c.write_round.result c.whole_or_stale.result c.whole_or_stale.ensures c.write_round.ensures.ok c.write_round.ensures.err

pub returns-clause-err : goal.returns-clause-err
returns-clause-err g c = tried_err (λ f. RoundStops (g.A.Addresser.name c.args.naming.now) c.args.key.now (g.B.Asker.shows c.args.asker.now) (g.B.Asker.shows c.write_round.new.asker) c.args.placed.now c.write_round.new.nodes.items c.args.deleting.now.asked c.write_round.new.deleting.asked f) c.write_round.result c.whole_or_stale.result c.whole_or_stale.ensures c.write_round.ensures.err

pub returns-clause-due : goal.returns-clause-due
returns-clause-due g c = tried_so (DeletesSo (count_of c.args.deleting.now) (count_of c.write_round.new.deleting) (g.B.Asker.shows c.args.asker.now) (g.B.Asker.shows c.write_round.new.asker)) c.write_round.result c.whole_or_stale.result c.whole_or_stale.ensures c.write_round.ensures.due c.write_round.ensures.refused

pub returns-clause-caught : goal.returns-clause-caught
returns-clause-caught g c = tried_caught c.write_round.result c.whole_or_stale.result c.whole_or_stale.ensures
