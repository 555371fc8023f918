use Rattle.std.proofs.Common.{append-nil, [], sym}
use Rattle.hs_copy.proofs.DueLemmas.{root_keeps, root_refuses}
use Rattle.hs_copy.specs.Due.{count_of}
use Rattle.hs_copy.proofs.RoundLemmas.{stop_quiet}
use Rattle.hs_copy.proofs.StepLemmas.{root_err, root_ok}
use Rattle.hs_copy.proofs.write.write_round.Goals as goal

pub returns-in-Some-clause-ok : goal.returns-in-Some-clause-ok
returns-in-Some-clause-ok g c = root_ok (g.A.Addresser.name c.args.naming.now) c.args.key.now c.args.placed.now (g.B.Asker.shows c.args.asker.now) (g.B.Asker.shows c.write_blocks.new.asker) (g.B.Asker.shows c.root.new.asker) c.args.session.now c.write_blocks.new.nodes.items _ c.in-Some.top c.args.deleting.now.asked c.write_blocks.new.deleting.asked c.root.result c.requires.ours c.deref.ensures.value c.in-Some.ensures c.in_ok-write_blocks.ensures.ok c.root.ensures.ok

pub returns-in-Some-clause-err : goal.returns-in-Some-clause-err
returns-in-Some-clause-err g c = root_err (g.A.Addresser.name c.args.naming.now) c.args.key.now c.args.placed.now (g.B.Asker.shows c.args.asker.now) (g.B.Asker.shows c.write_blocks.new.asker) (g.B.Asker.shows c.root.new.asker) c.args.session.now c.write_blocks.new.nodes.items _ c.in-Some.top c.args.deleting.now.asked c.write_blocks.new.deleting.asked c.root.result c.requires.ours c.deref.ensures.value c.in-Some.ensures c.write_blocks.ensures.few c.in_ok-write_blocks.ensures.ok c.root.ensures.err

pub returns-in-None-clause-err : goal.returns-in-None-clause-err
returns-in-None-clause-err g c = stop_quiet (g.A.Addresser.name c.args.naming.now) c.args.key.now (g.B.Asker.shows c.args.asker.now) (g.B.Asker.shows c.write_blocks.new.asker) c.args.placed.now [] c.args.placed.now c.write_blocks.new.nodes.items c.write_blocks.new.nodes.items c.args.deleting.now.asked c.write_blocks.new.deleting.asked c.write_blocks.new.deleting.asked (sym (append-nil c.args.placed.now)) c.write_blocks.ensures.few c.in_ok-write_blocks.ensures.ok

pub returns-in-Some-clause-due : goal.returns-in-Some-clause-due
returns-in-Some-clause-due g c = root_keeps (count_of c.args.deleting.now) (count_of c.write_blocks.new.deleting) (g.B.Asker.shows c.args.asker.now) (g.B.Asker.shows c.write_blocks.new.asker) (g.B.Asker.shows c.root.new.asker) c.args.session.now c.args.key.now c.in-Some.top.handle c.root.result c.in_ok-write_blocks.ensures.due c.root.ensures.ok

pub returns-in-Some-clause-refused : goal.returns-in-Some-clause-refused
returns-in-Some-clause-refused g c = root_refuses (count_of c.args.deleting.now) (count_of c.write_blocks.new.deleting) (g.B.Asker.shows c.args.asker.now) (g.B.Asker.shows c.write_blocks.new.asker) (g.B.Asker.shows c.root.new.asker) c.args.session.now c.args.key.now c.in-Some.top.handle c.root.result c.in_ok-write_blocks.ensures.due c.root.ensures.err
