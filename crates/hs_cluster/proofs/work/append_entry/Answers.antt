use Rattle.std.proofs.Common.{refl}
use Rattle.hs_cluster.proofs.HeadLemmas.{headed_append, headed_read}
use Rattle.hs_cluster.proofs.JobLemmas.{stays_is}
use Rattle.hs_cluster.proofs.work.append_entry.Goals as goal

pub returns-then-not-is_next-clause-any_moment : goal.returns-then-not-is_next-clause-any_moment
returns-then-not-is_next-clause-any_moment g c = λ told last list waiting has.
    stays_is (g.D.Disk.stands c.args.disk.now) c.args.watch.now list last (g.met.D.Disk.since told c.args.disk.now) has.leaves

pub returns-then-not-is_next-clause-headed : goal.returns-then-not-is_next-clause-headed
returns-then-not-is_next-clause-headed g c = λ told header headed.
    headed_read header c.args.watch.now (g.D.Disk.stands c.args.disk.now) (g.D.Disk.stands c.args.disk.now) c.args.log.now _ refl (g.met.D.Disk.since told c.args.disk.now) headed

pub returns-clause-headed : goal.returns-clause-headed
returns-clause-headed g c = λ told header headed.
    headed_append header c.args.watch.now c.append.new.watch (g.D.Disk.stands c.args.disk.now) (g.D.Disk.stands c.append.new.disk) c.args.log.now c.append.new.self c.args.entry.now c.append.result headed
    (c.is_next.ensures.none c.if-not-is_next.false) (c.append.ensures.past told headed.called)
    (λ list has head at. c.append.ensures.headed told headed.called list has head at) c.append.ensures.head (λ list has. c.append.ensures.list told headed.called list has)
