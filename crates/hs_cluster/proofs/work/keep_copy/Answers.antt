use Rattle.std.proofs.Common.{◌+◌}
use Rattle.std.proofs.lemmas.Result.{err_from_is_err_and}
use Rattle.hs_cluster.proofs.EmptyLemmas.{unwritten_moments, written_moments}
use Rattle.hs_cluster.proofs.HeadLemmas.{headed_err, headed_next}
use Rattle.hs_cluster.proofs.work.keep_copy.Goals as goal

pub returns-in_err-append_entry-clause-any_moment : goal.returns-in_err-append_entry-clause-any_moment
returns-in_err-append_entry-clause-any_moment g c = λ told last list waiting has.
    unwritten_moments c.args.watch.now c.append_entry.new.watch c.args.number (c.args.log.now.rank.number + 1) (g.D.Disk.stands c.args.disk.now) (g.D.Disk.stands c.append_entry.new.disk) list c.args.entry.now
    (c.append_entry.ensures.any_moment told last list waiting has)

pub returns-clause-list : goal.returns-clause-list
returns-clause-list g c = λ told last list waiting has.
    c.seal_entry.ensures.list told (c.append_entry.ensures.any_moment told last list waiting has).last list _ (c.in_ok-append_entry.ensures.list told last list waiting has)

pub returns-clause-any_moment : goal.returns-clause-any_moment
returns-clause-any_moment g c = λ told last list waiting has.
    let one = c.append_entry.ensures.any_moment told last list waiting has in
    written_moments c.args.watch.now c.append_entry.new.watch c.seal_entry.new.watch c.args.number (c.args.log.now.rank.number + 1) (g.D.Disk.stands c.args.disk.now) (g.D.Disk.stands c.append_entry.new.disk) (g.D.Disk.stands c.seal_entry.new.disk)
    list c.args.entry.now c.in_ok-append_entry.ensures.next one
    (c.seal_entry.ensures.any_moment told one.last list _ (c.in_ok-append_entry.ensures.list told last list waiting has))

pub returns-clause-reads : goal.returns-clause-reads
returns-clause-reads g c = λ told list waiting kept. c.seal_entry.ensures.reads told list _ (c.in_ok-append_entry.ensures.reads told list waiting kept)

pub returns-in_err-append_entry-clause-headed : goal.returns-in_err-append_entry-clause-headed
returns-in_err-append_entry-clause-headed g c = λ told header headed.
    let p = err_from_is_err_and c.from_residual.result c.from_residual.ensures.1 in
    headed_err header c.args.watch.now c.append_entry.new.watch (g.D.Disk.stands c.args.disk.now) (g.D.Disk.stands c.append_entry.new.disk) c.append_entry.new.log c.from_residual.result p.0 p.1 (c.append_entry.ensures.headed told header headed).disk

pub returns-clause-headed : goal.returns-clause-headed
returns-clause-headed g c = λ told header headed.
    let one = c.in_ok-append_entry.ensures.headed told header headed in
    headed_next header c.args.watch.now c.append_entry.new.watch c.seal_entry.new.watch (g.D.Disk.stands c.args.disk.now) (g.D.Disk.stands c.append_entry.new.disk) (g.D.Disk.stands c.seal_entry.new.disk) c.append_entry.new.log c.seal_entry.new.log c.seal_entry.result
    one.disk one.log (λ now. c.seal_entry.ensures.headed told header now)
