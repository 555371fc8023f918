use Rattle.std.proofs.lemmas.Result.{err_from_is_err_and}
use Rattle.hs_copy.proofs.CopyLemmas.{alone_from, copied_as, first_stopped, stopped_as, unbegun}
use Rattle.hs_copy.proofs.copy.copy_root.Goals as goal

pub returns-in_err-session-clause-stopped : goal.returns-in_err-session-clause-stopped
returns-in_err-session-clause-stopped g c =
    let p = err_from_is_err_and c.from_residual.result c.from_residual.ensures.1 in
    rw (p.1, p.2) (unbegun (g.A.Addresser.name c.args.naming.now) c.args.key.now (g.B.Asker.shows c.args.first.now) (g.C.Asker.shows c.args.second.now) c.requires.going c.requires.ready)

pub returns-in-Err-clause-stopped : goal.returns-in-Err-clause-stopped
returns-in-Err-clause-stopped g c = first_stopped (g.A.Addresser.name c.args.naming.now) c.args.key.now (g.B.Asker.shows c.args.first.now) (g.B.Asker.shows c.list_root.new.asker) (g.C.Asker.shows c.args.second.now) c.in-Err.fault c.in_first.result c.requires.ready c.in_first.ensures c.in-Err.ensures.stops c.in-Err.ensures.cause

pub returns-in-Ok-write_root-clause-copied : goal.returns-in-Ok-write_root-clause-copied
returns-in-Ok-write_root-clause-copied g c = copied_as (g.A.Addresser.name c.args.naming.now) c.args.key.now (g.B.Asker.shows c.args.first.now) (g.B.Asker.shows c.list_root.new.asker) (g.C.Asker.shows c.args.second.now) (g.C.Asker.shows c.write_root.new.asker) c.in-Ok.placed.items _ _ c.count_of.result c.in-Ok.ensures.few c.in-Ok.ensures.listed c.in-Ok.ensures.below c.requires.idle c.in-Ok.ensures.all c.deref.ensures.value c.in-Ok-write_root.ensures.ok c.deref-in-Ok-write_root.ensures.value c.count_of.ensures

pub returns-clause-stopped : goal.returns-clause-stopped
returns-clause-stopped g c = stopped_as (g.A.Addresser.name c.args.naming.now) c.args.key.now (g.B.Asker.shows c.args.first.now) (g.B.Asker.shows c.list_root.new.asker) (g.C.Asker.shows c.args.second.now) (g.C.Asker.shows c.write_root.new.asker) c.in-Ok.placed.items _ c.in-Err-write_root.fault c.in_second.result c.requires.ready c.in-Ok.ensures.few c.in-Ok.ensures.listed c.in-Ok.ensures.below c.requires.idle c.in-Ok.ensures.all c.in_second.ensures c.deref.ensures.value c.in-Err-write_root.ensures.err c.in-Err-write_root.ensures.cause

pub list_root-requires-clause-alone : goal.list_root-requires-clause-alone
list_root-requires-clause-alone g c = alone_from (g.A.Addresser.name c.args.naming.now) (g.B.Asker.shows c.args.first.now) c.requires.idle
