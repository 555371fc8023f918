use Rattle.std.proofs.Common.{◌+◌, arith}
use Rattle.std.proofs.lemmas.Result.{err_from_is_err_and}
use Rattle.hs_tree.proofs.GatherLemmas.{begun_at, goes_on, halts_so_far, so_under_way, stops_full, stops_here, take_quiet, taking_stops, too_long}
use Rattle.hs_tree.specs.declared.fault.TreeFault.TheVariants as fault
use Rattle.hs_tree.proofs.store.gather.Goals as goal

pub returns-in_err-taken-clause-err : goal.returns-in_err-taken-clause-err
returns-in_err-taken-clause-err g c =
    let p = err_from_is_err_and c.from_residual.result c.from_residual.ensures.1 in
    rw (p.1, p.2) (λ key start t. let q = c.loop-bytes.invariant.so_far start t in halts_so_far (g.A.Addresser.name c.args.naming.now) c.args.session.now start key (g.B.Asker.shows c.loop-bytes.asker) (g.B.Asker.shows c.take_next.new.asker) c.loop-bytes.upper.items c.loop-bytes.lower.items c.loop-bytes.bytes (g.S.Source.left c.args.source.now) (g.S.Source.left c.loop-bytes.source) (g.S.Source.left c.take_next.new.source) c.in_err-taken.field-0.0 q (c.in_err-taken.ensures.err key start q.0 q.1 q.2))

pub returns-then-taken-clause-ok : goal.returns-then-taken-clause-ok
returns-then-taken-clause-ok g c = λ start t. let q = c.loop-bytes.invariant.so_far start t in stops_here (g.A.Addresser.name c.args.naming.now) c.args.session.now start (g.B.Asker.shows c.loop-bytes.asker) (g.B.Asker.shows c.take_next.new.asker) c.loop-bytes.upper.items c.loop-bytes.lower.items c.take_next.new.upper.items c.take_next.new.lower.items c.loop-bytes.bytes c.in_ok-taken.taken (g.S.Source.left c.args.source.now) (g.S.Source.left c.loop-bytes.source) (g.S.Source.left c.take_next.new.source) q c.loop-bytes-test.true (c.in_ok-taken.ensures.ok start q.0 q.1 q.2) c.if-taken.true

pub loop-bytes-preserved : goal.loop-bytes-preserved
loop-bytes-preserved g c =
    let first = c.requires.begun.start in
    let q = c.loop-bytes.invariant.so_far first (begun_at (g.A.Addresser.name c.args.naming.now) c.args.session.now (g.B.Asker.shows c.args.asker.now) c.args.upper.now.items c.args.lower.now.items c.requires.begun) in
    let r = goes_on (g.A.Addresser.name c.args.naming.now) c.args.session.now first (g.B.Asker.shows c.loop-bytes.asker) (g.B.Asker.shows c.take_next.new.asker) c.loop-bytes.upper.items c.loop-bytes.lower.items c.take_next.new.upper.items c.take_next.new.lower.items c.loop-bytes.bytes c.in_ok-taken.taken (g.S.Source.left c.args.source.now) (g.S.Source.left c.loop-bytes.source) (g.S.Source.left c.take_next.new.source) q c.loop-bytes-test.true (c.in_ok-taken.ensures.ok first q.0 q.1 q.2) c.if-taken.false in
    record {
      going = c.in_ok-taken.ensures.going;
      later = omega (arith, c.in_ok-taken.ensures.later, c.loop-bytes.invariant.later);
      fits = omega (arith, r.2, r.1.fits);
      under = so_under_way (g.A.Addresser.name c.args.naming.now) c.args.session.now first (g.B.Asker.shows c.take_next.new.asker) c.take_next.new.upper.items c.take_next.new.lower.items (c.loop-bytes.bytes + c.in_ok-taken.taken) (g.S.Source.left c.args.source.now) (g.S.Source.left c.take_next.new.source) r;
      so_far = λ start t. let k = c.loop-bytes.invariant.so_far start t in goes_on (g.A.Addresser.name c.args.naming.now) c.args.session.now start (g.B.Asker.shows c.loop-bytes.asker) (g.B.Asker.shows c.take_next.new.asker) c.loop-bytes.upper.items c.loop-bytes.lower.items c.take_next.new.upper.items c.take_next.new.lower.items c.loop-bytes.bytes c.in_ok-taken.taken (g.S.Source.left c.args.source.now) (g.S.Source.left c.loop-bytes.source) (g.S.Source.left c.take_next.new.source) k c.loop-bytes-test.true (c.in_ok-taken.ensures.ok start k.0 k.1 k.2) c.if-taken.false;
    }

pub returns-in_err-is_at_end-clause-err : goal.returns-in_err-is_at_end-clause-err
returns-in_err-is_at_end-clause-err g c =
    let p = err_from_is_err_and c.from_residual-in_err-is_at_end.result c.from_residual-in_err-is_at_end.ensures.1 in
    rw (p.1, p.2) (λ key start t. let q = c.loop-bytes.invariant.so_far start t in taking_stops (g.A.Addresser.name c.args.naming.now) c.args.session.now start key (g.B.Asker.shows c.loop-bytes.asker) c.loop-bytes.upper.items c.loop-bytes.lower.items c.loop-bytes.bytes (g.S.Source.left c.args.source.now) (g.S.Source.left c.loop-bytes.source) (g.S.Source.left c.is_at_end.new.source) c.in_err-is_at_end.field-0.0 (take_quiet _ _ c.in_err-is_at_end.field-0.0 c.in_err-is_at_end.ensures.fault) c.is_at_end.ensures.gone q)

pub returns-then-branch-clause-ok : goal.returns-then-branch-clause-ok
returns-then-branch-clause-ok g c = λ start t. let q = c.loop-bytes.invariant.so_far start t in let e = c.in_ok-is_at_end.ensures.ended c.if-branch.true in stops_full (g.A.Addresser.name c.args.naming.now) c.args.session.now start (g.B.Asker.shows c.loop-bytes.asker) c.loop-bytes.upper.items c.loop-bytes.lower.items c.loop-bytes.bytes (g.S.Source.left c.args.source.now) (g.S.Source.left c.loop-bytes.source) q c.loop-bytes-test.false (g.S.Source.left c.is_at_end.new.source) e.0 e.1

pub returns-else-branch-clause-cause : goal.returns-else-branch-clause-cause
returns-else-branch-clause-cause g c =
    let first = c.requires.begun.start in
    let q = c.loop-bytes.invariant.so_far first (begun_at (g.A.Addresser.name c.args.naming.now) c.args.session.now (g.B.Asker.shows c.args.asker.now) c.args.upper.now.items c.args.lower.now.items c.requires.begun) in
    too_long (g.A.Addresser.name c.args.naming.now) c.args.session.now first (g.B.Asker.shows c.loop-bytes.asker) c.loop-bytes.upper.items c.loop-bytes.lower.items c.loop-bytes.bytes (g.S.Source.left c.args.source.now) (g.S.Source.left c.loop-bytes.source) q c.loop-bytes-test.false (c.in_ok-is_at_end.ensures.more c.if-branch.false)

pub returns-else-branch-clause-err : goal.returns-else-branch-clause-err
returns-else-branch-clause-err g c = λ key start t. let q = c.loop-bytes.invariant.so_far start t in taking_stops (g.A.Addresser.name c.args.naming.now) c.args.session.now start key (g.B.Asker.shows c.loop-bytes.asker) c.loop-bytes.upper.items c.loop-bytes.lower.items c.loop-bytes.bytes (g.S.Source.left c.args.source.now) (g.S.Source.left c.loop-bytes.source) (g.S.Source.left c.is_at_end.new.source) fault.InputFull tt c.is_at_end.ensures.gone q
