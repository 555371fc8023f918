use Rattle.std.proofs.Common.{arith, map, refl}
use Rattle.std.proofs.lemmas.Grind.{common_steps}
use Rattle.hs_scrub.proofs.ShardLemmas.{goes_begin, goes_more, some_stays, state}
use Rattle.hs_scrub.specs.Steps.{State}
use Rattle.hs_taking.specs.Disks.{DiskSeen, seen_as}
use Rattle.hs_scrub.proofs.shard.mark_peers.Goals as goal

pub loop-place-init : goal.loop-place-init
loop-place-init g c =
    let f : g.row.D.Denot → DiskSeen = λ disk. seen_as (g.D.Disk.size disk) (g.D.Disk.stands disk) (g.D.Disk.faults disk) in
    let a : State = state (map f c.args.disks.now) c.args.views.now c.args.marks.now in
    record {
      goes = goes_begin g.D.Disk.tells c.args.from c.args.to c.args.taken (map f c.args.disks.now) c.args.views.now c.args.marks.now c.requires.stands c.requires.taken c.requires.low c.requires.high
          (omega (arith, c.requires.high, c.requires.within, c.requires.marks));
      from = omega arith;
      views = refl;
      marks = grind (arith, common_steps);
      count = refl;
    }

pub mark_one-requires-clause-taken : goal.mark_one-requires-clause-taken
mark_one-requires-clause-taken g c =
    let f : g.row.D.Denot → DiskSeen = λ disk. seen_as (g.D.Disk.size disk) (g.D.Disk.stands disk) (g.D.Disk.faults disk) in
    let a : State = state (map f c.args.disks.now) c.args.views.now c.args.marks.now in
    let inv = c.loop-place.invariant in
    let b : State = state (map f c.loop-place.disks) c.loop-place.views c.loop-place.marks in
    some_stays c.args.views.now c.loop-place.views c.args.taken inv.goes.view c.requires.taken

pub mark_one-requires-clause-same : goal.mark_one-requires-clause-same
mark_one-requires-clause-same g c =
    c.loop-place.invariant.goes.same

pub mark_one-requires-clause-stands : goal.mark_one-requires-clause-stands
mark_one-requires-clause-stands g c =
    c.loop-place.invariant.goes.walks.views

pub loop-place-preserved : goal.loop-place-preserved
loop-place-preserved g c =
    let f : g.row.D.Denot → DiskSeen = λ disk. seen_as (g.D.Disk.size disk) (g.D.Disk.stands disk) (g.D.Disk.faults disk) in
    let a : State = state (map f c.args.disks.now) c.args.views.now c.args.marks.now in
    let inv = c.loop-place.invariant in
    let b : State = state (map f c.loop-place.disks) c.loop-place.views c.loop-place.marks in
    let d : State = state (map f c.mark_one.new.disks) c.mark_one.new.views c.mark_one.new.marks in
    record {
      goes = goes_more g.D.Disk.tells c.args.from c.args.to c.args.taken c.loop-place.place a b d inv.from c.loop-place-test.true c.requires.high inv.goes (c.in-Ok.ensures.goes c.if-not-lasts.false) (c.in-Ok.ensures.own c.if-not-lasts.false)
          (λ shape begun count looked low under. c.in-Ok.ensures.fits c.if-not-lasts.false shape begun count looked low under);
      from = omega (arith, inv.from);
      views = omega (arith, c.mark_one.ensures.views, inv.views);
      marks = omega (arith, c.mark_one.ensures.marks, inv.marks);
      count = omega (arith, c.mark_one.ensures.count, inv.count);
    }
