use Rattle.std.proofs.Common.{◌≡◌, ◌∙◌, ◌+◌, ◌-◌, ℕ, Option, ap, arith, map, refl, subst, sym}
use Rattle.std.specs.Prelude.{IfSome, is_some}
use Rattle.hs_scrub.proofs.ShardLemmas.{Rounds, rounds_more, rounds_none, settles_one, settles_over, state}
use Rattle.hs_peerlog.specs.Views.{Viewing}
use Rattle.hs_scrub.specs.Steps.{IsGreatest, State}
use Rattle.hs_taking.specs.Disks.{DiskSeen, seen_as}
use Rattle.hs_scrub.proofs.shard.mark_shard.Goals as goal

pub loop-round-init : goal.loop-round-init
loop-round-init g c =
    let f : g.row.D.Denot → DiskSeen = λ disk. seen_as (g.D.Disk.size disk) (g.D.Disk.stands disk) (g.D.Disk.faults disk) in
    let a : State = state (map f c.args.disks.now) c.args.views.now c.args.marks.now in
    let e : c.args.from - c.args.from ≡ 0 = omega arith in
    record {
      rounds = subst (λ n. Rounds g.D.Disk.tells c.args.from c.args.to n a a) (sym e) (rounds_none g.D.Disk.tells c.args.from c.args.to a c.requires.stands);
      from = omega arith;
      views = refl;
      marks = refl;
      count = refl;
    }

pub returns-then-lasts-clause-settled : goal.returns-then-lasts-clause-settled
returns-then-lasts-clause-settled g c =
    let f : g.row.D.Denot → DiskSeen = λ disk. seen_as (g.D.Disk.size disk) (g.D.Disk.stands disk) (g.D.Disk.faults disk) in
    let a : State = state (map f c.args.disks.now) c.args.views.now c.args.marks.now in
    let inv = c.loop-round.invariant in
    let b : State = state (map f c.loop-round.disks) c.loop-round.views c.loop-round.marks in
    let d : State = state (map f c.mark_peers.new.disks) c.mark_peers.new.views c.mark_peers.new.marks in
    let found : (view : Viewing) × IsGreatest c.loop-round.views c.args.from c.args.to c.in-Some.taken view
    = subst (λ (o : Option ℕ). IfSome o (λ peer. (view : Viewing) × IsGreatest c.loop-round.views c.args.from c.args.to peer view)) c.in-Some.is c.in_ok-taken.ensures.found in
    let goes = c.in-Ok.ensures.goes c.if-lasts.true in
    settles_one g.D.Disk.tells c.args.from c.args.to (c.loop-round._round - c.args.from) c.in-Some.taken c.last_of.result found.0 a b d inv.rounds found.1 goes (c.last_of.ensures found.0 (goes.view ∙ found.1.own))

pub loop-round-preserved : goal.loop-round-preserved
loop-round-preserved g c =
    let f : g.row.D.Denot → DiskSeen = λ disk. seen_as (g.D.Disk.size disk) (g.D.Disk.stands disk) (g.D.Disk.faults disk) in
    let a : State = state (map f c.args.disks.now) c.args.views.now c.args.marks.now in
    let inv = c.loop-round.invariant in
    let b : State = state (map f c.loop-round.disks) c.loop-round.views c.loop-round.marks in
    let d : State = state (map f c.mark_peers.new.disks) c.mark_peers.new.views c.mark_peers.new.marks in
    let found : (view : Viewing) × IsGreatest c.loop-round.views c.args.from c.args.to c.in-Some.taken view
    = subst (λ (o : Option ℕ). IfSome o (λ peer. (view : Viewing) × IsGreatest c.loop-round.views c.args.from c.args.to peer view)) c.in-Some.is c.in_ok-taken.ensures.found in
    let ends = c.in-Ok.ensures.ends c.if-lasts.false in
    let e : c.loop-round._round - c.args.from + 1 ≡ c.loop-round._round + 1 - c.args.from = omega (arith, inv.from) in
    record {
      rounds = subst (λ n. Rounds g.D.Disk.tells c.args.from c.args.to n a d) e
          (rounds_more g.D.Disk.tells c.args.from c.args.to (c.loop-round._round - c.args.from) c.in-Some.taken a b d found.1.low found.1.high (ap is_some found.1.own) inv.rounds ends);
      from = omega (arith, inv.from);
      views = omega (arith, c.mark_peers.ensures.views, inv.views);
      marks = omega (arith, c.mark_peers.ensures.marks, inv.marks);
      count = omega (arith, c.mark_peers.ensures.count, inv.count);
    }

pub returns-clause-settled : goal.returns-clause-settled
returns-clause-settled g c =
    let f : g.row.D.Denot → DiskSeen = λ disk. seen_as (g.D.Disk.size disk) (g.D.Disk.stands disk) (g.D.Disk.faults disk) in
    let a : State = state (map f c.args.disks.now) c.args.views.now c.args.marks.now in
    let inv = c.loop-round.invariant in
    let b : State = state (map f c.loop-round.disks) c.loop-round.views c.loop-round.marks in
    settles_over g.D.Disk.tells c.args.from c.args.to (c.loop-round._round - c.args.from) a b c.requires.order (omega (arith, c.loop-round-test.false, inv.from)) inv.rounds
