use Rattle.std.proofs.Common.{◌≡◌, ◌∙◌, ◌+◌, ◌++◌, ◌∷◌, [], ap, arith, length, map, refl, subst, sym}
use Rattle.std.proofs.lemmas.Grind.{common_steps}
use Rattle.hs_limits.specs.Shape.{peer_of}
use Rattle.hs_scrub.proofs.ScrubLemmas.{done_more, done_none}
use Rattle.hs_scrub.proofs.ShardLemmas.{state}
use Rattle.hs_scrub.specs.Steps.{AreDone, State}
use Rattle.hs_taking.specs.Disks.{DiskSeen, seen_as}
use Rattle.hs_scrub.proofs.scrubbing.mark_all.Goals as goal

pub loop-shard-init : goal.loop-shard-init
loop-shard-init g c =
    let f : g.row.D.Denot → DiskSeen = λ disk. seen_as (g.D.Disk.size disk) (g.D.Disk.stands disk) (g.D.Disk.faults disk) in
    let a : State = state (map f c.args.disks.now) c.args.views.now c.args.marks.now in
    record {
      done = done_none g.D.Disk.tells c.args.shape c.new-lengths.result.items a c.requires.stands;
      lengths = ap length c.new-lengths.ensures.items;
      views = refl;
      marks = refl;
      count = refl;
    }

pub mark_shard-requires-clause-stands : goal.mark_shard-requires-clause-stands
mark_shard-requires-clause-stands g c =
    c.loop-shard.invariant.done.walks.views

pub loop-shard-preserved : goal.loop-shard-preserved
loop-shard-preserved g c =
    let f : g.row.D.Denot → DiskSeen = λ disk. seen_as (g.D.Disk.size disk) (g.D.Disk.stands disk) (g.D.Disk.faults disk) in
    let a : State = state (map f c.args.disks.now) c.args.views.now c.args.marks.now in
    let inv = c.loop-shard.invariant in
    let b : State = state (map f c.loop-shard.disks) c.loop-shard.views c.loop-shard.marks in
    let d : State = state (map f c.mark_shard.new.disks) c.mark_shard.new.views c.mark_shard.new.marks in
    let items : c.push.new.self.items ≡ c.loop-shard.lengths.items ++ c.in-Ok.length ∷ [] = grind (arith, common_steps) in
    let from_is : c.from-from.result ≡ peer_of c.args.shape c.loop-shard.shard 0 = c.from-from.ensures ∙ c.peer_of.ensures in
    record {
      done = subst (λ ns. AreDone g.D.Disk.tells c.args.shape (c.loop-shard.shard + 1) ns a d) (sym items)
          (done_more g.D.Disk.tells c.args.shape c.loop-shard.shard c.from-from.result (c.from-from.result + c.from.result) c.in-Ok.length c.loop-shard.lengths.items a b d c.loop-shard-test.true inv.lengths from_is (ap (λ n. c.from-from.result + n) c.from.ensures) inv.done c.in-Ok.ensures.settled);
      lengths = grind (arith, common_steps, items);
      views = omega (arith, c.mark_shard.ensures.views, inv.views);
      marks = omega (arith, c.mark_shard.ensures.marks, inv.marks);
      count = omega (arith, c.mark_shard.ensures.count, inv.count);
    }
