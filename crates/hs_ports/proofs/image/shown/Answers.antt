use Rattle.std.proofs.Common.{arith}
use Rattle.hs_ports.proofs.ReplayLemmas.{shown_none, shown_more, shown_with_bound}
use Rattle.hs_ports.proofs.image.shown.Goals as goal

pub loop-i-init : goal.loop-i-init
loop-i-init c = record { value = shown_none c.args.moment; bound = omega arith }

pub loop-i-preserved : goal.loop-i-preserved
loop-i-preserved c =
    let bound = shown_with_bound c.args.moment c.loop-i.i c.loop-i.n c.index-changes-i.result c.loop-i.invariant.bound in
    record {
      value = shown_more c.args.moment c.loop-i.i c.loop-i.n c.shown_after-n.result c.args.changes.now c.index-changes-i.result
          (omega arith) c.index-changes-i.is c.loop-i.invariant.value c.shown_after-n.ensures;
      bound = rw c.shown_after-n.ensures bound;
    }
