use Rattle.std.proofs.Common.{arith, ◌≡◌, ◌∙◌, sym}
use Rattle.hs_ports.specs.ReplayLaws.{settled_image}
use Rattle.hs_ports.proofs.ReplayLemmas.{seen_none, loose_none, seen_more, loose_more}
use Rattle.hs_ports.proofs.image.replay.Goals as goal

pub loop-change-init : goal.loop-change-init
loop-change-init c =
    let seen : c.in_ok-seen.seen.items ≡ c.args.first.now = c.in_ok-seen.ensures.items in
    let torn : c.in_ok-torn.torn.items ≡ c.args.first.now = c.in_ok-torn.ensures.items in
    record {
      seen = seen ∙ sym (seen_none c.args.first.now);
      image = rw (loose_none c.args.first.now, torn) (settled_image c.args.first.now);
      new = λ is. torn ∙ sym seen;
    }

pub loop-change-preserved : goal.loop-change-preserved
loop-change-preserved c =
    let first = c.args.first.now in
    let changes = c.args.changes.now in
    let i = c.loop-change.change-index in
    let seen = seen_more first changes i c.change-item.result (omega arith) c.change-item.is in
    let loose = loose_more first changes i c.change-item.result (omega arith) c.change-item.is in
    record {
      seen = rw (seen, ← c.loop-change.invariant.seen) c.in_ok-redo.ensures.seen;
      image = rw (loose, ← c.loop-change.invariant.seen) (c.in_ok-redo.ensures.image _ c.loop-change.invariant.image);
      new = λ is. c.in_ok-redo.ensures.new is (c.loop-change.invariant.new is);
    }
