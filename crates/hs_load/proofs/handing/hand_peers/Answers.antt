use Rattle.std.proofs.Common.{rules, ◌≡◌, ◌++◌, [], ◌∷◌, Option, List, sym, subst, arith}
use Rattle.hs_load.specs.Seating.{AreBack}
use Rattle.hs_load.proofs.GatherLemmas.{back_less}
use Rattle.hs_load.proofs.HandLemmas.{one_peer_more}
use Rattle.hs_load.proofs.ListLemmas.{snoc_length}
use Rattle.hs_load.proofs.handing.hand_peers.Goals as goal

pub loop-peer-preserved : goal.loop-peer-preserved
loop-peer-preserved g c =
    let r = c.in-Some.returned in
    let disks : c.add.new.items.items ≡ c.loop-peer.disks.items ++ r.disk ∷ [] = c.in_ok-add.ensures.ok in
    let logs : c.add-in-loop-peer.new.items.items ≡ c.loop-peer.logs.items ++ r.log ∷ [] = c.in_ok-add-2.ensures.ok in
    let stored : c.add-in-loop-peer-2.new.items.items ≡ c.loop-peer.stored.items ++ r.stored ∷ [] = c.in_ok-add-3.ensures.ok in
    let stops : c.add-in-loop-peer-3.new.items.items ≡ c.loop-peer.stops.items ++ r.stop ∷ [] = c.in_ok-add-4.ensures.ok in
    record {
      count = search rules;
      disks_count = snoc_length c.loop-peer.disks.items c.add.new.items.items r.disk c.loop-peer.peer disks c.loop-peer.invariant.disks_count;
      logs_count = snoc_length c.loop-peer.logs.items c.add-in-loop-peer.new.items.items r.log c.loop-peer.peer logs c.loop-peer.invariant.logs_count;
      stored_count = snoc_length c.loop-peer.stored.items c.add-in-loop-peer-2.new.items.items r.stored c.loop-peer.peer stored c.loop-peer.invariant.stored_count;
      stops_count = snoc_length c.loop-peer.stops.items c.add-in-loop-peer-3.new.items.items r.stop c.loop-peer.peer stops c.loop-peer.invariant.stops_count;
      left = λ slots old all. subst (λ xs. AreBack g.D.Disk.tells g.D.Disk.size g.D.Disk.stands g.D.Disk.faults slots old xs) (sym c.take_at.ensures.rest)
          (back_less g.D.Disk.tells g.D.Disk.size g.D.Disk.stands g.D.Disk.faults slots old c.loop-peer.back.items c.loop-peer.peer (c.loop-peer.invariant.left slots old all));
      each = λ slots old all. one_peer_more g.D.Disk.tells g.D.Disk.size g.D.Disk.stands g.D.Disk.faults slots old c.loop-peer.back.items c.loop-peer.disks.items c.add.new.items.items c.loop-peer.logs.items c.add-in-loop-peer.new.items.items
          c.loop-peer.stored.items c.add-in-loop-peer-2.new.items.items c.loop-peer.stops.items c.add-in-loop-peer-3.new.items.items c.loop-peer.peer r
          (c.loop-peer.invariant.left slots old all) c.in-Some.ensures.item disks logs stored stops
          c.loop-peer.invariant.disks_count c.loop-peer.invariant.logs_count c.loop-peer.invariant.stored_count c.loop-peer.invariant.stops_count (c.loop-peer.invariant.each slots old all);
    }

pub returns-clause-each : goal.returns-clause-each
returns-clause-each g c = λ slots old all peer given stop low.
    c.loop-peer.invariant.each slots old all peer given stop (let past = c.loop-peer-test.false in let len = c.len-peer-end.ensures in let count = c.loop-peer.invariant.count in omega (arith, past, len, low, count))
