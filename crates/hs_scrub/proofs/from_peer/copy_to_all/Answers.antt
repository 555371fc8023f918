use Rattle.std.proofs.Common.{◌*◌, arith, ℕ, List, Option, map, refl, subst}
use Rattle.hs_peerlog.proofs.ImageLemmas.{Since}
use Rattle.hs_scrub.proofs.AllLemmas.{all_spares, copies_more, copies_none, given_all, given_ended}
use Rattle.hs_scrub.proofs.FromLemmas.{ok_so}
use Rattle.hs_scrub.proofs.StillLemmas.{stands_still}
use Rattle.hs_scrub.specs.CopySteps.{OneGiven}
use Rattle.hs_scrub.specs.declared.mark.PeerMark.{PeerMark}
use Rattle.hs_taking.proofs.DiskLemmas.{seen_each}
use Rattle.hs_taking.specs.Disks.{DiskSeen, seen_as, seen_at}
use Rattle.hs_scrub.proofs.from_peer.copy_to_all.Goals as goal

pub loop-peer-init : goal.loop-peer-init
loop-peer-init g c =
    let f : g.row.D.Denot → DiskSeen = λ disk. seen_as (g.D.Disk.size disk) (g.D.Disk.stands disk) (g.D.Disk.faults disk) in
    let old : List DiskSeen = map f c.args.disks.now in
    let total : ℕ = c.args.shape.shards * c.args.shape.copies in
    record {
      copies = copies_none g.D.Disk.tells c.args.shape c.args.source.now c.args.from c.args.watch.now total old c.args.out.now.items
          (λ peer low told. seen_each (λ (s : DiskSeen). Since s.stands) f (λ x side m high. g.met.D.Disk.since told x side m high) c.args.disks.now peer (omega (arith, low, c.requires.total)));
      count = refl;
    }

pub copy_one-requires-clause-source : goal.copy_one-requires-clause-source
copy_one-requires-clause-source g c =
    let f : g.row.D.Denot → DiskSeen = λ disk. seen_as (g.D.Disk.size disk) (g.D.Disk.stands disk) (g.D.Disk.faults disk) in
    let old : List DiskSeen = map f c.args.disks.now in
    let total : ℕ = c.args.shape.shards * c.args.shape.copies in
    let cur : List DiskSeen = map f c.loop-peer.disks in
    let so_far = c.loop-peer.invariant.copies in
    stands_still g.D.Disk.tells c.args.source.now.log (seen_at old c.args.from) (seen_at cur c.args.from) so_far.spares.still c.requires.source

pub loop-peer-preserved : goal.loop-peer-preserved
loop-peer-preserved g c =
    let f : g.row.D.Denot → DiskSeen = λ disk. seen_as (g.D.Disk.size disk) (g.D.Disk.stands disk) (g.D.Disk.faults disk) in
    let old : List DiskSeen = map f c.args.disks.now in
    let total : ℕ = c.args.shape.shards * c.args.shape.copies in
    let cur : List DiskSeen = map f c.loop-peer.disks in
    let so_far = c.loop-peer.invariant.copies in
    let new : List DiskSeen = map f c.copy_one.new.disks in
    record {
      copies = copies_more g.D.Disk.tells c.args.shape c.args.source.now c.args.from c.args.watch.now c.loop-peer.watch c.copy_one.new.watch c.loop-peer.peer total old cur new c.args.out.now.items c.loop-peer.out.items c.copy_one.new.out.items so_far c.copy_one.ensures.calls c.copy_one.ensures.spared c.copy_one.ensures.fronts (subst (λ (o : Option PeerMark). OneGiven g.D.Disk.tells c.args.shape c.args.source.now c.args.from c.loop-peer.peer c.loop-peer.watch cur new c.loop-peer.out.items c.copy_one.new.out.items o) c.in-None.is c.in-Ok.ensures.given);
      count = omega (arith, c.copy_one.ensures.count, c.loop-peer.invariant.count);
    }

pub returns-in-Err-clause-spares : goal.returns-in-Err-clause-spares
returns-in-Err-clause-spares g c =
    let f : g.row.D.Denot → DiskSeen = λ disk. seen_as (g.D.Disk.size disk) (g.D.Disk.stands disk) (g.D.Disk.faults disk) in
    let old : List DiskSeen = map f c.args.disks.now in
    let total : ℕ = c.args.shape.shards * c.args.shape.copies in
    let cur : List DiskSeen = map f c.loop-peer.disks in
    let so_far = c.loop-peer.invariant.copies in
    let new : List DiskSeen = map f c.copy_one.new.disks in
    all_spares g.D.Disk.tells c.args.shape c.args.source.now c.args.from c.args.watch.now c.loop-peer.watch c.copy_one.new.watch c.loop-peer.peer total old cur new c.args.out.now.items c.loop-peer.out.items c.copy_one.new.out.items so_far c.copy_one.ensures.calls c.copy_one.ensures.spared c.copy_one.ensures.fronts

pub returns-in-Some-clause-spares : goal.returns-in-Some-clause-spares
returns-in-Some-clause-spares g c =
    let f : g.row.D.Denot → DiskSeen = λ disk. seen_as (g.D.Disk.size disk) (g.D.Disk.stands disk) (g.D.Disk.faults disk) in
    let old : List DiskSeen = map f c.args.disks.now in
    let total : ℕ = c.args.shape.shards * c.args.shape.copies in
    let cur : List DiskSeen = map f c.loop-peer.disks in
    let so_far = c.loop-peer.invariant.copies in
    let new : List DiskSeen = map f c.copy_one.new.disks in
    all_spares g.D.Disk.tells c.args.shape c.args.source.now c.args.from c.args.watch.now c.loop-peer.watch c.copy_one.new.watch c.loop-peer.peer total old cur new c.args.out.now.items c.loop-peer.out.items c.copy_one.new.out.items so_far c.copy_one.ensures.calls c.copy_one.ensures.spared c.copy_one.ensures.fronts

pub returns-in-Some-clause-given : goal.returns-in-Some-clause-given
returns-in-Some-clause-given g c =
    let f : g.row.D.Denot → DiskSeen = λ disk. seen_as (g.D.Disk.size disk) (g.D.Disk.stands disk) (g.D.Disk.faults disk) in
    let old : List DiskSeen = map f c.args.disks.now in
    let total : ℕ = c.args.shape.shards * c.args.shape.copies in
    let cur : List DiskSeen = map f c.loop-peer.disks in
    let so_far = c.loop-peer.invariant.copies in
    let new : List DiskSeen = map f c.copy_one.new.disks in
    ok_so c.put_mark.result c.put_mark.ensures.ok
    (λ text. given_ended g.D.Disk.tells c.args.shape c.args.source.now c.args.from c.args.watch.now c.loop-peer.watch c.copy_one.new.watch c.loop-peer.peer total old cur new c.args.out.now.items c.loop-peer.out.items c.copy_one.new.out.items so_far c.copy_one.ensures.calls c.copy_one.ensures.spared c.copy_one.ensures.fronts c.in-Some.mark c.put_mark.new.out.items (subst (λ (o : Option PeerMark). OneGiven g.D.Disk.tells c.args.shape c.args.source.now c.args.from c.loop-peer.peer c.loop-peer.watch cur new c.loop-peer.out.items c.copy_one.new.out.items o) c.in-Some.is c.in-Ok.ensures.given) text)

pub returns-clause-given : goal.returns-clause-given
returns-clause-given g c =
    let f : g.row.D.Denot → DiskSeen = λ disk. seen_as (g.D.Disk.size disk) (g.D.Disk.stands disk) (g.D.Disk.faults disk) in
    let old : List DiskSeen = map f c.args.disks.now in
    let total : ℕ = c.args.shape.shards * c.args.shape.copies in
    let cur : List DiskSeen = map f c.loop-peer.disks in
    let so_far = c.loop-peer.invariant.copies in
    given_all g.D.Disk.tells c.args.shape c.args.source.now c.args.from c.args.watch.now c.loop-peer.watch c.loop-peer.peer total old cur c.args.out.now.items c.loop-peer.out.items (omega (arith, c.loop-peer-test.false)) so_far

pub returns-clause-spares : goal.returns-clause-spares
returns-clause-spares g c =
    c.loop-peer.invariant.copies.spares
