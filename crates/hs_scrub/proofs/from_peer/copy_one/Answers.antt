use Rattle.std.proofs.Common.{List, arith, map, subst}
use Rattle.hs_peerlog.proofs.ImageLemmas.{Since}
use Rattle.hs_scrub.proofs.AllLemmas.{fronts_still}
use Rattle.hs_scrub.specs.CopySteps.{CopyFronts}
use Rattle.hs_taking.proofs.DiskLemmas.{seen_each}
use Rattle.hs_taking.specs.Disks.{DiskSeen, seen_as, seen_at}
use Rattle.hs_scrub.proofs.from_peer.copy_one.Goals as goal

pub returns-then-peer-from-clause-fronts : goal.returns-then-peer-from-clause-fronts
returns-then-peer-from-clause-fronts g c =
    let f : g.row.D.Denot → DiskSeen = λ disk. seen_as (g.D.Disk.size disk) (g.D.Disk.stands disk) (g.D.Disk.faults disk) in
    let old : List DiskSeen = map f c.args.disks.now in
    λ differ. fronts_still g.D.Disk.tells c.args.source.now c.args.watch.now c.args.watch.now (seen_at old c.args.from) (seen_at old c.args.peer) (omega arith)
    (λ told. seen_each (λ (s : DiskSeen). Since s.stands) f (λ x side m high. g.met.D.Disk.since told x side m high) c.args.disks.now c.args.peer c.requires.place)

pub returns-in-Ok-Whole-clause-fronts : goal.returns-in-Ok-Whole-clause-fronts
returns-in-Ok-Whole-clause-fronts g c =
    let f : g.row.D.Denot → DiskSeen = λ disk. seen_as (g.D.Disk.size disk) (g.D.Disk.stands disk) (g.D.Disk.faults disk) in
    let old : List DiskSeen = map f c.args.disks.now in
    let new : List DiskSeen = map f c.copy_to.new.disks in
    λ differ. subst (λ n. CopyFronts g.D.Disk.tells c.args.source.now c.args.watch.now c.copy_to.new.watch (seen_at old n) (seen_at old c.args.peer) (seen_at new c.args.peer)) c.from.ensures c.copy_to.ensures.fronts

pub returns-in-Ok-clause-fronts : goal.returns-in-Ok-clause-fronts
returns-in-Ok-clause-fronts g c =
    let f : g.row.D.Denot → DiskSeen = λ disk. seen_as (g.D.Disk.size disk) (g.D.Disk.stands disk) (g.D.Disk.faults disk) in
    let old : List DiskSeen = map f c.args.disks.now in
    let new : List DiskSeen = map f c.copy_to.new.disks in
    λ differ. subst (λ n. CopyFronts g.D.Disk.tells c.args.source.now c.args.watch.now c.copy_to.new.watch (seen_at old n) (seen_at old c.args.peer) (seen_at new c.args.peer)) c.from.ensures c.copy_to.ensures.fronts

pub returns-in-Err-put_mark-clause-fronts : goal.returns-in-Err-put_mark-clause-fronts
returns-in-Err-put_mark-clause-fronts g c =
    let f : g.row.D.Denot → DiskSeen = λ disk. seen_as (g.D.Disk.size disk) (g.D.Disk.stands disk) (g.D.Disk.faults disk) in
    let old : List DiskSeen = map f c.args.disks.now in
    let new : List DiskSeen = map f c.copy_to.new.disks in
    λ differ. subst (λ n. CopyFronts g.D.Disk.tells c.args.source.now c.args.watch.now c.copy_to.new.watch (seen_at old n) (seen_at old c.args.peer) (seen_at new c.args.peer)) c.from.ensures c.copy_to.ensures.fronts

pub returns-in-Ok-Ended-clause-fronts : goal.returns-in-Ok-Ended-clause-fronts
returns-in-Ok-Ended-clause-fronts g c =
    let f : g.row.D.Denot → DiskSeen = λ disk. seen_as (g.D.Disk.size disk) (g.D.Disk.stands disk) (g.D.Disk.faults disk) in
    let old : List DiskSeen = map f c.args.disks.now in
    let new : List DiskSeen = map f c.copy_to.new.disks in
    λ differ. subst (λ n. CopyFronts g.D.Disk.tells c.args.source.now c.args.watch.now c.copy_to.new.watch (seen_at old n) (seen_at old c.args.peer) (seen_at new c.args.peer)) c.from.ensures c.copy_to.ensures.fronts

pub returns-in-Err-clause-fronts : goal.returns-in-Err-clause-fronts
returns-in-Err-clause-fronts g c =
    let f : g.row.D.Denot → DiskSeen = λ disk. seen_as (g.D.Disk.size disk) (g.D.Disk.stands disk) (g.D.Disk.faults disk) in
    let old : List DiskSeen = map f c.args.disks.now in
    let new : List DiskSeen = map f c.copy_to.new.disks in
    λ differ. subst (λ n. CopyFronts g.D.Disk.tells c.args.source.now c.args.watch.now c.copy_to.new.watch (seen_at old n) (seen_at old c.args.peer) (seen_at new c.args.peer)) c.from.ensures c.copy_to.ensures.fronts
