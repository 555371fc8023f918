use Rattle.std.proofs.Common.{◌∙◌, ◌*◌, ℕ, List, Option, map, refl, sym}
use Rattle.hs_audit.proofs.GatherLemmas.{gathered_more, gathered_none, still_viewed_shard}
use Rattle.hs_audit.proofs.ReadLemmas.{first_unviewed, taken_shape}
use Rattle.hs_audit.proofs.RereadLemmas.{all_reread, all_reread_then, all_still, all_still_then, views_stay}
use Rattle.hs_fold.specs.Shards.Setting.{Setting}
use Rattle.hs_limits.specs.Limits.{greatest_limits}
use Rattle.hs_peerlog.specs.Views.{Viewing}
use Rattle.hs_taking.specs.Disks.{DiskSeen, seen_as}
use Rattle.hs_audit.proofs.gathering.gather.Goals as goal

pub loop-shard-init : goal.loop-shard-init
loop-shard-init g c =
    let f : g.row.D.Denot → DiskSeen = λ disk. seen_as (g.D.Disk.size disk) (g.D.Disk.stands disk) (g.D.Disk.faults disk) in
    let n : ℕ = c.args.shape.shards * c.args.shape.copies in
    let set : Setting = record { name = g.A.Addresser.name c.args.naming.now; limits = greatest_limits; shape = c.args.shape } in
    record {
      gathered = gathered_none g.D.Disk.tells set (map f c.args.disks.now) c.args.views.now c.in_ok-store.store c.in_ok-store.ensures.store;
      plain = c.in_ok-store.ensures.plain;
      shape = c.in_ok-store.ensures.shape;
      views = c.requires.viewed;
      still = all_still g.D.Disk.tells n (map f c.args.disks.now);
      reread = all_reread g.D.Disk.tells n (map f c.args.disks.now) c.args.views.now;
      same_views = refl;
      same_count = refl;
    }

pub loop-shard-preserved : goal.loop-shard-preserved
loop-shard-preserved g c =
    let f : g.row.D.Denot → DiskSeen = λ disk. seen_as (g.D.Disk.size disk) (g.D.Disk.stands disk) (g.D.Disk.faults disk) in
    let n : ℕ = c.args.shape.shards * c.args.shape.copies in
    let set : Setting = record { name = g.A.Addresser.name c.args.naming.now; limits = greatest_limits; shape = c.args.shape } in
    let inv = c.loop-shard.invariant in
    let a : List DiskSeen = map f c.args.disks.now in
    let b : List DiskSeen = map f c.loop-shard.disks in
    let z : List DiskSeen = map f c.take_shard.new.disks in
    let u : List (Option Viewing) = c.loop-shard.views in
    let v : List (Option Viewing) = c.take_shard.new.views in
    let step = c.in-Ok.ensures.reread refl in
    record {
      gathered = gathered_more g.D.Disk.tells set a b u v c.loop-shard.shard c.in-Ok.catalogue c.loop-shard.store c.add_shard.new.store
          c.loop-shard-test.true inv.still c.take_shard.ensures.others inv.gathered c.in-Ok.ensures.taken (c.add_shard.ensures.added c.if-not-add_shard.false);
      plain = c.add_shard.ensures.plain c.if-not-add_shard.false;
      shape = c.add_shard.ensures.shape c.if-not-add_shard.false ∙ inv.shape;
      views = views_stay g.D.Disk.tells c.args.shape b z u v c.take_shard.ensures.still step inv.views;
      still = all_still_then g.D.Disk.tells n a b z inv.still c.take_shard.ensures.still;
      reread = all_reread_then g.D.Disk.tells n a b z c.args.views.now u v c.take_shard.ensures.still inv.reread step;
      same_views = c.take_shard.ensures.same_views ∙ inv.same_views;
      same_count = c.take_shard.ensures.same_count ∙ inv.same_count;
    }

pub returns-in-Err-clause-lost : goal.returns-in-Err-clause-lost
returns-in-Err-clause-lost g c =
    let v : List (Option Viewing) = c.take_shard.new.views in
    let inv = c.loop-shard.invariant in
    first_unviewed c.args.shape v c.loop-shard.shard c.in-Err.fault c.loop-shard-test.true
    (λ k less. still_viewed_shard c.args.shape c.loop-shard.views v c.loop-shard.shard k less c.take_shard.ensures.others (inv.gathered.viewed k less)) c.in-Err.ensures.lost

pub add_shard-requires-clause-shape : goal.add_shard-requires-clause-shape
add_shard-requires-clause-shape g c =
    let f : g.row.D.Denot → DiskSeen = λ disk. seen_as (g.D.Disk.size disk) (g.D.Disk.stands disk) (g.D.Disk.faults disk) in
    let set : Setting = record { name = g.A.Addresser.name c.args.naming.now; limits = greatest_limits; shape = c.args.shape } in
    c.loop-shard.invariant.shape ∙ sym (taken_shape g.D.Disk.tells set (map f c.loop-shard.disks) c.take_shard.new.views c.loop-shard.shard c.in-Ok.catalogue c.in-Ok.ensures.taken)

pub returns-then-not-add_shard-clause-still : goal.returns-then-not-add_shard-clause-still
returns-then-not-add_shard-clause-still g c =
    let f : g.row.D.Denot → DiskSeen = λ disk. seen_as (g.D.Disk.size disk) (g.D.Disk.stands disk) (g.D.Disk.faults disk) in
    all_still_then g.D.Disk.tells (c.args.shape.shards * c.args.shape.copies) (map f c.args.disks.now) (map f c.loop-shard.disks) (map f c.take_shard.new.disks) c.loop-shard.invariant.still c.take_shard.ensures.still

pub returns-in-Err-clause-still : goal.returns-in-Err-clause-still
returns-in-Err-clause-still g c =
    let f : g.row.D.Denot → DiskSeen = λ disk. seen_as (g.D.Disk.size disk) (g.D.Disk.stands disk) (g.D.Disk.faults disk) in
    all_still_then g.D.Disk.tells (c.args.shape.shards * c.args.shape.copies) (map f c.args.disks.now) (map f c.loop-shard.disks) (map f c.take_shard.new.disks) c.loop-shard.invariant.still c.take_shard.ensures.still

pub returns-in-Err-clause-reread : goal.returns-in-Err-clause-reread
returns-in-Err-clause-reread g c =
    let f : g.row.D.Denot → DiskSeen = λ disk. seen_as (g.D.Disk.size disk) (g.D.Disk.stands disk) (g.D.Disk.faults disk) in
    λ calm. all_reread_then g.D.Disk.tells (c.args.shape.shards * c.args.shape.copies) (map f c.args.disks.now) (map f c.loop-shard.disks) (map f c.take_shard.new.disks) c.args.views.now c.loop-shard.views c.take_shard.new.views
    c.take_shard.ensures.still c.loop-shard.invariant.reread (c.in-Err.ensures.reread calm)
