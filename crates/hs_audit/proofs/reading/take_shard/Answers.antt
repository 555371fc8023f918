use Rattle.std.proofs.Common.{◌≡◌, ◌∙◌, ◌*◌, ℕ, true, false, List, Option, None, Some, ap, arith, is_some, map, refl, subst}
use Rattle.std.specs.Prelude.{IfSome}
use Rattle.hs_audit.proofs.ReadLemmas.{taken_before}
use Rattle.hs_audit.proofs.RereadLemmas.{all_reread, all_reread_then, all_still, all_still_then, views_stay}
use Rattle.hs_audit.proofs.TriesLemmas.{count_from, count_less, count_most, count_none}
use Rattle.hs_audit.specs.Rereading.{HasGivenUp, IsTakenOf, viewing_at}
use Rattle.hs_limits.specs.Shape.{peer_of}
use Rattle.hs_memory.specs.Forget.{apply_all}
use Rattle.hs_peerlog.specs.Views.{Viewing}
use Rattle.hs_shard.specs.Facts.{empty_catalogue}
use Rattle.hs_taking.specs.Disks.{DiskSeen, seen_as}
use Rattle.hs_audit.proofs.reading.take_shard.Goals as goal

no_view : (o : Option Viewing) → is_some o ≡ false → o ≡ None
no_view None e = refl
no_view (Some v) e = absurd (not_so e)
  where
    not_so : true ≡ false → ⊥
    not_so e = cc e

pub loop-attempt-init : goal.loop-attempt-init
loop-attempt-init g c =
    let f : g.row.D.Denot → DiskSeen = λ disk. seen_as (g.D.Disk.size disk) (g.D.Disk.stands disk) (g.D.Disk.faults disk) in
    let n : ℕ = c.args.shape.shards * c.args.shape.copies in
    let most = count_most (λ peer. is_some (viewing_at c.args.views.now peer)) (peer_of c.args.shape c.args.shard 0) c.args.shape.copies in
    record {
      views = c.requires.viewed;
      still = all_still g.D.Disk.tells n (map f c.args.disks.now);
      reread = all_reread g.D.Disk.tells n (map f c.args.disks.now) c.args.views.now;
      others = λ peer apart. refl;
      left = omega (arith, most);
      same_views = refl;
      same_count = refl;
    }

pub take_best-requires-clause-viewed : goal.take_best-requires-clause-viewed
take_best-requires-clause-viewed g c = c.loop-attempt.invariant.views

pub loop-attempt-preserved : goal.loop-attempt-preserved
loop-attempt-preserved g c =
    let f : g.row.D.Denot → DiskSeen = λ disk. seen_as (g.D.Disk.size disk) (g.D.Disk.stands disk) (g.D.Disk.faults disk) in
    let n : ℕ = c.args.shape.shards * c.args.shape.copies in
    let inv = c.loop-attempt.invariant in
    let a : List DiskSeen = map f c.args.disks.now in
    let b : List DiskSeen = map f c.loop-attempt.disks in
    let z : List DiskSeen = map f c.take_best.new.disks in
    let u : List (Option Viewing) = c.loop-attempt.views in
    let v : List (Option Viewing) = c.take_best.new.views in
    let step = c.in-Ok-None.ensures.reread refl in
    let gone : HasGivenUp c.args.shape c.args.shard u v = c.in-Ok-None.ensures.given_up c.in-Ok-None.field-0-is in
    let first : ℕ = peer_of c.args.shape c.args.shard 0 in
    let less = count_less (λ peer. is_some (viewing_at u peer)) (λ peer. is_some (viewing_at v peer)) first c.args.shape.copies (peer_of c.args.shape c.args.shard gone.copy)
    (omega arith) (let w = gone.within in omega (arith, w)) gone.had (ap (λ (o : Option Viewing). is_some o) gone.gone) (λ k differs. ap (λ (o : Option Viewing). is_some o) (gone.others k differs)) in
    record {
      views = views_stay g.D.Disk.tells c.args.shape b z u v c.take_best.ensures.still step inv.views;
      still = all_still_then g.D.Disk.tells n a b z inv.still c.take_best.ensures.still;
      reread = all_reread_then g.D.Disk.tells n a b z c.args.views.now u v c.take_best.ensures.still inv.reread step;
      others = λ peer apart. c.take_best.ensures.others peer apart ∙ inv.others peer apart;
      left = let l = inv.left in omega (arith, l, less);
      same_views = c.take_best.ensures.same_views ∙ inv.same_views;
      same_count = c.take_best.ensures.same_count ∙ inv.same_count;
    }

pub returns-in-Ok-Some-clause-taken : goal.returns-in-Ok-Some-clause-taken
returns-in-Ok-Some-clause-taken g c =
    let f : g.row.D.Denot → DiskSeen = λ disk. seen_as (g.D.Disk.size disk) (g.D.Disk.stands disk) (g.D.Disk.faults disk) in
    taken_before g.D.Disk.tells (apply_all (g.A.Addresser.name c.args.naming.now) (empty_catalogue c.args.shape c.args.shard)) c.args.shape (map f c.args.disks.now) (map f c.loop-attempt.disks) c.take_best.new.views c.args.shard c.in-Ok-Some.catalogue
    c.requires.shard c.loop-attempt.invariant.still
    (subst (λ o. IfSome o (IsTakenOf g.D.Disk.tells (apply_all (g.A.Addresser.name c.args.naming.now) (empty_catalogue c.args.shape c.args.shard)) c.args.shape (map f c.loop-attempt.disks) c.take_best.new.views c.args.shard)) c.in-Ok-Some.field-0-is c.in-Ok-Some.ensures.taken)

pub returns-in-Ok-Some-clause-still : goal.returns-in-Ok-Some-clause-still
returns-in-Ok-Some-clause-still g c =
    let f : g.row.D.Denot → DiskSeen = λ disk. seen_as (g.D.Disk.size disk) (g.D.Disk.stands disk) (g.D.Disk.faults disk) in
    all_still_then g.D.Disk.tells (c.args.shape.shards * c.args.shape.copies) (map f c.args.disks.now) (map f c.loop-attempt.disks) (map f c.take_best.new.disks) c.loop-attempt.invariant.still c.take_best.ensures.still

pub returns-in-Ok-Some-clause-reread : goal.returns-in-Ok-Some-clause-reread
returns-in-Ok-Some-clause-reread g c =
    let f : g.row.D.Denot → DiskSeen = λ disk. seen_as (g.D.Disk.size disk) (g.D.Disk.stands disk) (g.D.Disk.faults disk) in
    λ calm. all_reread_then g.D.Disk.tells (c.args.shape.shards * c.args.shape.copies) (map f c.args.disks.now) (map f c.loop-attempt.disks) (map f c.take_best.new.disks) c.args.views.now c.loop-attempt.views c.take_best.new.views
    c.take_best.ensures.still c.loop-attempt.invariant.reread (c.in-Ok-Some.ensures.reread refl)

pub returns-in-Ok-Some-clause-others : goal.returns-in-Ok-Some-clause-others
returns-in-Ok-Some-clause-others g c = λ peer apart. c.take_best.ensures.others peer apart ∙ c.loop-attempt.invariant.others peer apart

pub returns-in-Err-clause-still : goal.returns-in-Err-clause-still
returns-in-Err-clause-still g c =
    let f : g.row.D.Denot → DiskSeen = λ disk. seen_as (g.D.Disk.size disk) (g.D.Disk.stands disk) (g.D.Disk.faults disk) in
    all_still_then g.D.Disk.tells (c.args.shape.shards * c.args.shape.copies) (map f c.args.disks.now) (map f c.loop-attempt.disks) (map f c.take_best.new.disks) c.loop-attempt.invariant.still c.take_best.ensures.still

pub returns-in-Err-clause-reread : goal.returns-in-Err-clause-reread
returns-in-Err-clause-reread g c =
    let f : g.row.D.Denot → DiskSeen = λ disk. seen_as (g.D.Disk.size disk) (g.D.Disk.stands disk) (g.D.Disk.faults disk) in
    λ calm. all_reread_then g.D.Disk.tells (c.args.shape.shards * c.args.shape.copies) (map f c.args.disks.now) (map f c.loop-attempt.disks) (map f c.take_best.new.disks) c.args.views.now c.loop-attempt.views c.take_best.new.views
    c.take_best.ensures.still c.loop-attempt.invariant.reread (c.in-Err.ensures.reread calm)

pub returns-in-Err-clause-others : goal.returns-in-Err-clause-others
returns-in-Err-clause-others g c = λ peer apart. c.take_best.ensures.others peer apart ∙ c.loop-attempt.invariant.others peer apart

pub returns-clause-lost : goal.returns-clause-lost
returns-clause-lost g c =
    let v : List (Option Viewing) = c.loop-attempt.views in
    let first : ℕ = peer_of c.args.shape c.args.shard 0 in
    let left = c.loop-attempt.invariant.left in
    let none : count_from (λ peer. is_some (viewing_at v peer)) first c.args.shape.copies ≡ 0 = omega (arith, left, c.loop-attempt-test.false) in (
      refl,
      λ copy small. no_view (viewing_at v (peer_of c.args.shape c.args.shard copy))
          (count_none (λ peer. is_some (viewing_at v peer)) first c.args.shape.copies none (peer_of c.args.shape c.args.shard copy) (omega arith) (omega (arith, small))),
    )
