use Rattle.std.proofs.Common.{◌≡◌, ◌∙◌, ◌+◌, ◌*◌, ◌++◌, ◌∷◌, ◌<◌, [], ℕ, List, Option, ap, arith, length, map, refl, subst, sym}
use Rattle.std.proofs.lemmas.Grind.{common_steps}
use Rattle.std.specs.Prelude.{slice_index_or, slice_set}
use Rattle.hs_peerlog.proofs.ImageLemmas.{Since}
use Rattle.hs_peerlog.specs.Views.{Viewing}
use Rattle.hs_taking.proofs.DiskLemmas.{seen_each}
use Rattle.hs_taking.proofs.ViewLemmas.{AreRead, AreViewed, none_read, none_viewed, other_found, read_more, view_more}
use Rattle.hs_taking.specs.Disks.{DiskSeen, seen_as}
use Rattle.hs_taking.specs.Viewed.{IsOtherAt, IsViewed}
use Rattle.hs_taking.proofs.viewing.view_all.Goals as goal

pub loop-peer-init : goal.loop-peer-init
loop-peer-init g c =
    let f : g.row.D.Denot → DiskSeen = λ disk. seen_as (g.D.Disk.size disk) (g.D.Disk.stands disk) (g.D.Disk.faults disk) in
    let old : List DiskSeen = map f c.args.disks.now in
    record {
      read = none_read g.D.Disk.tells c.args.watch.now (length c.args.disks.now) old
          (λ peer low told. seen_each (λ (s : DiskSeen). Since s.stands) f (λ x side m high. g.met.D.Disk.since told x side m high) c.args.disks.now peer low);
      viewed = subst (λ vs. AreViewed g.D.Disk.tells c.args.shape old old vs) (sym c.new-views.ensures.items) (none_viewed g.D.Disk.tells c.args.shape old old);
      views = ap (λ (vs : List (Option Viewing)). length vs) c.new-views.ensures.items;
      count = refl;
      ticks = omega arith;
    }

pub loop-peer-preserved : goal.loop-peer-preserved
loop-peer-preserved g c =
    let f : g.row.D.Denot → DiskSeen = λ disk. seen_as (g.D.Disk.size disk) (g.D.Disk.stands disk) (g.D.Disk.faults disk) in
    let old : List DiskSeen = map f c.args.disks.now in
    let inv = c.loop-peer.invariant in
    let i : ℕ = c.from-place.result in
    let total : ℕ = length c.args.disks.now in
    let e : c.from-place.result ≡ c.loop-peer.peer = c.from-place.ensures in
    let low : c.from-place.result < length c.loop-peer.disks = grind (arith, common_steps) in
    let d = c.index-disks-place.result in
    let x = c.view_one.new.disk in
    let read : AreRead g.D.Disk.tells c.args.watch.now c.loop-peer.watch old (map f c.loop-peer.disks) i total = subst (λ n. AreRead g.D.Disk.tells c.args.watch.now c.loop-peer.watch old (map f c.loop-peer.disks) n total) (sym e) inv.read in
    let one : IsViewed g.D.Disk.tells c.args.shape i (f (slice_index_or c.loop-peer.disks i d)) (f x) c.in-Ok.view = subst (λ n. IsViewed g.D.Disk.tells c.args.shape n (f (slice_index_or c.loop-peer.disks i d)) (f x) c.in-Ok.view) (sym e) c.in-Ok.ensures.viewed in
    let items : c.push.new.self.items ≡ c.loop-peer.views.items ++ c.in-Ok.view ∷ [] = grind (arith, common_steps) in
    let count : length c.loop-peer.views.items ≡ i = inv.views ∙ sym e in
    let after = read_more f g.D.Disk.tells c.args.shape c.args.watch.now c.loop-peer.watch c.view_one.new.watch old c.loop-peer.disks i total x d low read c.view_one.ensures.ticks c.view_one.ensures.read in
    record {
      read = subst (λ n. AreRead g.D.Disk.tells c.args.watch.now c.view_one.new.watch old (map f (slice_set c.loop-peer.disks i x)) (n + 1) total) e after;
      viewed = subst (λ vs. AreViewed g.D.Disk.tells c.args.shape old (map f (slice_set c.loop-peer.disks i x)) vs) (sym items)
          (view_more f g.D.Disk.tells c.args.shape c.args.watch.now c.loop-peer.watch c.view_one.new.watch old c.loop-peer.disks i total x d low c.loop-peer.views.items c.in-Ok.view read inv.viewed count one);
      views = grind (arith, common_steps, items);
      count = grind (arith, common_steps);
      ticks = omega (arith, inv.ticks, c.view_one.ensures.ticks);
    }

pub returns-in-Err-clause-other : goal.returns-in-Err-clause-other
returns-in-Err-clause-other g c =
    let f : g.row.D.Denot → DiskSeen = λ disk. seen_as (g.D.Disk.size disk) (g.D.Disk.stands disk) (g.D.Disk.faults disk) in
    let old : List DiskSeen = map f c.args.disks.now in
    let inv = c.loop-peer.invariant in
    let i : ℕ = c.from-place.result in
    let total : ℕ = length c.args.disks.now in
    let e : c.from-place.result ≡ c.loop-peer.peer = c.from-place.ensures in
    let low : c.from-place.result < length c.loop-peer.disks = grind (arith, common_steps) in
    let within = subst (λ n. n < c.args.shape.shards * c.args.shape.copies) (sym e) c.loop-peer-test.true in
    let d = c.index-disks-place.result in
    let x = c.view_one.new.disk in
    let read : AreRead g.D.Disk.tells c.args.watch.now c.loop-peer.watch old (map f c.loop-peer.disks) i total = subst (λ n. AreRead g.D.Disk.tells c.args.watch.now c.loop-peer.watch old (map f c.loop-peer.disks) n total) (sym e) inv.read in
    let is = subst (λ n. IsOtherAt g.D.Disk.tells c.args.shape n (f (slice_index_or c.loop-peer.disks i d)) (f x) c.in-Err.fault) (sym e) c.in-Err.ensures.other in
    other_found f g.D.Disk.tells c.args.shape c.args.watch.now c.loop-peer.watch c.view_one.new.watch old c.loop-peer.disks i total x d low c.loop-peer.views.items c.in-Err.fault read inv.viewed (inv.views ∙ sym e) within is

pub returns-in-Err-clause-read : goal.returns-in-Err-clause-read
returns-in-Err-clause-read g c =
    let f : g.row.D.Denot → DiskSeen = λ disk. seen_as (g.D.Disk.size disk) (g.D.Disk.stands disk) (g.D.Disk.faults disk) in
    let old : List DiskSeen = map f c.args.disks.now in
    let i : ℕ = c.from-place.result in
    let total : ℕ = length c.args.disks.now in
    let e : c.from-place.result ≡ c.loop-peer.peer = c.from-place.ensures in
    let low : c.from-place.result < length c.loop-peer.disks = grind (arith, common_steps) in
    let read : AreRead g.D.Disk.tells c.args.watch.now c.loop-peer.watch old (map f c.loop-peer.disks) i total = subst (λ n. AreRead g.D.Disk.tells c.args.watch.now c.loop-peer.watch old (map f c.loop-peer.disks) n total) (sym e) c.loop-peer.invariant.read in
    (read_more f g.D.Disk.tells c.args.shape c.args.watch.now c.loop-peer.watch c.view_one.new.watch old c.loop-peer.disks i total c.view_one.new.disk c.index-disks-place.result low read c.view_one.ensures.ticks c.view_one.ensures.read).read

pub returns-then-is_err-clause-read : goal.returns-then-is_err-clause-read
returns-then-is_err-clause-read g c =
    let f : g.row.D.Denot → DiskSeen = λ disk. seen_as (g.D.Disk.size disk) (g.D.Disk.stands disk) (g.D.Disk.faults disk) in
    let old : List DiskSeen = map f c.args.disks.now in
    let i : ℕ = c.from-place.result in
    let total : ℕ = length c.args.disks.now in
    let e : c.from-place.result ≡ c.loop-peer.peer = c.from-place.ensures in
    let low : c.from-place.result < length c.loop-peer.disks = grind (arith, common_steps) in
    let read : AreRead g.D.Disk.tells c.args.watch.now c.loop-peer.watch old (map f c.loop-peer.disks) i total = subst (λ n. AreRead g.D.Disk.tells c.args.watch.now c.loop-peer.watch old (map f c.loop-peer.disks) n total) (sym e) c.loop-peer.invariant.read in
    (read_more f g.D.Disk.tells c.args.shape c.args.watch.now c.loop-peer.watch c.view_one.new.watch old c.loop-peer.disks i total c.view_one.new.disk c.index-disks-place.result low read c.view_one.ensures.ticks c.view_one.ensures.read).read
