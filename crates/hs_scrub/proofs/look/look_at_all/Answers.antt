use Rattle.std.proofs.Common.{◌≡◌, ◌∙◌, ◌+◌, ◌*◌, ◌++◌, ◌∷◌, ◌<◌, [], ℕ, List, ap, arith, length, map, refl, subst, sym}
use Rattle.std.proofs.lemmas.Grind.{common_steps}
use Rattle.std.specs.Prelude.{slice_index_or, slice_set}
use Rattle.hs_peerlog.proofs.ImageLemmas.{Since}
use Rattle.hs_scrub.proofs.LookLemmas.{looked_more, none_looked, other_found}
use Rattle.hs_scrub.specs.Steps.{AreLooked, IsLooked, IsOtherAt}
use Rattle.hs_taking.proofs.DiskLemmas.{seen_each}
use Rattle.hs_taking.proofs.ViewLemmas.{AreRead, none_read, read_more}
use Rattle.hs_taking.specs.Disks.{DiskSeen, seen_as}
use Rattle.hs_scrub.proofs.look.look_at_all.Goals as goal

pub loop-peer-init : goal.loop-peer-init
loop-peer-init g c =
    let f : g.row.D.Denot → DiskSeen = λ disk. seen_as (g.D.Disk.size disk) (g.D.Disk.stands disk) (g.D.Disk.faults disk) in
    let old : List DiskSeen = map f c.args.disks.now in
    record {
      read = none_read g.D.Disk.tells c.args.watch.now (length c.args.disks.now) old
          (λ peer low told. seen_each (λ (s : DiskSeen). Since s.stands) f (λ x side m high. g.met.D.Disk.since told x side m high) c.args.disks.now peer low);
      looked = none_looked g.D.Disk.tells c.args.shape old old c.new-views.result.items c.new-marks.result.items;
      views = ap length c.new-views.ensures.items;
      marks = ap length c.new-marks.ensures.items;
      count = refl;
      ticks = omega arith;
    }

pub loop-peer-preserved : goal.loop-peer-preserved
loop-peer-preserved g c =
    let f : g.row.D.Denot → DiskSeen = λ disk. seen_as (g.D.Disk.size disk) (g.D.Disk.stands disk) (g.D.Disk.faults disk) in
    let old : List DiskSeen = map f c.args.disks.now in
    let inv = c.loop-peer.invariant in
    let i : ℕ = c.from-place.result in
    let total : ℕ = length c.args.disks.now in
    let e : c.from-place.result ≡ c.loop-peer.peer = c.from-place.ensures in
    let low : c.from-place.result < length c.loop-peer.disks = grind (arith, common_steps) in
    let d = c.index-disks-place.result in
    let x = c.look_at.new.disk in
    let read : AreRead g.D.Disk.tells c.args.watch.now c.loop-peer.watch old (map f c.loop-peer.disks) i total = subst (λ n. AreRead g.D.Disk.tells c.args.watch.now c.loop-peer.watch old (map f c.loop-peer.disks) n total) (sym e) inv.read in
    let so_far : AreLooked g.D.Disk.tells c.args.shape old (map f c.loop-peer.disks) c.loop-peer.views.items c.loop-peer.marks.items i = subst (λ n. AreLooked g.D.Disk.tells c.args.shape old (map f c.loop-peer.disks) c.loop-peer.views.items c.loop-peer.marks.items n) (sym e) inv.looked in
    let one : IsLooked g.D.Disk.tells c.args.shape i (f (slice_index_or c.loop-peer.disks i d)) (f x) c.in-Ok.look.view c.in-Ok.look.mark = subst (λ n. IsLooked g.D.Disk.tells c.args.shape n (f (slice_index_or c.loop-peer.disks i d)) (f x) c.in-Ok.look.view c.in-Ok.look.mark) (sym e) c.in-Ok.ensures.looked in
    let views : c.push.new.self.items ≡ c.loop-peer.views.items ++ c.in-Ok.look.view ∷ [] = grind (arith, common_steps) in
    let marks : c.push-in-loop-peer.new.self.items ≡ c.loop-peer.marks.items ++ c.in-Ok.look.mark ∷ [] = grind (arith, common_steps) in
    let count : length c.loop-peer.views.items ≡ i = inv.views ∙ sym e in
    let many : length c.loop-peer.marks.items ≡ i = inv.marks ∙ sym e in
    let after = read_more f g.D.Disk.tells c.args.shape c.args.watch.now c.loop-peer.watch c.look_at.new.watch old c.loop-peer.disks i total x d low read c.look_at.ensures.ticks c.look_at.ensures.read in
    let more = looked_more f g.D.Disk.tells c.args.shape c.args.watch.now c.loop-peer.watch old c.loop-peer.disks i total x d low read c.loop-peer.views.items c.loop-peer.marks.items so_far c.in-Ok.look.view c.in-Ok.look.mark count many one in
    record {
      read = subst (λ n. AreRead g.D.Disk.tells c.args.watch.now c.look_at.new.watch old (map f (slice_set c.loop-peer.disks i x)) (n + 1) total) e after;
      looked = subst (λ n. AreLooked g.D.Disk.tells c.args.shape old (map f (slice_set c.loop-peer.disks i x)) c.push.new.self.items c.push-in-loop-peer.new.self.items (n + 1)) e
          (subst (λ vs. AreLooked g.D.Disk.tells c.args.shape old (map f (slice_set c.loop-peer.disks i x)) vs c.push-in-loop-peer.new.self.items (i + 1)) (sym views)
          (subst (λ ms. AreLooked g.D.Disk.tells c.args.shape old (map f (slice_set c.loop-peer.disks i x)) (c.loop-peer.views.items ++ c.in-Ok.look.view ∷ []) ms (i + 1)) (sym marks) more));
      views = grind (arith, common_steps, views);
      marks = grind (arith, common_steps, marks);
      count = grind (arith, common_steps);
      ticks = omega (arith, inv.ticks, c.look_at.ensures.ticks);
    }

pub returns-in-Err-clause-other : goal.returns-in-Err-clause-other
returns-in-Err-clause-other g c =
    let f : g.row.D.Denot → DiskSeen = λ disk. seen_as (g.D.Disk.size disk) (g.D.Disk.stands disk) (g.D.Disk.faults disk) in
    let old : List DiskSeen = map f c.args.disks.now in
    let inv = c.loop-peer.invariant in
    let i : ℕ = c.from-place.result in
    let total : ℕ = length c.args.disks.now in
    let e : c.from-place.result ≡ c.loop-peer.peer = c.from-place.ensures in
    let low : c.from-place.result < length c.loop-peer.disks = grind (arith, common_steps) in
    let within = subst (λ n. n < c.args.shape.shards * c.args.shape.copies) (sym e) c.loop-peer-test.true in
    let d = c.index-disks-place.result in
    let x = c.look_at.new.disk in
    let read : AreRead g.D.Disk.tells c.args.watch.now c.loop-peer.watch old (map f c.loop-peer.disks) i total = subst (λ n. AreRead g.D.Disk.tells c.args.watch.now c.loop-peer.watch old (map f c.loop-peer.disks) n total) (sym e) inv.read in
    let so_far : AreLooked g.D.Disk.tells c.args.shape old (map f c.loop-peer.disks) c.loop-peer.views.items c.loop-peer.marks.items i = subst (λ n. AreLooked g.D.Disk.tells c.args.shape old (map f c.loop-peer.disks) c.loop-peer.views.items c.loop-peer.marks.items n) (sym e) inv.looked in
    let is = subst (λ n. IsOtherAt g.D.Disk.tells c.args.shape n (f (slice_index_or c.loop-peer.disks i d)) (f x) c.in-Err.fault) (sym e) c.in-Err.ensures.other in
    other_found f g.D.Disk.tells c.args.shape c.args.watch.now c.loop-peer.watch old c.loop-peer.disks i total x d low read c.loop-peer.views.items c.loop-peer.marks.items so_far c.in-Err.fault within is

pub returns-in-Err-clause-read : goal.returns-in-Err-clause-read
returns-in-Err-clause-read g c =
    let f : g.row.D.Denot → DiskSeen = λ disk. seen_as (g.D.Disk.size disk) (g.D.Disk.stands disk) (g.D.Disk.faults disk) in
    let old : List DiskSeen = map f c.args.disks.now in
    let i : ℕ = c.from-place.result in
    let total : ℕ = length c.args.disks.now in
    let e : c.from-place.result ≡ c.loop-peer.peer = c.from-place.ensures in
    let low : c.from-place.result < length c.loop-peer.disks = grind (arith, common_steps) in
    let read : AreRead g.D.Disk.tells c.args.watch.now c.loop-peer.watch old (map f c.loop-peer.disks) i total = subst (λ n. AreRead g.D.Disk.tells c.args.watch.now c.loop-peer.watch old (map f c.loop-peer.disks) n total) (sym e) c.loop-peer.invariant.read in
    (read_more f g.D.Disk.tells c.args.shape c.args.watch.now c.loop-peer.watch c.look_at.new.watch old c.loop-peer.disks i total c.look_at.new.disk c.index-disks-place.result low read c.look_at.ensures.ticks c.look_at.ensures.read).read

pub returns-then-is_err-clause-read : goal.returns-then-is_err-clause-read
returns-then-is_err-clause-read g c =
    let f : g.row.D.Denot → DiskSeen = λ disk. seen_as (g.D.Disk.size disk) (g.D.Disk.stands disk) (g.D.Disk.faults disk) in
    let old : List DiskSeen = map f c.args.disks.now in
    let i : ℕ = c.from-place.result in
    let total : ℕ = length c.args.disks.now in
    let e : c.from-place.result ≡ c.loop-peer.peer = c.from-place.ensures in
    let low : c.from-place.result < length c.loop-peer.disks = grind (arith, common_steps) in
    let read : AreRead g.D.Disk.tells c.args.watch.now c.loop-peer.watch old (map f c.loop-peer.disks) i total = subst (λ n. AreRead g.D.Disk.tells c.args.watch.now c.loop-peer.watch old (map f c.loop-peer.disks) n total) (sym e) c.loop-peer.invariant.read in
    (read_more f g.D.Disk.tells c.args.shape c.args.watch.now c.loop-peer.watch c.look_at.new.watch old c.loop-peer.disks i total c.look_at.new.disk c.index-disks-place.result low read c.look_at.ensures.ticks c.look_at.ensures.read).read

pub returns-then-is_err-2-clause-read : goal.returns-then-is_err-2-clause-read
returns-then-is_err-2-clause-read g c =
    let f : g.row.D.Denot → DiskSeen = λ disk. seen_as (g.D.Disk.size disk) (g.D.Disk.stands disk) (g.D.Disk.faults disk) in
    let old : List DiskSeen = map f c.args.disks.now in
    let i : ℕ = c.from-place.result in
    let total : ℕ = length c.args.disks.now in
    let e : c.from-place.result ≡ c.loop-peer.peer = c.from-place.ensures in
    let low : c.from-place.result < length c.loop-peer.disks = grind (arith, common_steps) in
    let read : AreRead g.D.Disk.tells c.args.watch.now c.loop-peer.watch old (map f c.loop-peer.disks) i total = subst (λ n. AreRead g.D.Disk.tells c.args.watch.now c.loop-peer.watch old (map f c.loop-peer.disks) n total) (sym e) c.loop-peer.invariant.read in
    (read_more f g.D.Disk.tells c.args.shape c.args.watch.now c.loop-peer.watch c.look_at.new.watch old c.loop-peer.disks i total c.look_at.new.disk c.index-disks-place.result low read c.look_at.ensures.ticks c.look_at.ensures.read).read
