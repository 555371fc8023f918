use Rattle.std.proofs.Common.{◌≡◌, ◌∙◌, ◌+◌, ◌*◌, ◌<◌, ap, sym, subst, ℕ, List, map, length, arith}
use Rattle.std.proofs.lemmas.List.{length-set}
use Rattle.std.specs.Prelude.{slice_set}
use Rattle.hs_limits.specs.Shape.{peer_of}
use Rattle.hs_taking.proofs.ChoiceLemmas.{shard_within}
use Rattle.hs_taking.proofs.SortLemmas.{sort_more, sort_viewed}
use Rattle.hs_taking.proofs.StepLemmas.{at_any}
use Rattle.hs_taking.specs.Copies.{IsOf}
use Rattle.hs_taking.specs.declared.slot.Slot.{Slot}
use Rattle.hs_taking.specs.declared.slot.Slot.TheVariants.{Aside}
use Rattle.hs_taking.specs.Disks.{DiskSeen, seen_as, seen_at}
use Rattle.hs_taking.specs.Slots.{AreSorted, IsSorted, slot_at}
use Rattle.hs_taking.proofs.copies.compare_copies.Goals as goal

pub compare_copy-requires-clause-viewed : goal.compare_copy-requires-clause-viewed
compare_copy-requires-clause-viewed g c =
    let f : g.row.D.Denot → DiskSeen = λ disk. seen_as (g.D.Disk.size disk) (g.D.Disk.stands disk) (g.D.Disk.faults disk) in
    let old : List DiskSeen = map f c.args.disks.now in
    let now : List DiskSeen = map f c.loop-copy.disks in
    let place : c.from-place.result ≡ peer_of c.args.shape c.args.shard c.loop-copy.copy = c.from-place.ensures ∙ c.peer_of.ensures in
    let inv = subst (λ n. AreSorted g.D.Disk.tells c.args.shape c.args.shard c.args.from n old now c.args.slots.now.items c.loop-copy.slots.items c.loop-copy.lost) (sym place) c.loop-copy.invariant.sorted in
    let all = shard_within c.args.shape c.args.shard c.requires.shard in
    let total : c.from-place.result < c.args.shape.shards * c.args.shape.copies = omega (arith, all, place, c.loop-copy-test.true) in
    let low : c.from-place.result < length c.loop-copy.slots.items = omega (arith, total, c.loop-copy.invariant.slots, c.requires.slots) in
    let home : IsOf c.args.shape c.args.shard c.from-place.result = record { from = omega (arith, place); to = omega (arith, place, c.loop-copy-test.true) } in
    sort_viewed g.D.Disk.tells c.args.shape c.args.shard c.args.from c.from-place.result old now c.args.slots.now.items c.loop-copy.slots.items c.loop-copy.lost c.index_mut.result.now inv
    (c.index_mut.ensures.value ∙ at_any c.loop-copy.slots.items c.from-place.result c.index_mut.result.now Aside low) (c.requires.viewed c.from-place.result home)

pub loop-copy-preserved : goal.loop-copy-preserved
loop-copy-preserved g c =
    let f : g.row.D.Denot → DiskSeen = λ disk. seen_as (g.D.Disk.size disk) (g.D.Disk.stands disk) (g.D.Disk.faults disk) in
    let old : List DiskSeen = map f c.args.disks.now in
    let now : List DiskSeen = map f c.loop-copy.disks in
    let new : List DiskSeen = map f c.compare_copy.new.disks in
    let i : ℕ = c.from-place.result in
    let j : ℕ = c.from.result in
    let place : i ≡ peer_of c.args.shape c.args.shard c.loop-copy.copy = c.from-place.ensures ∙ c.peer_of.ensures in
    let inv = subst (λ n. AreSorted g.D.Disk.tells c.args.shape c.args.shard c.args.from n old now c.args.slots.now.items c.loop-copy.slots.items c.loop-copy.lost) (sym place) c.loop-copy.invariant.sorted in
    let inv' = subst (λ n. AreSorted g.D.Disk.tells c.args.shape c.args.shard n i old now c.args.slots.now.items c.loop-copy.slots.items c.loop-copy.lost) (sym c.from.ensures) inv in
    let all = shard_within c.args.shape c.args.shard c.requires.shard in
    let total : i < c.args.shape.shards * c.args.shape.copies = omega (arith, all, place, c.loop-copy-test.true) in
    let low : i < length c.loop-copy.slots.items = omega (arith, total, c.loop-copy.invariant.slots, c.requires.slots) in
    let home : IsOf c.args.shape c.args.shard i = record { from = omega (arith, place); to = omega (arith, place, c.loop-copy-test.true) } in
    let at = c.index_mut.ensures.value ∙ at_any c.loop-copy.slots.items i c.index_mut.result.now Aside low in
    let step = c.compare_copy.ensures in
    let done = c.in-Ok.ensures in
    let more = sort_more g.D.Disk.tells c.args.shape c.args.shard j i old now new c.args.slots.now.items c.loop-copy.slots.items c.compare_copy.new.slot c.loop-copy.lost c.compare_copy.new.lost home (subst (λ n. IsOf c.args.shape c.args.shard n) (sym c.from.ensures) c.requires.from) low
    (ap (λ n. slot_at c.args.slots.now.items n) c.from.ensures ∙ c.requires.aside) inv'
    (subst (λ (s : Slot). IsSorted g.D.Disk.tells (seen_at now j) (seen_at now i) (seen_at new i) c.compare_copy.new.lost s c.compare_copy.new.slot) at done.sorted) done.tried step.source step.disk step.rest in
    let next : i + 1 ≡ peer_of c.args.shape c.args.shard (c.loop-copy.copy + 1) = omega (arith, place) in
    record {
      sorted = subst (λ n. AreSorted g.D.Disk.tells c.args.shape c.args.shard c.args.from n old new c.args.slots.now.items (slice_set c.loop-copy.slots.items i c.compare_copy.new.slot) c.compare_copy.new.lost) next (subst (λ n. AreSorted g.D.Disk.tells c.args.shape c.args.shard n (i + 1) old new c.args.slots.now.items (slice_set c.loop-copy.slots.items i c.compare_copy.new.slot) c.compare_copy.new.lost) c.from.ensures more);
      count = step.count ∙ c.loop-copy.invariant.count;
      slots = length-set c.loop-copy.slots.items i c.compare_copy.new.slot ∙ c.loop-copy.invariant.slots;
    }
