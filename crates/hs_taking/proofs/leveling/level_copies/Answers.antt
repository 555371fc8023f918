use Rattle.std.proofs.Common.{◌≡◌, ◌≢◌, ◌∙◌, ◌+◌, ◌*◌, ◌<◌, ap, sym, subst, ℕ, List, map, length, arith, inl, inr, refl}
use Rattle.std.proofs.lemmas.List.{length-set}
use Rattle.std.specs.Prelude.{slice_set}
use Rattle.hs_limits.specs.Shape.{peer_of}
use Rattle.hs_taking.proofs.ChoiceLemmas.{shard_within}
use Rattle.hs_taking.proofs.DiskLemmas.{seen_since}
use Rattle.hs_taking.proofs.LevelLemmas.{level_more, level_slot, moved_each, none_made, source_ready, still_same}
use Rattle.hs_taking.proofs.StepLemmas.{at_any}
use Rattle.hs_taking.specs.Copies.{IsOf}
use Rattle.hs_taking.specs.declared.slot.Slot.{Slot}
use Rattle.hs_taking.specs.declared.slot.Slot.TheVariants.{Aside}
use Rattle.hs_taking.specs.Disks.{DiskSeen, seen_as, seen_at}
use Rattle.hs_taking.specs.Pairs.{IsStill}
use Rattle.hs_taking.specs.Slots.{AreMade, IsMade, IsMoved, IsSlot, IsSourceOf, IsSourceStep, slot_at}
use Rattle.hs_taking.proofs.HeadLemmas.{owns_set, their_called, their_none}
use Rattle.hs_taking.specs.Evens.{log_of}
use Rattle.hs_taking.specs.Headed.{KeepsItsHeader, OwnsLog}
use Rattle.hs_side.specs.Headers.{own_header}
use Rattle.std.proofs.lemmas.Bool.{cases_eq}
use Rattle.hs_taking.proofs.leveling.level_copies.Goals as goal

pub loop-copy-init : goal.loop-copy-init
loop-copy-init g c =
    let f : g.row.D.Denot → DiskSeen = λ disk. seen_as (g.D.Disk.size disk) (g.D.Disk.stands disk) (g.D.Disk.faults disk) in
    let old : List DiskSeen = map f c.args.disks.now in
    record {
      made = none_made g.D.Disk.tells c.args.shape c.args.shard c.args.from c.args.watch.now old c.args.slots.now.items c.args.source.now;
      ready = c.requires.source;
      count = refl;
      slots = refl;
      own = λ owns. owns;
      headed = their_none g.D.Disk.tells c.args.shape c.args.watch.now old (λ peer told. seen_since f (λ disk side m high. g.met.D.Disk.since told disk side m high) c.args.disks.now peer);
      ticks = omega arith;
    }

pub loop-copy-preserved : goal.loop-copy-preserved
loop-copy-preserved g c =
    let f : g.row.D.Denot → DiskSeen = λ disk. seen_as (g.D.Disk.size disk) (g.D.Disk.stands disk) (g.D.Disk.faults disk) in
    let old : List DiskSeen = map f c.args.disks.now in
    let cur : List DiskSeen = map f c.loop-copy.disks in
    let new : List DiskSeen = map f c.even_copy.new.disks in
    let i : ℕ = c.from-place.result in
    let j : ℕ = c.from.result in
    let slots = c.args.slots.now.items in
    let so_far = c.loop-copy.slots.items in
    let place : i ≡ peer_of c.args.shape c.args.shard c.loop-copy.copy = c.from-place.ensures ∙ c.peer_of-peer.ensures in
    let inv = subst (λ n. AreMade g.D.Disk.tells c.args.shape c.args.shard c.args.from n c.args.watch.now c.loop-copy.watch old cur slots so_far c.args.source.now c.loop-copy.source) (sym place) c.loop-copy.invariant.made in
    let inv' = subst (λ n. AreMade g.D.Disk.tells c.args.shape c.args.shard n i c.args.watch.now c.loop-copy.watch old cur slots so_far c.args.source.now c.loop-copy.source) (sym c.from.ensures) inv in
    let all = shard_within c.args.shape c.args.shard c.requires.shard in
    let total : i < c.args.shape.shards * c.args.shape.copies = omega (arith, all, place, c.loop-copy-test.true) in
    let low : i < length so_far = omega (arith, total, c.loop-copy.invariant.slots, c.requires.slots) in
    let home : IsOf c.args.shape c.args.shard i = record { from = omega (arith, place); to = omega (arith, place, c.loop-copy-test.true) } in
    let from_home = subst (λ n. IsOf c.args.shape c.args.shard n) (sym c.from.ensures) c.requires.from in
    let at = c.index_mut.ensures.value ∙ at_any so_far i c.index_mut.result.now Aside low in
    let step = c.even_copy.ensures in
    let done = c.in-Ok.ensures in
    let is_slot : i ≢ j → IsSlot g.D.Disk.tells c.args.shape i (seen_at old i) (slot_at slots i) = λ differs. c.requires.viewed i home (λ same. differs (same ∙ sym c.from.ensures)) in
    let more = level_more g.D.Disk.tells c.args.shape c.args.shard j i c.args.watch.now c.loop-copy.watch c.even_copy.new.watch old cur new slots so_far c.even_copy.new.slot c.args.source.now c.loop-copy.source c.even_copy.new.source home from_home low
    (ap (λ n. slot_at slots n) c.from.ensures ∙ c.requires.aside) c.loop-copy.invariant.ticks step.ticks
    (λ peer told. seen_since f (λ disk side m high. g.met.D.Disk.since told disk side m high) c.args.disks.now peer) is_slot inv'
    (subst (λ (s : Slot). IsMoved g.D.Disk.tells c.loop-copy.watch c.even_copy.new.watch (seen_at cur i) (seen_at new i) c.loop-copy.source (IsSourceOf c.loop-copy.source (seen_at cur j)) s) at step.moved) step.still step.rest
    (subst (λ (s : Slot). IsMade g.D.Disk.tells c.loop-copy.watch (seen_at cur i) (seen_at new i) c.loop-copy.source c.even_copy.new.source (IsSourceOf c.loop-copy.source (seen_at cur j)) s c.even_copy.new.slot) at done.made) done.source in
    let others : (peer : ℕ) → peer ≢ i → IsStill g.D.Disk.tells (seen_at cur peer) (seen_at new peer) = λ peer differs. elim (cases_eq peer j) [
      | inl same ↦ subst (λ n. IsStill g.D.Disk.tells (seen_at cur n) (seen_at new n)) (sym same) step.still
      | inr other ↦ still_same g.D.Disk.tells (seen_at cur peer) (seen_at new peer) (step.rest peer other differs)
    ] in
    let headed = their_called g.D.Disk.tells c.args.shape c.args.watch.now c.loop-copy.watch c.even_copy.new.watch old cur new i step.ticks c.loop-copy.invariant.headed
    (subst (λ n. KeepsItsHeader g.D.Disk.tells (own_header c.args.shape n) c.loop-copy.watch c.even_copy.new.watch (seen_at cur i) (seen_at new i)) (sym c.from-place.ensures) step.headed) others in
    let next : i + 1 ≡ peer_of c.args.shape c.args.shard (c.loop-copy.copy + 1) = omega (arith, place) in
    record {
      own = λ owns.
          let before = c.loop-copy.invariant.own owns in
          owns_set g.D.Disk.tells c.args.shape so_far i c.even_copy.new.slot low before
          (λ told. subst (λ n. OwnsLog (own_header c.args.shape n) (log_of c.even_copy.new.slot)) (sym c.from-place.ensures) (done.own told (subst (λ n. OwnsLog (own_header c.args.shape n) (log_of c.index_mut.result.now)) c.from-place.ensures (subst (λ (s : Slot). OwnsLog (own_header c.args.shape i) (log_of s)) (sym at) (before.each told i)))));
      headed = headed;
      made = subst (λ n. AreMade g.D.Disk.tells c.args.shape c.args.shard c.args.from n c.args.watch.now c.even_copy.new.watch old new slots (slice_set so_far i c.even_copy.new.slot) c.args.source.now c.even_copy.new.source) next
          (subst (λ n. AreMade g.D.Disk.tells c.args.shape c.args.shard n (i + 1) c.args.watch.now c.even_copy.new.watch old new slots (slice_set so_far i c.even_copy.new.slot) c.args.source.now c.even_copy.new.source) c.from.ensures more);
      ready = source_ready g.D.Disk.tells c.even_copy.new.watch (seen_at cur c.args.from) (seen_at new c.args.from) c.loop-copy.source c.even_copy.new.source
          (subst (λ n. IsStill g.D.Disk.tells (seen_at cur n) (seen_at new n)) c.from.ensures step.still) (subst (λ n. IsSourceStep g.D.Disk.tells c.even_copy.new.watch (seen_at cur n) (seen_at new n) c.loop-copy.source c.even_copy.new.source) c.from.ensures done.source) c.loop-copy.invariant.ready;
      count = step.count ∙ c.loop-copy.invariant.count;
      slots = length-set so_far i c.even_copy.new.slot ∙ c.loop-copy.invariant.slots;
      ticks = omega (arith, c.loop-copy.invariant.ticks, step.ticks);
    }

pub returns-in-Err-clause-moved : goal.returns-in-Err-clause-moved
returns-in-Err-clause-moved g c = λ peer of differs.
    let f : g.row.D.Denot → DiskSeen = λ disk. seen_as (g.D.Disk.size disk) (g.D.Disk.stands disk) (g.D.Disk.faults disk) in
    let old : List DiskSeen = map f c.args.disks.now in
    let cur : List DiskSeen = map f c.loop-copy.disks in
    let new : List DiskSeen = map f c.even_copy.new.disks in
    let i : ℕ = c.from-place.result in
    let j : ℕ = c.from.result in
    let slots = c.args.slots.now.items in
    let so_far = c.loop-copy.slots.items in
    let place : i ≡ peer_of c.args.shape c.args.shard c.loop-copy.copy = c.from-place.ensures ∙ c.peer_of-peer.ensures in
    let inv = subst (λ n. AreMade g.D.Disk.tells c.args.shape c.args.shard c.args.from n c.args.watch.now c.loop-copy.watch old cur slots so_far c.args.source.now c.loop-copy.source) (sym place) c.loop-copy.invariant.made in
    let inv' = subst (λ n. AreMade g.D.Disk.tells c.args.shape c.args.shard n i c.args.watch.now c.loop-copy.watch old cur slots so_far c.args.source.now c.loop-copy.source) (sym c.from.ensures) inv in
    let all = shard_within c.args.shape c.args.shard c.requires.shard in
    let total : i < c.args.shape.shards * c.args.shape.copies = omega (arith, all, place, c.loop-copy-test.true) in
    let low : i < length so_far = omega (arith, total, c.loop-copy.invariant.slots, c.requires.slots) in
    let home : IsOf c.args.shape c.args.shard i = record { from = omega (arith, place); to = omega (arith, place, c.loop-copy-test.true) } in
    let from_home = subst (λ n. IsOf c.args.shape c.args.shard n) (sym c.from.ensures) c.requires.from in
    let at = c.index_mut.ensures.value ∙ at_any so_far i c.index_mut.result.now Aside low in
    let step = c.even_copy.ensures in
    let is_slot : i ≢ j → IsSlot g.D.Disk.tells c.args.shape i (seen_at old i) (slot_at slots i) = λ other. c.requires.viewed i home (λ same. other (same ∙ sym c.from.ensures)) in
    subst (λ n. IsMoved g.D.Disk.tells c.args.watch.now c.even_copy.new.watch (seen_at old peer) (seen_at new peer) c.args.source.now (IsSourceOf c.args.source.now (seen_at old n)) (slot_at slots peer)) c.from.ensures
    (moved_each g.D.Disk.tells c.args.shape c.args.shard j i c.args.watch.now c.loop-copy.watch c.even_copy.new.watch old cur new slots so_far c.even_copy.new.slot c.args.source.now c.loop-copy.source c.even_copy.new.source home from_home low
    (ap (λ n. slot_at slots n) c.from.ensures ∙ c.requires.aside) c.loop-copy.invariant.ticks step.ticks
    (λ peer told. seen_since f (λ disk side m high. g.met.D.Disk.since told disk side m high) c.args.disks.now peer) is_slot inv'
    (subst (λ (s : Slot). IsMoved g.D.Disk.tells c.loop-copy.watch c.even_copy.new.watch (seen_at cur i) (seen_at new i) c.loop-copy.source (IsSourceOf c.loop-copy.source (seen_at cur j)) s) at step.moved) step.still step.rest
    peer of (λ same. differs (same ∙ c.from.ensures)) (c.requires.viewed peer of differs))

pub even_copy-requires-clause-viewed : goal.even_copy-requires-clause-viewed
even_copy-requires-clause-viewed g c = λ differs.
    let f : g.row.D.Denot → DiskSeen = λ disk. seen_as (g.D.Disk.size disk) (g.D.Disk.stands disk) (g.D.Disk.faults disk) in
    let old : List DiskSeen = map f c.args.disks.now in
    let cur : List DiskSeen = map f c.loop-copy.disks in
    let i : ℕ = c.from-place.result in
    let slots = c.args.slots.now.items in
    let so_far = c.loop-copy.slots.items in
    let place : i ≡ peer_of c.args.shape c.args.shard c.loop-copy.copy = c.from-place.ensures ∙ c.peer_of-peer.ensures in
    let inv = subst (λ n. AreMade g.D.Disk.tells c.args.shape c.args.shard c.args.from n c.args.watch.now c.loop-copy.watch old cur slots so_far c.args.source.now c.loop-copy.source) (sym place) c.loop-copy.invariant.made in
    let all = shard_within c.args.shape c.args.shard c.requires.shard in
    let total : i < c.args.shape.shards * c.args.shape.copies = omega (arith, all, place, c.loop-copy-test.true) in
    let low : i < length so_far = omega (arith, total, c.loop-copy.invariant.slots, c.requires.slots) in
    let home : IsOf c.args.shape c.args.shard i = record { from = omega (arith, place); to = omega (arith, place, c.loop-copy-test.true) } in
    let apart : i ≢ c.args.from = λ same. differs (same ∙ sym c.from.ensures) in
    let at = c.index_mut.ensures.value ∙ at_any so_far i c.index_mut.result.now Aside low in
    subst (λ n. IsSlot g.D.Disk.tells c.args.shape n (seen_at cur i) c.index_mut.result.now) c.from-place.ensures
    (level_slot g.D.Disk.tells c.args.shape c.args.shard c.args.from i c.args.watch.now c.loop-copy.watch old cur slots so_far c.args.source.now c.loop-copy.source c.index_mut.result.now inv at apart (c.requires.viewed i home apart))

pub returns-in-Err-clause-headed : goal.returns-in-Err-clause-headed
returns-in-Err-clause-headed g c =
    let f : g.row.D.Denot → DiskSeen = λ disk. seen_as (g.D.Disk.size disk) (g.D.Disk.stands disk) (g.D.Disk.faults disk) in
    let old : List DiskSeen = map f c.args.disks.now in
    let cur : List DiskSeen = map f c.loop-copy.disks in
    let new : List DiskSeen = map f c.even_copy.new.disks in
    let i : ℕ = c.from-place.result in
    let j : ℕ = c.from.result in
    let step = c.even_copy.ensures in
    let others : (peer : ℕ) → peer ≢ i → IsStill g.D.Disk.tells (seen_at cur peer) (seen_at new peer) = λ peer differs. elim (cases_eq peer j) [
      | inl same ↦ subst (λ n. IsStill g.D.Disk.tells (seen_at cur n) (seen_at new n)) (sym same) step.still
      | inr other ↦ still_same g.D.Disk.tells (seen_at cur peer) (seen_at new peer) (step.rest peer other differs)
    ] in
    let headed = their_called g.D.Disk.tells c.args.shape c.args.watch.now c.loop-copy.watch c.even_copy.new.watch old cur new i step.ticks c.loop-copy.invariant.headed
    (subst (λ n. KeepsItsHeader g.D.Disk.tells (own_header c.args.shape n) c.loop-copy.watch c.even_copy.new.watch (seen_at cur i) (seen_at new i)) (sym c.from-place.ensures) step.headed) others in
    headed
