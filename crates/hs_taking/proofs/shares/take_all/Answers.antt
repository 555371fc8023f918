use Rattle.std.proofs.Common.{◌≡◌, ◌∙◌, ◌*◌, ◌++◌, ◌∷◌, ◌<◌, [], ℕ, List, ap, arith, length, map, refl, subst, sym}
use Rattle.std.proofs.lemmas.Grind.{common_steps}
use Rattle.std.proofs.lemmas.List.{length-map}
use Rattle.std.specs.Option.{option_map}
use Rattle.std.specs.Prelude.{drop, take, unwrap_or}
use Rattle.hs_coldstart.specs.Choose.{choose}
use Rattle.hs_limits.specs.Shape.{peer_of}
use Rattle.hs_fold.specs.Shards.Setting.{Setting}
use Rattle.hs_peerlog.proofs.ImageLemmas.{Since}
use Rattle.hs_peerlog.specs.Views.{Viewing}
use Rattle.hs_taking.proofs.ChoiceLemmas.{shard_within}
use Rattle.hs_taking.proofs.DiskLemmas.{seen_since}
use Rattle.hs_taking.proofs.FirstLemmas.{chosen_home}
use Rattle.hs_taking.proofs.KeepLemmas.{keeps_none}
use Rattle.hs_taking.proofs.MovedLemmas.{moved_since, some_moved}
use Rattle.hs_taking.proofs.RunLemmas.{TakesSome, counted_since, fresh_views, keeps_since, logs_ready, takes_all, takes_more, takes_none, views_stand}
use Rattle.hs_taking.specs.Copies.{IsOf}
use Rattle.hs_taking.specs.declared.shares.Share.{Share}
use Rattle.hs_taking.specs.declared.slot.Slot.{Slot}
use Rattle.hs_taking.specs.Disks.{DiskSeen, seen_as, seen_at}
use Rattle.hs_taking.specs.Evens.{AreMoved, IsFresh, chosen_peer, slot_of, viewed_of, log_of}
use Rattle.hs_taking.specs.Slots.{IsSlot, slot_at}
use Rattle.hs_taking.proofs.HeadLemmas.{owns_logs, owns_views, their_none, their_then}
use Rattle.hs_taking.specs.Headed.{OwnTheirLogs}
use Rattle.hs_taking.proofs.shares.take_all.Goals as goal

pub returns-in_err-ranks-clause-keeps : goal.returns-in_err-ranks-clause-keeps
returns-in_err-ranks-clause-keeps g c =
    let f : g.row.D.Denot → DiskSeen = λ disk. seen_as (g.D.Disk.size disk) (g.D.Disk.stands disk) (g.D.Disk.faults disk) in
    let old : List DiskSeen = map f c.args.disks.now in
    let set : Setting = record { name = g.A.Addresser.name c.args.naming.now; limits = c.args.limits; shape = c.args.shape } in
    let since : (peer : ℕ) → g.D.Disk.tells → Since (seen_at old peer).stands = λ peer told. seen_since f (λ disk side m high. g.met.D.Disk.since told disk side m high) c.args.disks.now peer in
    λ one peer low. keeps_none g.D.Disk.tells c.args.watch.now (seen_at old peer) (since peer)

pub returns-in_err-slots-clause-keeps : goal.returns-in_err-slots-clause-keeps
returns-in_err-slots-clause-keeps g c =
    let f : g.row.D.Denot → DiskSeen = λ disk. seen_as (g.D.Disk.size disk) (g.D.Disk.stands disk) (g.D.Disk.faults disk) in
    let old : List DiskSeen = map f c.args.disks.now in
    let set : Setting = record { name = g.A.Addresser.name c.args.naming.now; limits = c.args.limits; shape = c.args.shape } in
    let since : (peer : ℕ) → g.D.Disk.tells → Since (seen_at old peer).stands = λ peer told. seen_since f (λ disk side m high. g.met.D.Disk.since told disk side m high) c.args.disks.now peer in
    λ one peer low. keeps_none g.D.Disk.tells c.args.watch.now (seen_at old peer) (since peer)

pub loop-shard-init : goal.loop-shard-init
loop-shard-init g c =
    let f : g.row.D.Denot → DiskSeen = λ disk. seen_as (g.D.Disk.size disk) (g.D.Disk.stands disk) (g.D.Disk.faults disk) in
    let old : List DiskSeen = map f c.args.disks.now in
    let set : Setting = record { name = g.A.Addresser.name c.args.naming.now; limits = c.args.limits; shape = c.args.shape } in
    let since : (peer : ℕ) → g.D.Disk.tells → Since (seen_at old peer).stands = λ peer told. seen_since f (λ disk side m high. g.met.D.Disk.since told disk side m high) c.args.disks.now peer in
    let slots : c.in_ok-slots.slots.items ≡ map slot_of c.args.views.items = c.in_ok-slots.ensures in
    record {
      taken = subst (λ xs. TakesSome g.D.Disk.tells set c.args.watch.now c.args.watch.now old old c.args.views.items c.in_ok-slots.slots.items xs) (sym c.new-shares.ensures.items)
          (subst (λ ss. TakesSome g.D.Disk.tells set c.args.watch.now c.args.watch.now old old c.args.views.items ss []) (sym slots) (takes_none g.D.Disk.tells set c.args.watch.now old c.args.views.items since));
      ranks = c.in_ok-ranks.ensures ∙ ap (λ vs. map (λ view. option_map (λ (v : Viewing). v.rank) view) vs) c.as_slice.ensures.value;
      shares = ap (λ (xs : List Share). length xs) c.new-shares.ensures.items;
      slots = ap (λ (xs : List Slot). length xs) slots ∙ length-map c.args.views.items slot_of ∙ c.requires.views;
      count = refl;
      own = subst (λ ss. OwnTheirLogs g.D.Disk.tells c.args.shape (λ p. log_of (slot_at ss p))) (sym slots) (owns_views g.D.Disk.tells c.args.shape c.args.views.items);
      headed = their_none g.D.Disk.tells c.args.shape c.args.watch.now old since;
      ticks = omega arith;
    }

pub take_shard-share-requires-clause-viewed : goal.take_shard-share-requires-clause-viewed
take_shard-share-requires-clause-viewed g c =
    let f : g.row.D.Denot → DiskSeen = λ disk. seen_as (g.D.Disk.size disk) (g.D.Disk.stands disk) (g.D.Disk.faults disk) in
    let old : List DiskSeen = map f c.args.disks.now in
    let set : Setting = record { name = g.A.Addresser.name c.args.naming.now; limits = c.args.limits; shape = c.args.shape } in
    let since : (peer : ℕ) → g.D.Disk.tells → Since (seen_at old peer).stands = λ peer told. seen_since f (λ disk side m high. g.met.D.Disk.since told disk side m high) c.args.disks.now peer in
    let cur : List DiskSeen = map f c.loop-shard.disks in
    let inv = c.loop-shard.invariant in
    let views = c.args.views.items in
    let shard : ℕ = c.loop-shard.shard in
    let low : (peer : ℕ) → IsOf c.args.shape shard peer → peer < c.args.shape.shards * c.args.shape.copies = λ peer of.
    let w = shard_within c.args.shape shard c.loop-shard-test.true in
    let t = of.to in
    omega (arith, w, t) in
    let stand : (peer : ℕ) → peer < c.args.shape.shards * c.args.shape.copies → IsSlot g.D.Disk.tells c.args.shape peer (seen_at old peer) (slot_at (map slot_of views) peer) =
    λ peer less. views_stand g.D.Disk.tells c.args.shape peer (seen_at old peer) views (c.requires.viewed peer less) in
    let rest : (peer : ℕ) → IsOf c.args.shape shard peer → (slot_at c.loop-shard.slots.items peer ≡ slot_at (map slot_of views) peer) × (seen_at cur peer ≡ seen_at old peer) = λ peer of.
    let fr = of.from in
    let same : length c.loop-shard.shares.items * c.args.shape.copies ≡ shard * c.args.shape.copies = ap (λ n. n * c.args.shape.copies) inv.shares in
    inv.taken.rest peer (omega (arith, fr, same)) in
    λ other of. subst (λ (d : DiskSeen). IsSlot g.D.Disk.tells c.args.shape other d (slot_at c.loop-shard.slots.items other)) (sym (rest other of).1)
    (subst (λ (s : Slot). IsSlot g.D.Disk.tells c.args.shape other (seen_at old other) s) (sym (rest other of).0) (stand other (low other of)))

pub take_shard-share-requires-clause-fresh : goal.take_shard-share-requires-clause-fresh
take_shard-share-requires-clause-fresh g c =
    let f : g.row.D.Denot → DiskSeen = λ disk. seen_as (g.D.Disk.size disk) (g.D.Disk.stands disk) (g.D.Disk.faults disk) in
    let old : List DiskSeen = map f c.args.disks.now in
    let set : Setting = record { name = g.A.Addresser.name c.args.naming.now; limits = c.args.limits; shape = c.args.shape } in
    let since : (peer : ℕ) → g.D.Disk.tells → Since (seen_at old peer).stands = λ peer told. seen_since f (λ disk side m high. g.met.D.Disk.since told disk side m high) c.args.disks.now peer in
    let cur : List DiskSeen = map f c.loop-shard.disks in
    let inv = c.loop-shard.invariant in
    let views = c.args.views.items in
    let shard : ℕ = c.loop-shard.shard in
    let low : (peer : ℕ) → IsOf c.args.shape shard peer → peer < c.args.shape.shards * c.args.shape.copies = λ peer of.
    let w = shard_within c.args.shape shard c.loop-shard-test.true in
    let t = of.to in
    omega (arith, w, t) in
    let stand : (peer : ℕ) → peer < c.args.shape.shards * c.args.shape.copies → IsSlot g.D.Disk.tells c.args.shape peer (seen_at old peer) (slot_at (map slot_of views) peer) =
    λ peer less. views_stand g.D.Disk.tells c.args.shape peer (seen_at old peer) views (c.requires.viewed peer less) in
    let rest : (peer : ℕ) → IsOf c.args.shape shard peer → (slot_at c.loop-shard.slots.items peer ≡ slot_at (map slot_of views) peer) × (seen_at cur peer ≡ seen_at old peer) = λ peer of.
    let fr = of.from in
    let same : length c.loop-shard.shares.items * c.args.shape.copies ≡ shard * c.args.shape.copies = ap (λ n. n * c.args.shape.copies) inv.shares in
    inv.taken.rest peer (omega (arith, fr, same)) in
    λ other of. subst (λ (s : Slot). IsFresh s) (sym (rest other of).0) (fresh_views views other)

pub returns-in-Err-clause-counted : goal.returns-in-Err-clause-counted
returns-in-Err-clause-counted g c =
    let f : g.row.D.Denot → DiskSeen = λ disk. seen_as (g.D.Disk.size disk) (g.D.Disk.stands disk) (g.D.Disk.faults disk) in
    let old : List DiskSeen = map f c.args.disks.now in
    let set : Setting = record { name = g.A.Addresser.name c.args.naming.now; limits = c.args.limits; shape = c.args.shape } in
    let since : (peer : ℕ) → g.D.Disk.tells → Since (seen_at old peer).stands = λ peer told. seen_since f (λ disk side m high. g.met.D.Disk.since told disk side m high) c.args.disks.now peer in
    let cur : List DiskSeen = map f c.loop-shard.disks in
    let inv = c.loop-shard.invariant in
    let views = c.args.views.items in
    let shard : ℕ = c.loop-shard.shard in
    let low : (peer : ℕ) → IsOf c.args.shape shard peer → peer < c.args.shape.shards * c.args.shape.copies = λ peer of.
    let w = shard_within c.args.shape shard c.loop-shard-test.true in
    let t = of.to in
    omega (arith, w, t) in
    let stand : (peer : ℕ) → peer < c.args.shape.shards * c.args.shape.copies → IsSlot g.D.Disk.tells c.args.shape peer (seen_at old peer) (slot_at (map slot_of views) peer) =
    λ peer less. views_stand g.D.Disk.tells c.args.shape peer (seen_at old peer) views (c.requires.viewed peer less) in
    let rest : (peer : ℕ) → IsOf c.args.shape shard peer → (slot_at c.loop-shard.slots.items peer ≡ slot_at (map slot_of views) peer) × (seen_at cur peer ≡ seen_at old peer) = λ peer of.
    let fr = of.from in
    let same : length c.loop-shard.shares.items * c.args.shape.copies ≡ shard * c.args.shape.copies = ap (λ n. n * c.args.shape.copies) inv.shares in
    inv.taken.rest peer (omega (arith, fr, same)) in
    let next : List DiskSeen = map f c.take_shard-share.new.disks in
    let home : IsOf c.args.shape shard c.taken_peer-peer.result = record { from = c.taken_peer-peer.ensures.from; to = c.taken_peer-peer.ensures.to } in
    let step = c.take_shard-share.ensures in
    λ peer within. counted_since g.D.Disk.tells set c.args.watch.now c.loop-shard.watch c.take_shard-share.new.watch shard c.taken_peer-peer.result old cur next views c.loop-shard.slots.items c.loop-shard.shares.items inv.shares inv.ticks step.ticks inv.taken home step.moved peer

pub returns-in-Err-clause-keeps : goal.returns-in-Err-clause-keeps
returns-in-Err-clause-keeps g c =
    let f : g.row.D.Denot → DiskSeen = λ disk. seen_as (g.D.Disk.size disk) (g.D.Disk.stands disk) (g.D.Disk.faults disk) in
    let old : List DiskSeen = map f c.args.disks.now in
    let set : Setting = record { name = g.A.Addresser.name c.args.naming.now; limits = c.args.limits; shape = c.args.shape } in
    let since : (peer : ℕ) → g.D.Disk.tells → Since (seen_at old peer).stands = λ peer told. seen_since f (λ disk side m high. g.met.D.Disk.since told disk side m high) c.args.disks.now peer in
    let cur : List DiskSeen = map f c.loop-shard.disks in
    let inv = c.loop-shard.invariant in
    let views = c.args.views.items in
    let shard : ℕ = c.loop-shard.shard in
    let low : (peer : ℕ) → IsOf c.args.shape shard peer → peer < c.args.shape.shards * c.args.shape.copies = λ peer of.
    let w = shard_within c.args.shape shard c.loop-shard-test.true in
    let t = of.to in
    omega (arith, w, t) in
    let stand : (peer : ℕ) → peer < c.args.shape.shards * c.args.shape.copies → IsSlot g.D.Disk.tells c.args.shape peer (seen_at old peer) (slot_at (map slot_of views) peer) =
    λ peer less. views_stand g.D.Disk.tells c.args.shape peer (seen_at old peer) views (c.requires.viewed peer less) in
    let rest : (peer : ℕ) → IsOf c.args.shape shard peer → (slot_at c.loop-shard.slots.items peer ≡ slot_at (map slot_of views) peer) × (seen_at cur peer ≡ seen_at old peer) = λ peer of.
    let fr = of.from in
    let same : length c.loop-shard.shares.items * c.args.shape.copies ≡ shard * c.args.shape.copies = ap (λ n. n * c.args.shape.copies) inv.shares in
    inv.taken.rest peer (omega (arith, fr, same)) in
    let next : List DiskSeen = map f c.take_shard-share.new.disks in
    let home : IsOf c.args.shape shard c.taken_peer-peer.result = record { from = c.taken_peer-peer.ensures.from; to = c.taken_peer-peer.ensures.to } in
    let step = c.take_shard-share.ensures in
    λ one peer within. keeps_since g.D.Disk.tells set c.args.watch.now c.loop-shard.watch c.take_shard-share.new.watch shard c.taken_peer-peer.result old cur next views c.loop-shard.slots.items c.loop-shard.shares.items inv.shares inv.ticks step.ticks inv.taken home step.moved one peer

pub returns-then-is_err-clause-counted : goal.returns-then-is_err-clause-counted
returns-then-is_err-clause-counted g c =
    let f : g.row.D.Denot → DiskSeen = λ disk. seen_as (g.D.Disk.size disk) (g.D.Disk.stands disk) (g.D.Disk.faults disk) in
    let old : List DiskSeen = map f c.args.disks.now in
    let set : Setting = record { name = g.A.Addresser.name c.args.naming.now; limits = c.args.limits; shape = c.args.shape } in
    let since : (peer : ℕ) → g.D.Disk.tells → Since (seen_at old peer).stands = λ peer told. seen_since f (λ disk side m high. g.met.D.Disk.since told disk side m high) c.args.disks.now peer in
    let cur : List DiskSeen = map f c.loop-shard.disks in
    let inv = c.loop-shard.invariant in
    let views = c.args.views.items in
    let shard : ℕ = c.loop-shard.shard in
    let low : (peer : ℕ) → IsOf c.args.shape shard peer → peer < c.args.shape.shards * c.args.shape.copies = λ peer of.
    let w = shard_within c.args.shape shard c.loop-shard-test.true in
    let t = of.to in
    omega (arith, w, t) in
    let stand : (peer : ℕ) → peer < c.args.shape.shards * c.args.shape.copies → IsSlot g.D.Disk.tells c.args.shape peer (seen_at old peer) (slot_at (map slot_of views) peer) =
    λ peer less. views_stand g.D.Disk.tells c.args.shape peer (seen_at old peer) views (c.requires.viewed peer less) in
    let rest : (peer : ℕ) → IsOf c.args.shape shard peer → (slot_at c.loop-shard.slots.items peer ≡ slot_at (map slot_of views) peer) × (seen_at cur peer ≡ seen_at old peer) = λ peer of.
    let fr = of.from in
    let same : length c.loop-shard.shares.items * c.args.shape.copies ≡ shard * c.args.shape.copies = ap (λ n. n * c.args.shape.copies) inv.shares in
    inv.taken.rest peer (omega (arith, fr, same)) in
    let next : List DiskSeen = map f c.take_shard-share.new.disks in
    let home : IsOf c.args.shape shard c.taken_peer-peer.result = record { from = c.taken_peer-peer.ensures.from; to = c.taken_peer-peer.ensures.to } in
    let step = c.take_shard-share.ensures in
    λ peer within. counted_since g.D.Disk.tells set c.args.watch.now c.loop-shard.watch c.take_shard-share.new.watch shard c.taken_peer-peer.result old cur next views c.loop-shard.slots.items c.loop-shard.shares.items inv.shares inv.ticks step.ticks inv.taken home step.moved peer

pub returns-then-is_err-clause-keeps : goal.returns-then-is_err-clause-keeps
returns-then-is_err-clause-keeps g c =
    let f : g.row.D.Denot → DiskSeen = λ disk. seen_as (g.D.Disk.size disk) (g.D.Disk.stands disk) (g.D.Disk.faults disk) in
    let old : List DiskSeen = map f c.args.disks.now in
    let set : Setting = record { name = g.A.Addresser.name c.args.naming.now; limits = c.args.limits; shape = c.args.shape } in
    let since : (peer : ℕ) → g.D.Disk.tells → Since (seen_at old peer).stands = λ peer told. seen_since f (λ disk side m high. g.met.D.Disk.since told disk side m high) c.args.disks.now peer in
    let cur : List DiskSeen = map f c.loop-shard.disks in
    let inv = c.loop-shard.invariant in
    let views = c.args.views.items in
    let shard : ℕ = c.loop-shard.shard in
    let low : (peer : ℕ) → IsOf c.args.shape shard peer → peer < c.args.shape.shards * c.args.shape.copies = λ peer of.
    let w = shard_within c.args.shape shard c.loop-shard-test.true in
    let t = of.to in
    omega (arith, w, t) in
    let stand : (peer : ℕ) → peer < c.args.shape.shards * c.args.shape.copies → IsSlot g.D.Disk.tells c.args.shape peer (seen_at old peer) (slot_at (map slot_of views) peer) =
    λ peer less. views_stand g.D.Disk.tells c.args.shape peer (seen_at old peer) views (c.requires.viewed peer less) in
    let rest : (peer : ℕ) → IsOf c.args.shape shard peer → (slot_at c.loop-shard.slots.items peer ≡ slot_at (map slot_of views) peer) × (seen_at cur peer ≡ seen_at old peer) = λ peer of.
    let fr = of.from in
    let same : length c.loop-shard.shares.items * c.args.shape.copies ≡ shard * c.args.shape.copies = ap (λ n. n * c.args.shape.copies) inv.shares in
    inv.taken.rest peer (omega (arith, fr, same)) in
    let next : List DiskSeen = map f c.take_shard-share.new.disks in
    let home : IsOf c.args.shape shard c.taken_peer-peer.result = record { from = c.taken_peer-peer.ensures.from; to = c.taken_peer-peer.ensures.to } in
    let step = c.take_shard-share.ensures in
    λ one peer within. keeps_since g.D.Disk.tells set c.args.watch.now c.loop-shard.watch c.take_shard-share.new.watch shard c.taken_peer-peer.result old cur next views c.loop-shard.slots.items c.loop-shard.shares.items inv.shares inv.ticks step.ticks inv.taken home step.moved one peer

pub loop-shard-preserved : goal.loop-shard-preserved
loop-shard-preserved g c =
    let f : g.row.D.Denot → DiskSeen = λ disk. seen_as (g.D.Disk.size disk) (g.D.Disk.stands disk) (g.D.Disk.faults disk) in
    let old : List DiskSeen = map f c.args.disks.now in
    let set : Setting = record { name = g.A.Addresser.name c.args.naming.now; limits = c.args.limits; shape = c.args.shape } in
    let since : (peer : ℕ) → g.D.Disk.tells → Since (seen_at old peer).stands = λ peer told. seen_since f (λ disk side m high. g.met.D.Disk.since told disk side m high) c.args.disks.now peer in
    let cur : List DiskSeen = map f c.loop-shard.disks in
    let inv = c.loop-shard.invariant in
    let views = c.args.views.items in
    let shard : ℕ = c.loop-shard.shard in
    let low : (peer : ℕ) → IsOf c.args.shape shard peer → peer < c.args.shape.shards * c.args.shape.copies = λ peer of.
    let w = shard_within c.args.shape shard c.loop-shard-test.true in
    let t = of.to in
    omega (arith, w, t) in
    let stand : (peer : ℕ) → peer < c.args.shape.shards * c.args.shape.copies → IsSlot g.D.Disk.tells c.args.shape peer (seen_at old peer) (slot_at (map slot_of views) peer) =
    λ peer less. views_stand g.D.Disk.tells c.args.shape peer (seen_at old peer) views (c.requires.viewed peer less) in
    let rest : (peer : ℕ) → IsOf c.args.shape shard peer → (slot_at c.loop-shard.slots.items peer ≡ slot_at (map slot_of views) peer) × (seen_at cur peer ≡ seen_at old peer) = λ peer of.
    let fr = of.from in
    let same : length c.loop-shard.shares.items * c.args.shape.copies ≡ shard * c.args.shape.copies = ap (λ n. n * c.args.shape.copies) inv.shares in
    inv.taken.rest peer (omega (arith, fr, same)) in
    let next : List DiskSeen = map f c.take_shard-share.new.disks in
    let home : IsOf c.args.shape shard c.taken_peer-peer.result = record { from = c.taken_peer-peer.ensures.from; to = c.taken_peer-peer.ensures.to } in
    let step = c.take_shard-share.ensures in
    let since_cur : (peer : ℕ) → g.D.Disk.tells → Since (seen_at cur peer).stands = λ peer told. seen_since f (λ disk side m high. g.met.D.Disk.since told disk side m high) c.loop-shard.disks peer in
    let items : c.push.new.self.items ≡ c.loop-shard.shares.items ++ c.in-Ok.share ∷ [] = grind (arith, common_steps) in
    let chosen : c.taken_peer-peer.result ≡ chosen_peer c.args.shape views shard = c.taken_peer-peer.ensures.value
    ∙ ap (λ rs. peer_of c.args.shape shard (unwrap_or (choose (take c.args.shape.copies (drop (peer_of c.args.shape shard 0) rs))) 0)) (c.as_slice-in-loop-shard.ensures.value ∙ inv.ranks) in
    record {
      taken = subst (λ xs. TakesSome g.D.Disk.tells set c.args.watch.now c.take_shard-share.new.watch old next views c.take_shard-share.new.slots.items xs) (sym items)
          (takes_more g.D.Disk.tells set c.args.watch.now c.loop-shard.watch c.take_shard-share.new.watch shard c.taken_peer-peer.result old cur next views c.loop-shard.slots.items c.loop-shard.shares.items inv.shares inv.ticks step.ticks inv.taken home step.moved c.take_shard-share.new.slots.items c.in-Ok.share chosen c.loop-shard-test.true since since_cur stand c.in-Ok.ensures.takes c.in-Ok.ensures.shard c.in-Ok.ensures.peer);
      ranks = inv.ranks;
      shares = grind (arith, common_steps, items, inv.shares);
      slots = step.slots ∙ inv.slots;
      count = step.count ∙ inv.count;
      own = c.in-Ok.ensures.own inv.own;
      headed = their_then g.D.Disk.tells c.args.shape c.args.watch.now c.loop-shard.watch c.take_shard-share.new.watch old cur next inv.headed step.headed;
      ticks = let a = inv.ticks in let b = step.ticks in omega (arith, a, b);
    }

pub returns-clause-takes : goal.returns-clause-takes
returns-clause-takes g c =
    let f : g.row.D.Denot → DiskSeen = λ disk. seen_as (g.D.Disk.size disk) (g.D.Disk.stands disk) (g.D.Disk.faults disk) in
    let old : List DiskSeen = map f c.args.disks.now in
    let set : Setting = record { name = g.A.Addresser.name c.args.naming.now; limits = c.args.limits; shape = c.args.shape } in
    let since : (peer : ℕ) → g.D.Disk.tells → Since (seen_at old peer).stands = λ peer told. seen_since f (λ disk side m high. g.met.D.Disk.since told disk side m high) c.args.disks.now peer in
    let cur : List DiskSeen = map f c.loop-shard.disks in
    takes_all g.D.Disk.tells set c.args.watch.now c.loop-shard.watch old cur c.args.views.items c.loop-shard.slots.items c.loop-shard.shares.items c.in_ok-logs.logs.items c.in_ok-logs.ensures c.loop-shard.invariant.taken

pub returns-clause-ready : goal.returns-clause-ready
returns-clause-ready g c =
    let f : g.row.D.Denot → DiskSeen = λ disk. seen_as (g.D.Disk.size disk) (g.D.Disk.stands disk) (g.D.Disk.faults disk) in
    let old : List DiskSeen = map f c.args.disks.now in
    let set : Setting = record { name = g.A.Addresser.name c.args.naming.now; limits = c.args.limits; shape = c.args.shape } in
    let since : (peer : ℕ) → g.D.Disk.tells → Since (seen_at old peer).stands = λ peer told. seen_since f (λ disk side m high. g.met.D.Disk.since told disk side m high) c.args.disks.now peer in
    let cur : List DiskSeen = map f c.loop-shard.disks in
    logs_ready g.D.Disk.tells set c.args.watch.now c.loop-shard.watch old cur c.args.views.items c.loop-shard.slots.items c.loop-shard.shares.items c.in_ok-logs.logs.items c.in_ok-logs.ensures c.loop-shard.invariant.taken

pub returns-in_err-ranks-clause-moved : goal.returns-in_err-ranks-clause-moved
returns-in_err-ranks-clause-moved g c =
    let f : g.row.D.Denot → DiskSeen = λ disk. seen_as (g.D.Disk.size disk) (g.D.Disk.stands disk) (g.D.Disk.faults disk) in
    let old : List DiskSeen = map f c.args.disks.now in
    let set : Setting = record { name = g.A.Addresser.name c.args.naming.now; limits = c.args.limits; shape = c.args.shape } in
    let views = c.args.views.items in
    let since : (peer : ℕ) → g.D.Disk.tells → Since (seen_at old peer).stands = λ peer told. seen_since f (λ disk side m high. g.met.D.Disk.since told disk side m high) c.args.disks.now peer in
    let stand : (peer : ℕ) → peer < c.args.shape.shards * c.args.shape.copies → IsSlot g.D.Disk.tells c.args.shape peer (seen_at old peer) (slot_at (map slot_of views) peer) =
    λ peer less. views_stand g.D.Disk.tells c.args.shape peer (seen_at old peer) views (c.requires.viewed peer less) in
    let homes : (k : ℕ) → k < c.args.shape.shards → IsOf c.args.shape k (chosen_peer c.args.shape views k) =
    λ k low. let w = shard_within c.args.shape k low in let l = c.requires.shape.some_copy in chosen_home c.args.shape views k (omega (arith, l)) (omega (arith, w, c.requires.views)) in
    some_moved g.D.Disk.tells set c.args.watch.now c.args.watch.now old old views (map slot_of views) [] (omega arith) (takes_none g.D.Disk.tells set c.args.watch.now old views since) since stand homes

pub returns-in_err-slots-clause-moved : goal.returns-in_err-slots-clause-moved
returns-in_err-slots-clause-moved g c =
    let f : g.row.D.Denot → DiskSeen = λ disk. seen_as (g.D.Disk.size disk) (g.D.Disk.stands disk) (g.D.Disk.faults disk) in
    let old : List DiskSeen = map f c.args.disks.now in
    let set : Setting = record { name = g.A.Addresser.name c.args.naming.now; limits = c.args.limits; shape = c.args.shape } in
    let views = c.args.views.items in
    let since : (peer : ℕ) → g.D.Disk.tells → Since (seen_at old peer).stands = λ peer told. seen_since f (λ disk side m high. g.met.D.Disk.since told disk side m high) c.args.disks.now peer in
    let stand : (peer : ℕ) → peer < c.args.shape.shards * c.args.shape.copies → IsSlot g.D.Disk.tells c.args.shape peer (seen_at old peer) (slot_at (map slot_of views) peer) =
    λ peer less. views_stand g.D.Disk.tells c.args.shape peer (seen_at old peer) views (c.requires.viewed peer less) in
    let homes : (k : ℕ) → k < c.args.shape.shards → IsOf c.args.shape k (chosen_peer c.args.shape views k) =
    λ k low. let w = shard_within c.args.shape k low in let l = c.requires.shape.some_copy in chosen_home c.args.shape views k (omega (arith, l)) (omega (arith, w, c.requires.views)) in
    some_moved g.D.Disk.tells set c.args.watch.now c.args.watch.now old old views (map slot_of views) [] (omega arith) (takes_none g.D.Disk.tells set c.args.watch.now old views since) since stand homes

pub returns-in-Err-clause-moved : goal.returns-in-Err-clause-moved
returns-in-Err-clause-moved g c =
    let f : g.row.D.Denot → DiskSeen = λ disk. seen_as (g.D.Disk.size disk) (g.D.Disk.stands disk) (g.D.Disk.faults disk) in
    let old : List DiskSeen = map f c.args.disks.now in
    let set : Setting = record { name = g.A.Addresser.name c.args.naming.now; limits = c.args.limits; shape = c.args.shape } in
    let views = c.args.views.items in
    let since : (peer : ℕ) → g.D.Disk.tells → Since (seen_at old peer).stands = λ peer told. seen_since f (λ disk side m high. g.met.D.Disk.since told disk side m high) c.args.disks.now peer in
    let stand : (peer : ℕ) → peer < c.args.shape.shards * c.args.shape.copies → IsSlot g.D.Disk.tells c.args.shape peer (seen_at old peer) (slot_at (map slot_of views) peer) =
    λ peer less. views_stand g.D.Disk.tells c.args.shape peer (seen_at old peer) views (c.requires.viewed peer less) in
    let homes : (k : ℕ) → k < c.args.shape.shards → IsOf c.args.shape k (chosen_peer c.args.shape views k) =
    λ k low. let w = shard_within c.args.shape k low in let l = c.requires.shape.some_copy in chosen_home c.args.shape views k (omega (arith, l)) (omega (arith, w, c.requires.views)) in
    let cur : List DiskSeen = map f c.loop-shard.disks in
    let inv = c.loop-shard.invariant in
    let shard : ℕ = c.loop-shard.shard in
    let next : List DiskSeen = map f c.take_shard-share.new.disks in
    let since_cur : (peer : ℕ) → g.D.Disk.tells → Since (seen_at cur peer).stands = λ peer told. seen_since f (λ disk side m high. g.met.D.Disk.since told disk side m high) c.loop-shard.disks peer in
    let chosen : c.taken_peer-peer.result ≡ chosen_peer c.args.shape views shard = c.taken_peer-peer.ensures.value
    ∙ ap (λ rs. peer_of c.args.shape shard (unwrap_or (choose (take c.args.shape.copies (drop (peer_of c.args.shape shard 0) rs))) 0)) (c.as_slice-in-loop-shard.ensures.value ∙ inv.ranks) in
    moved_since g.D.Disk.tells set c.args.watch.now c.loop-shard.watch old cur views c.loop-shard.slots.items c.loop-shard.shares.items inv.ticks inv.taken since stand homes c.take_shard-share.new.watch shard next c.take_shard-share.ensures.ticks inv.shares c.loop-shard-test.true
    (subst (λ p. AreMoved g.D.Disk.tells c.args.shape shard p c.loop-shard.watch c.take_shard-share.new.watch cur next c.loop-shard.slots.items) chosen c.take_shard-share.ensures.moved)
    (λ aside. ap (λ ds. seen_at (map f ds) (chosen_peer c.args.shape views shard)) (c.take_shard-share.ensures.idle (ap (λ p. viewed_of (slot_at c.loop-shard.slots.items p)) chosen ∙ ap (λ (s : Slot). viewed_of s) aside))) since_cur

pub returns-then-is_err-clause-moved : goal.returns-then-is_err-clause-moved
returns-then-is_err-clause-moved g c =
    let f : g.row.D.Denot → DiskSeen = λ disk. seen_as (g.D.Disk.size disk) (g.D.Disk.stands disk) (g.D.Disk.faults disk) in
    let old : List DiskSeen = map f c.args.disks.now in
    let set : Setting = record { name = g.A.Addresser.name c.args.naming.now; limits = c.args.limits; shape = c.args.shape } in
    let views = c.args.views.items in
    let since : (peer : ℕ) → g.D.Disk.tells → Since (seen_at old peer).stands = λ peer told. seen_since f (λ disk side m high. g.met.D.Disk.since told disk side m high) c.args.disks.now peer in
    let stand : (peer : ℕ) → peer < c.args.shape.shards * c.args.shape.copies → IsSlot g.D.Disk.tells c.args.shape peer (seen_at old peer) (slot_at (map slot_of views) peer) =
    λ peer less. views_stand g.D.Disk.tells c.args.shape peer (seen_at old peer) views (c.requires.viewed peer less) in
    let homes : (k : ℕ) → k < c.args.shape.shards → IsOf c.args.shape k (chosen_peer c.args.shape views k) =
    λ k low. let w = shard_within c.args.shape k low in let l = c.requires.shape.some_copy in chosen_home c.args.shape views k (omega (arith, l)) (omega (arith, w, c.requires.views)) in
    let cur : List DiskSeen = map f c.loop-shard.disks in
    let inv = c.loop-shard.invariant in
    let shard : ℕ = c.loop-shard.shard in
    let next : List DiskSeen = map f c.take_shard-share.new.disks in
    let since_cur : (peer : ℕ) → g.D.Disk.tells → Since (seen_at cur peer).stands = λ peer told. seen_since f (λ disk side m high. g.met.D.Disk.since told disk side m high) c.loop-shard.disks peer in
    let chosen : c.taken_peer-peer.result ≡ chosen_peer c.args.shape views shard = c.taken_peer-peer.ensures.value
    ∙ ap (λ rs. peer_of c.args.shape shard (unwrap_or (choose (take c.args.shape.copies (drop (peer_of c.args.shape shard 0) rs))) 0)) (c.as_slice-in-loop-shard.ensures.value ∙ inv.ranks) in
    moved_since g.D.Disk.tells set c.args.watch.now c.loop-shard.watch old cur views c.loop-shard.slots.items c.loop-shard.shares.items inv.ticks inv.taken since stand homes c.take_shard-share.new.watch shard next c.take_shard-share.ensures.ticks inv.shares c.loop-shard-test.true
    (subst (λ p. AreMoved g.D.Disk.tells c.args.shape shard p c.loop-shard.watch c.take_shard-share.new.watch cur next c.loop-shard.slots.items) chosen c.take_shard-share.ensures.moved)
    (λ aside. ap (λ ds. seen_at (map f ds) (chosen_peer c.args.shape views shard)) (c.take_shard-share.ensures.idle (ap (λ p. viewed_of (slot_at c.loop-shard.slots.items p)) chosen ∙ ap (λ (s : Slot). viewed_of s) aside))) since_cur

pub returns-in_err-logs-clause-moved : goal.returns-in_err-logs-clause-moved
returns-in_err-logs-clause-moved g c =
    let f : g.row.D.Denot → DiskSeen = λ disk. seen_as (g.D.Disk.size disk) (g.D.Disk.stands disk) (g.D.Disk.faults disk) in
    let old : List DiskSeen = map f c.args.disks.now in
    let set : Setting = record { name = g.A.Addresser.name c.args.naming.now; limits = c.args.limits; shape = c.args.shape } in
    let views = c.args.views.items in
    let since : (peer : ℕ) → g.D.Disk.tells → Since (seen_at old peer).stands = λ peer told. seen_since f (λ disk side m high. g.met.D.Disk.since told disk side m high) c.args.disks.now peer in
    let stand : (peer : ℕ) → peer < c.args.shape.shards * c.args.shape.copies → IsSlot g.D.Disk.tells c.args.shape peer (seen_at old peer) (slot_at (map slot_of views) peer) =
    λ peer less. views_stand g.D.Disk.tells c.args.shape peer (seen_at old peer) views (c.requires.viewed peer less) in
    let homes : (k : ℕ) → k < c.args.shape.shards → IsOf c.args.shape k (chosen_peer c.args.shape views k) =
    λ k low. let w = shard_within c.args.shape k low in let l = c.requires.shape.some_copy in chosen_home c.args.shape views k (omega (arith, l)) (omega (arith, w, c.requires.views)) in
    let cur : List DiskSeen = map f c.loop-shard.disks in
    let inv = c.loop-shard.invariant in
    some_moved g.D.Disk.tells set c.args.watch.now c.loop-shard.watch old cur views c.loop-shard.slots.items c.loop-shard.shares.items inv.ticks inv.taken since stand homes

pub returns-clause-moved : goal.returns-clause-moved
returns-clause-moved g c =
    let f : g.row.D.Denot → DiskSeen = λ disk. seen_as (g.D.Disk.size disk) (g.D.Disk.stands disk) (g.D.Disk.faults disk) in
    let old : List DiskSeen = map f c.args.disks.now in
    let set : Setting = record { name = g.A.Addresser.name c.args.naming.now; limits = c.args.limits; shape = c.args.shape } in
    let views = c.args.views.items in
    let since : (peer : ℕ) → g.D.Disk.tells → Since (seen_at old peer).stands = λ peer told. seen_since f (λ disk side m high. g.met.D.Disk.since told disk side m high) c.args.disks.now peer in
    let stand : (peer : ℕ) → peer < c.args.shape.shards * c.args.shape.copies → IsSlot g.D.Disk.tells c.args.shape peer (seen_at old peer) (slot_at (map slot_of views) peer) =
    λ peer less. views_stand g.D.Disk.tells c.args.shape peer (seen_at old peer) views (c.requires.viewed peer less) in
    let homes : (k : ℕ) → k < c.args.shape.shards → IsOf c.args.shape k (chosen_peer c.args.shape views k) =
    λ k low. let w = shard_within c.args.shape k low in let l = c.requires.shape.some_copy in chosen_home c.args.shape views k (omega (arith, l)) (omega (arith, w, c.requires.views)) in
    let cur : List DiskSeen = map f c.loop-shard.disks in
    let inv = c.loop-shard.invariant in
    some_moved g.D.Disk.tells set c.args.watch.now c.loop-shard.watch old cur views c.loop-shard.slots.items c.loop-shard.shares.items inv.ticks inv.taken since stand homes

pub returns-in_err-ranks-clause-headed : goal.returns-in_err-ranks-clause-headed
returns-in_err-ranks-clause-headed g c =
    let f : g.row.D.Denot → DiskSeen = λ disk. seen_as (g.D.Disk.size disk) (g.D.Disk.stands disk) (g.D.Disk.faults disk) in
    let old : List DiskSeen = map f c.args.disks.now in
    their_none g.D.Disk.tells c.args.shape c.args.watch.now old (λ peer told. seen_since f (λ disk side m high. g.met.D.Disk.since told disk side m high) c.args.disks.now peer)

pub returns-in_err-slots-clause-headed : goal.returns-in_err-slots-clause-headed
returns-in_err-slots-clause-headed g c =
    let f : g.row.D.Denot → DiskSeen = λ disk. seen_as (g.D.Disk.size disk) (g.D.Disk.stands disk) (g.D.Disk.faults disk) in
    let old : List DiskSeen = map f c.args.disks.now in
    their_none g.D.Disk.tells c.args.shape c.args.watch.now old (λ peer told. seen_since f (λ disk side m high. g.met.D.Disk.since told disk side m high) c.args.disks.now peer)

pub returns-in-Err-clause-headed : goal.returns-in-Err-clause-headed
returns-in-Err-clause-headed g c =
    let f : g.row.D.Denot → DiskSeen = λ disk. seen_as (g.D.Disk.size disk) (g.D.Disk.stands disk) (g.D.Disk.faults disk) in
    let old : List DiskSeen = map f c.args.disks.now in
    their_then g.D.Disk.tells c.args.shape c.args.watch.now c.loop-shard.watch c.take_shard-share.new.watch old (map f c.loop-shard.disks) (map f c.take_shard-share.new.disks) c.loop-shard.invariant.headed c.take_shard-share.ensures.headed

pub returns-then-is_err-clause-headed : goal.returns-then-is_err-clause-headed
returns-then-is_err-clause-headed g c =
    let f : g.row.D.Denot → DiskSeen = λ disk. seen_as (g.D.Disk.size disk) (g.D.Disk.stands disk) (g.D.Disk.faults disk) in
    let old : List DiskSeen = map f c.args.disks.now in
    their_then g.D.Disk.tells c.args.shape c.args.watch.now c.loop-shard.watch c.take_shard-share.new.watch old (map f c.loop-shard.disks) (map f c.take_shard-share.new.disks) c.loop-shard.invariant.headed c.take_shard-share.ensures.headed

pub returns-clause-own : goal.returns-clause-own
returns-clause-own g c =
    owns_logs g.D.Disk.tells c.args.shape c.loop-shard.slots.items c.in_ok-logs.logs.items c.in_ok-logs.ensures c.loop-shard.invariant.own
