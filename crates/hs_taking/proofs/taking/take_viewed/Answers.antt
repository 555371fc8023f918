use Rattle.std.proofs.Common.{◌≡◌, ◌≢◌, ◌∙◌, ◌<◌, ap, sym, subst, ℕ, List, Option, map, length, true, false, refl, arith, rules, inl, inr}
use Rattle.std.specs.Prelude.{slice_index_or, slice_set}
use Rattle.hs_fold.specs.Shards.Setting.{Numbered}
use Rattle.hs_memory.specs.Forget.{apply_all}
use Rattle.hs_peerlog.proofs.ImageLemmas.{Since}
use Rattle.hs_peerlog.specs.Views.{HasView}
use Rattle.hs_ports.specs.Fault.{HasRisen}
use Rattle.hs_shard.specs.Facts.{Catalogue, empty_catalogue}
use Rattle.hs_taking.proofs.DiskLemmas.{one_called, seen_is, seen_since, seen_there}
use Rattle.hs_taking.proofs.LevelLemmas.{still_same, view_still}
use Rattle.hs_taking.proofs.ShardLemmas.{moved_read, still_keeps}
use Rattle.hs_taking.proofs.SinceLemmas.{evened_since, left_evened, moved_since, slots_since}
use Rattle.hs_taking.proofs.TakeLemmas.{lost_rises, lost_takes, none_kept, view_takes}
use Rattle.hs_taking.specs.Copies.{IsOf}
use Rattle.hs_taking.specs.declared.shares.Share.{Share}
use Rattle.hs_taking.specs.declared.slot.Slot.{Slot}
use Rattle.hs_taking.specs.Disks.{DiskSeen, seen_as, seen_at}
use Rattle.hs_taking.specs.Evens.{AreEvened, has_kept}
use Rattle.hs_taking.specs.Loaded.{IsLoaded}
use Rattle.hs_taking.specs.Pairs.{IsStill}
use Rattle.hs_taking.specs.Viewed.{IsViewOf}
use Rattle.hs_taking.proofs.HeadLemmas.{their_none, their_still, their_then}
use Rattle.hs_taking.specs.Headed.{KeepTheirHeaders}
use Rattle.std.proofs.lemmas.Bool.{cases_eq}
use Rattle.hs_taking.proofs.taking.take_viewed.Goals as goal

pub returns-then-is_memory-clause-moved : goal.returns-then-is_memory-clause-moved
returns-then-is_memory-clause-moved g c =
    let f : g.row.D.Denot → DiskSeen = λ disk. seen_as (g.D.Disk.size disk) (g.D.Disk.stands disk) (g.D.Disk.faults disk) in
    let d0 : List DiskSeen = map f c.args.disks.now in
    let i : ℕ = c.from-place.result in
    let at : i ≡ c.args.peer = c.from-place.ensures in
    let low : i < length c.args.disks.now = omega (arith, at, c.requires.within, c.requires.count) in
    let x = c.load.new.disk in
    let d1 : List DiskSeen = map f (slice_set c.args.disks.now i x) in
    let since : (peer : ℕ) → g.D.Disk.tells → Since (seen_at d0 peer).stands = λ peer told. seen_since f (λ disk side m high. g.met.D.Disk.since told disk side m high) c.args.disks.now peer in
    let there : (peer : ℕ) → peer ≢ c.args.peer → seen_at d1 peer ≡ seen_at d0 peer = λ peer differs. seen_there f c.args.disks.now i peer x (λ same. differs (same ∙ at)) in
    let still : IsStill g.D.Disk.tells (seen_at d0 c.args.peer) (seen_at d1 c.args.peer) =
    one_called f c.args.disks.now i c.args.peer x c.index-disks-place.result at low (λ a b. IsStill g.D.Disk.tells a b) (record { same = c.load.ensures.same; size = c.load.ensures.same_size; counted = c.load.ensures.cause.later }) in
    moved_read g.D.Disk.tells c.args.shape c.args.shard c.args.peer c.args.watch.now c.args.watch.now d0 d1 c.args.slots.now.items (omega arith) since c.requires.viewed
    (λ peer differs. still_same g.D.Disk.tells (seen_at d0 peer) (seen_at d1 peer) (there peer differs))
    (still_keeps g.D.Disk.tells c.args.watch.now c.args.watch.now (seen_at d0 c.args.peer) (seen_at d1 c.args.peer) (omega arith) (since c.args.peer) still)
    (λ peer not. there peer (λ same. not (subst (λ p. IsOf c.args.shape c.args.shard p) (sym same) c.requires.peer)))

pub returns-in-Err-clause-moved : goal.returns-in-Err-clause-moved
returns-in-Err-clause-moved g c =
    let f : g.row.D.Denot → DiskSeen = λ disk. seen_as (g.D.Disk.size disk) (g.D.Disk.stands disk) (g.D.Disk.faults disk) in
    let d0 : List DiskSeen = map f c.args.disks.now in
    let i : ℕ = c.from-place.result in
    let at : i ≡ c.args.peer = c.from-place.ensures in
    let low : i < length c.args.disks.now = omega (arith, at, c.requires.within, c.requires.count) in
    let x = c.load.new.disk in
    let d1 : List DiskSeen = map f (slice_set c.args.disks.now i x) in
    let since : (peer : ℕ) → g.D.Disk.tells → Since (seen_at d0 peer).stands = λ peer told. seen_since f (λ disk side m high. g.met.D.Disk.since told disk side m high) c.args.disks.now peer in
    let there : (peer : ℕ) → peer ≢ c.args.peer → seen_at d1 peer ≡ seen_at d0 peer = λ peer differs. seen_there f c.args.disks.now i peer x (λ same. differs (same ∙ at)) in
    let still : IsStill g.D.Disk.tells (seen_at d0 c.args.peer) (seen_at d1 c.args.peer) =
    one_called f c.args.disks.now i c.args.peer x c.index-disks-place.result at low (λ a b. IsStill g.D.Disk.tells a b) (record { same = c.load.ensures.same; size = c.load.ensures.same_size; counted = c.load.ensures.cause.later }) in
    moved_read g.D.Disk.tells c.args.shape c.args.shard c.args.peer c.args.watch.now c.args.watch.now d0 d1 c.args.slots.now.items (omega arith) since c.requires.viewed
    (λ peer differs. still_same g.D.Disk.tells (seen_at d0 peer) (seen_at d1 peer) (there peer differs))
    (still_keeps g.D.Disk.tells c.args.watch.now c.args.watch.now (seen_at d0 c.args.peer) (seen_at d1 c.args.peer) (omega arith) (since c.args.peer) still)
    (λ peer not. there peer (λ same. not (subst (λ p. IsOf c.args.shape c.args.shard p) (sym same) c.requires.peer)))

pub returns-in-Err-clause-takes : goal.returns-in-Err-clause-takes
returns-in-Err-clause-takes g c =
    let f : g.row.D.Denot → DiskSeen = λ disk. seen_as (g.D.Disk.size disk) (g.D.Disk.stands disk) (g.D.Disk.faults disk) in
    let d0 : List DiskSeen = map f c.args.disks.now in
    let i : ℕ = c.from-place.result in
    let at : i ≡ c.args.peer = c.from-place.ensures in
    let low : i < length c.args.disks.now = omega (arith, at, c.requires.within, c.requires.count) in
    let x = c.load.new.disk in
    let d1 : List DiskSeen = map f (slice_set c.args.disks.now i x) in
    let since : (peer : ℕ) → g.D.Disk.tells → Since (seen_at d0 peer).stands = λ peer told. seen_since f (λ disk side m high. g.met.D.Disk.since told disk side m high) c.args.disks.now peer in
    let there : (peer : ℕ) → peer ≢ c.args.peer → seen_at d1 peer ≡ seen_at d0 peer = λ peer differs. seen_there f c.args.disks.now i peer x (λ same. differs (same ∙ at)) in
    let still : IsStill g.D.Disk.tells (seen_at d0 c.args.peer) (seen_at d1 c.args.peer) =
    one_called f c.args.disks.now i c.args.peer x c.index-disks-place.result at low (λ a b. IsStill g.D.Disk.tells a b) (record { same = c.load.ensures.same; size = c.load.ensures.same_size; counted = c.load.ensures.cause.later }) in
    let fold : Numbered → Catalogue = apply_all (g.A.Addresser.name c.args.naming.now) (empty_catalogue c.args.shape c.args.shard) in
    let viewed : IsViewOf g.D.Disk.tells c.args.shape c.args.peer (f (slice_index_or c.args.disks.now i c.index-disks-place.result)) c.args.view =
    subst (λ (s : DiskSeen). IsViewOf g.D.Disk.tells c.args.shape c.args.peer s c.args.view) (ap (λ n. seen_at d0 n) (sym at) ∙ seen_is f c.args.disks.now i c.index-disks-place.result low) c.requires.taken in
    let rose : g.D.Disk.tells → HasRisen (seen_at d0 c.args.peer).faults (seen_at d1 c.args.peer).faults = λ told.
    one_called f c.args.disks.now i c.args.peer x c.index-disks-place.result at low (λ a b. HasRisen a.faults b.faults)
    (lost_rises g.D.Disk.tells c.args.shape c.args.peer (f (slice_index_or c.args.disks.now i c.index-disks-place.result)) c.args.view _ _ c.in-Err.fault viewed (sym c.is_memory.ensures ∙ c.if-is_memory.false) c.in-Err.ensures.refused c.in-Err.ensures.cause told) in
    lost_takes g.D.Disk.tells fold c.args.shape c.args.shard c.args.peer c.args.watch.now c.args.watch.now d0 d1 c.args.slots.now.items c.args.slots.now.items c.args.view c.lost_share.result c.requires.taken (search rules)
    (subst (λ (o : Option ℕ). AreEvened g.D.Disk.tells c.args.shape c.args.shard c.args.peer c.args.watch.now c.args.watch.now d0 d1 c.args.slots.now.items c.args.slots.now.items o) (sym (ap (λ (s : Share). s.lost) c.lost_share.ensures))
    (left_evened g.D.Disk.tells c.args.shape c.args.shard c.args.peer c.args.watch.now c.now.result d0 d1 c.args.slots.now.items there since c.requires.viewed c.now.ensures.value c.requires.aside still rose))
    (none_kept c.args.shape c.args.shard c.args.slots.now.items c.requires.fresh) (search rules) (search rules)

pub returns-then-not-has_kept-clause-outside : goal.returns-then-not-has_kept-clause-outside
returns-then-not-has_kept-clause-outside g c =
    c.in-Ok-even_shard.ensures.outside

pub returns-clause-outside : goal.returns-clause-outside
returns-clause-outside g c =
    c.in-Ok-even_shard.ensures.outside

pub even_shard-requires-clause-taken : goal.even_shard-requires-clause-taken
even_shard-requires-clause-taken g c =
    let f : g.row.D.Denot → DiskSeen = λ disk. seen_as (g.D.Disk.size disk) (g.D.Disk.stands disk) (g.D.Disk.faults disk) in
    let d0 : List DiskSeen = map f c.args.disks.now in
    let i : ℕ = c.from-place.result in
    let at : i ≡ c.args.peer = c.from-place.ensures in
    let low : i < length c.args.disks.now = omega (arith, at, c.requires.within, c.requires.count) in
    let x = c.load.new.disk in
    let d1 : List DiskSeen = map f (slice_set c.args.disks.now i x) in
    let since : (peer : ℕ) → g.D.Disk.tells → Since (seen_at d0 peer).stands = λ peer told. seen_since f (λ disk side m high. g.met.D.Disk.since told disk side m high) c.args.disks.now peer in
    let there : (peer : ℕ) → peer ≢ c.args.peer → seen_at d1 peer ≡ seen_at d0 peer = λ peer differs. seen_there f c.args.disks.now i peer x (λ same. differs (same ∙ at)) in
    let still : IsStill g.D.Disk.tells (seen_at d0 c.args.peer) (seen_at d1 c.args.peer) =
    one_called f c.args.disks.now i c.args.peer x c.index-disks-place.result at low (λ a b. IsStill g.D.Disk.tells a b) (record { same = c.load.ensures.same; size = c.load.ensures.same_size; counted = c.load.ensures.cause.later }) in
    view_still g.D.Disk.tells c.args.shape c.args.peer (seen_at d0 c.args.peer) (seen_at d1 c.args.peer) c.args.view still c.requires.taken

pub even_shard-requires-clause-viewed : goal.even_shard-requires-clause-viewed
even_shard-requires-clause-viewed g c =
    let f : g.row.D.Denot → DiskSeen = λ disk. seen_as (g.D.Disk.size disk) (g.D.Disk.stands disk) (g.D.Disk.faults disk) in
    let d0 : List DiskSeen = map f c.args.disks.now in
    let i : ℕ = c.from-place.result in
    let at : i ≡ c.args.peer = c.from-place.ensures in
    let low : i < length c.args.disks.now = omega (arith, at, c.requires.within, c.requires.count) in
    let x = c.load.new.disk in
    let d1 : List DiskSeen = map f (slice_set c.args.disks.now i x) in
    let since : (peer : ℕ) → g.D.Disk.tells → Since (seen_at d0 peer).stands = λ peer told. seen_since f (λ disk side m high. g.met.D.Disk.since told disk side m high) c.args.disks.now peer in
    let there : (peer : ℕ) → peer ≢ c.args.peer → seen_at d1 peer ≡ seen_at d0 peer = λ peer differs. seen_there f c.args.disks.now i peer x (λ same. differs (same ∙ at)) in
    let still : IsStill g.D.Disk.tells (seen_at d0 c.args.peer) (seen_at d1 c.args.peer) =
    one_called f c.args.disks.now i c.args.peer x c.index-disks-place.result at low (λ a b. IsStill g.D.Disk.tells a b) (record { same = c.load.ensures.same; size = c.load.ensures.same_size; counted = c.load.ensures.cause.later }) in
    slots_since g.D.Disk.tells c.args.shape c.args.shard c.args.peer c.args.watch.now c.args.watch.now d0 d1 d1 c.args.slots.now.items still there c.requires.aside c.requires.viewed

pub returns-in-Err-even_shard-clause-moved : goal.returns-in-Err-even_shard-clause-moved
returns-in-Err-even_shard-clause-moved g c =
    let f : g.row.D.Denot → DiskSeen = λ disk. seen_as (g.D.Disk.size disk) (g.D.Disk.stands disk) (g.D.Disk.faults disk) in
    let d0 : List DiskSeen = map f c.args.disks.now in
    let i : ℕ = c.from-place.result in
    let at : i ≡ c.args.peer = c.from-place.ensures in
    let low : i < length c.args.disks.now = omega (arith, at, c.requires.within, c.requires.count) in
    let x = c.load.new.disk in
    let d1 : List DiskSeen = map f (slice_set c.args.disks.now i x) in
    let since : (peer : ℕ) → g.D.Disk.tells → Since (seen_at d0 peer).stands = λ peer told. seen_since f (λ disk side m high. g.met.D.Disk.since told disk side m high) c.args.disks.now peer in
    let there : (peer : ℕ) → peer ≢ c.args.peer → seen_at d1 peer ≡ seen_at d0 peer = λ peer differs. seen_there f c.args.disks.now i peer x (λ same. differs (same ∙ at)) in
    let still : IsStill g.D.Disk.tells (seen_at d0 c.args.peer) (seen_at d1 c.args.peer) =
    one_called f c.args.disks.now i c.args.peer x c.index-disks-place.result at low (λ a b. IsStill g.D.Disk.tells a b) (record { same = c.load.ensures.same; size = c.load.ensures.same_size; counted = c.load.ensures.cause.later }) in
    let calm : (seen_at d1 c.args.peer).faults ≡ (seen_at d0 c.args.peer).faults = one_called f c.args.disks.now i c.args.peer x c.index-disks-place.result at low (λ a b. b.faults ≡ a.faults) c.in-Ok.ensures.calm in
    let d2 : List DiskSeen = map f c.even_shard.new.disks in
    moved_since g.D.Disk.tells c.args.shape c.args.shard c.args.peer c.args.watch.now c.even_shard.new.watch d0 d1 d2 c.args.slots.now.items still there c.requires.peer c.even_shard.ensures.moved

pub returns-then-not-has_kept-clause-moved : goal.returns-then-not-has_kept-clause-moved
returns-then-not-has_kept-clause-moved g c =
    let f : g.row.D.Denot → DiskSeen = λ disk. seen_as (g.D.Disk.size disk) (g.D.Disk.stands disk) (g.D.Disk.faults disk) in
    let d0 : List DiskSeen = map f c.args.disks.now in
    let i : ℕ = c.from-place.result in
    let at : i ≡ c.args.peer = c.from-place.ensures in
    let low : i < length c.args.disks.now = omega (arith, at, c.requires.within, c.requires.count) in
    let x = c.load.new.disk in
    let d1 : List DiskSeen = map f (slice_set c.args.disks.now i x) in
    let since : (peer : ℕ) → g.D.Disk.tells → Since (seen_at d0 peer).stands = λ peer told. seen_since f (λ disk side m high. g.met.D.Disk.since told disk side m high) c.args.disks.now peer in
    let there : (peer : ℕ) → peer ≢ c.args.peer → seen_at d1 peer ≡ seen_at d0 peer = λ peer differs. seen_there f c.args.disks.now i peer x (λ same. differs (same ∙ at)) in
    let still : IsStill g.D.Disk.tells (seen_at d0 c.args.peer) (seen_at d1 c.args.peer) =
    one_called f c.args.disks.now i c.args.peer x c.index-disks-place.result at low (λ a b. IsStill g.D.Disk.tells a b) (record { same = c.load.ensures.same; size = c.load.ensures.same_size; counted = c.load.ensures.cause.later }) in
    let calm : (seen_at d1 c.args.peer).faults ≡ (seen_at d0 c.args.peer).faults = one_called f c.args.disks.now i c.args.peer x c.index-disks-place.result at low (λ a b. b.faults ≡ a.faults) c.in-Ok.ensures.calm in
    let d2 : List DiskSeen = map f c.even_shard.new.disks in
    moved_since g.D.Disk.tells c.args.shape c.args.shard c.args.peer c.args.watch.now c.even_shard.new.watch d0 d1 d2 c.args.slots.now.items still there c.requires.peer c.even_shard.ensures.moved

pub returns-clause-moved : goal.returns-clause-moved
returns-clause-moved g c =
    let f : g.row.D.Denot → DiskSeen = λ disk. seen_as (g.D.Disk.size disk) (g.D.Disk.stands disk) (g.D.Disk.faults disk) in
    let d0 : List DiskSeen = map f c.args.disks.now in
    let i : ℕ = c.from-place.result in
    let at : i ≡ c.args.peer = c.from-place.ensures in
    let low : i < length c.args.disks.now = omega (arith, at, c.requires.within, c.requires.count) in
    let x = c.load.new.disk in
    let d1 : List DiskSeen = map f (slice_set c.args.disks.now i x) in
    let since : (peer : ℕ) → g.D.Disk.tells → Since (seen_at d0 peer).stands = λ peer told. seen_since f (λ disk side m high. g.met.D.Disk.since told disk side m high) c.args.disks.now peer in
    let there : (peer : ℕ) → peer ≢ c.args.peer → seen_at d1 peer ≡ seen_at d0 peer = λ peer differs. seen_there f c.args.disks.now i peer x (λ same. differs (same ∙ at)) in
    let still : IsStill g.D.Disk.tells (seen_at d0 c.args.peer) (seen_at d1 c.args.peer) =
    one_called f c.args.disks.now i c.args.peer x c.index-disks-place.result at low (λ a b. IsStill g.D.Disk.tells a b) (record { same = c.load.ensures.same; size = c.load.ensures.same_size; counted = c.load.ensures.cause.later }) in
    let calm : (seen_at d1 c.args.peer).faults ≡ (seen_at d0 c.args.peer).faults = one_called f c.args.disks.now i c.args.peer x c.index-disks-place.result at low (λ a b. b.faults ≡ a.faults) c.in-Ok.ensures.calm in
    let d2 : List DiskSeen = map f c.even_shard.new.disks in
    moved_since g.D.Disk.tells c.args.shape c.args.shard c.args.peer c.args.watch.now c.even_shard.new.watch d0 d1 d2 c.args.slots.now.items still there c.requires.peer c.even_shard.ensures.moved

pub returns-then-not-has_kept-clause-takes : goal.returns-then-not-has_kept-clause-takes
returns-then-not-has_kept-clause-takes g c =
    let f : g.row.D.Denot → DiskSeen = λ disk. seen_as (g.D.Disk.size disk) (g.D.Disk.stands disk) (g.D.Disk.faults disk) in
    let d0 : List DiskSeen = map f c.args.disks.now in
    let i : ℕ = c.from-place.result in
    let at : i ≡ c.args.peer = c.from-place.ensures in
    let low : i < length c.args.disks.now = omega (arith, at, c.requires.within, c.requires.count) in
    let x = c.load.new.disk in
    let d1 : List DiskSeen = map f (slice_set c.args.disks.now i x) in
    let since : (peer : ℕ) → g.D.Disk.tells → Since (seen_at d0 peer).stands = λ peer told. seen_since f (λ disk side m high. g.met.D.Disk.since told disk side m high) c.args.disks.now peer in
    let there : (peer : ℕ) → peer ≢ c.args.peer → seen_at d1 peer ≡ seen_at d0 peer = λ peer differs. seen_there f c.args.disks.now i peer x (λ same. differs (same ∙ at)) in
    let still : IsStill g.D.Disk.tells (seen_at d0 c.args.peer) (seen_at d1 c.args.peer) =
    one_called f c.args.disks.now i c.args.peer x c.index-disks-place.result at low (λ a b. IsStill g.D.Disk.tells a b) (record { same = c.load.ensures.same; size = c.load.ensures.same_size; counted = c.load.ensures.cause.later }) in
    let calm : (seen_at d1 c.args.peer).faults ≡ (seen_at d0 c.args.peer).faults = one_called f c.args.disks.now i c.args.peer x c.index-disks-place.result at low (λ a b. b.faults ≡ a.faults) c.in-Ok.ensures.calm in
    let d2 : List DiskSeen = map f c.even_shard.new.disks in
    let fold : Numbered → Catalogue = apply_all (g.A.Addresser.name c.args.naming.now) (empty_catalogue c.args.shape c.args.shard) in
    let loaded : IsLoaded g.D.Disk.tells fold (HasView c.args.view (seen_at d0 c.args.peer).stands.seen) c.in-Ok.loaded =
    subst (λ (s : DiskSeen). IsLoaded g.D.Disk.tells fold (HasView c.args.view s.stands.seen) c.in-Ok.loaded) (sym (seen_is f c.args.disks.now i c.index-disks-place.result low) ∙ ap (λ n. seen_at d0 n) at) c.in-Ok.ensures.loaded in
    let slots' = c.even_shard.new.slots.items in
    let copies = evened_since g.D.Disk.tells c.args.shape c.args.shard c.args.peer c.args.watch.now c.even_shard.new.watch d0 d1 d2 c.args.slots.now.items still there slots' c.in-Ok-even_shard.lost calm c.in-Ok-even_shard.ensures.evened in
    let same : c.as_slice.result.now ≡ slots' = c.as_slice.ensures.value in
    let kept : has_kept c.args.shape slots' c.args.shard ≡ c.has_kept.result = ap (λ (s : List Slot). has_kept c.args.shape s c.args.shard) (sym same) ∙ sym c.has_kept.ensures in
    view_takes g.D.Disk.tells fold c.args.shape c.args.shard c.args.peer c.args.watch.now c.even_shard.new.watch d0 d2 c.args.slots.now.items slots' c.args.view c.lost_share-then-not-has_kept.result c.requires.taken (search rules)
    (subst (λ (o : Option ℕ). AreEvened g.D.Disk.tells c.args.shape c.args.shard c.args.peer c.args.watch.now c.even_shard.new.watch d0 d2 c.args.slots.now.items slots' o) (sym (ap (λ (s : Share). s.lost) c.lost_share-then-not-has_kept.ensures)) copies) c.in-Ok.loaded loaded c.in-Ok.ensures.ranked
    false (kept ∙ search rules) (search rules) (search rules)

pub returns-clause-takes : goal.returns-clause-takes
returns-clause-takes g c =
    let f : g.row.D.Denot → DiskSeen = λ disk. seen_as (g.D.Disk.size disk) (g.D.Disk.stands disk) (g.D.Disk.faults disk) in
    let d0 : List DiskSeen = map f c.args.disks.now in
    let i : ℕ = c.from-place.result in
    let at : i ≡ c.args.peer = c.from-place.ensures in
    let low : i < length c.args.disks.now = omega (arith, at, c.requires.within, c.requires.count) in
    let x = c.load.new.disk in
    let d1 : List DiskSeen = map f (slice_set c.args.disks.now i x) in
    let since : (peer : ℕ) → g.D.Disk.tells → Since (seen_at d0 peer).stands = λ peer told. seen_since f (λ disk side m high. g.met.D.Disk.since told disk side m high) c.args.disks.now peer in
    let there : (peer : ℕ) → peer ≢ c.args.peer → seen_at d1 peer ≡ seen_at d0 peer = λ peer differs. seen_there f c.args.disks.now i peer x (λ same. differs (same ∙ at)) in
    let still : IsStill g.D.Disk.tells (seen_at d0 c.args.peer) (seen_at d1 c.args.peer) =
    one_called f c.args.disks.now i c.args.peer x c.index-disks-place.result at low (λ a b. IsStill g.D.Disk.tells a b) (record { same = c.load.ensures.same; size = c.load.ensures.same_size; counted = c.load.ensures.cause.later }) in
    let calm : (seen_at d1 c.args.peer).faults ≡ (seen_at d0 c.args.peer).faults = one_called f c.args.disks.now i c.args.peer x c.index-disks-place.result at low (λ a b. b.faults ≡ a.faults) c.in-Ok.ensures.calm in
    let d2 : List DiskSeen = map f c.even_shard.new.disks in
    let fold : Numbered → Catalogue = apply_all (g.A.Addresser.name c.args.naming.now) (empty_catalogue c.args.shape c.args.shard) in
    let loaded : IsLoaded g.D.Disk.tells fold (HasView c.args.view (seen_at d0 c.args.peer).stands.seen) c.in-Ok.loaded =
    subst (λ (s : DiskSeen). IsLoaded g.D.Disk.tells fold (HasView c.args.view s.stands.seen) c.in-Ok.loaded) (sym (seen_is f c.args.disks.now i c.index-disks-place.result low) ∙ ap (λ n. seen_at d0 n) at) c.in-Ok.ensures.loaded in
    let slots' = c.even_shard.new.slots.items in
    let copies = evened_since g.D.Disk.tells c.args.shape c.args.shard c.args.peer c.args.watch.now c.even_shard.new.watch d0 d1 d2 c.args.slots.now.items still there slots' c.in-Ok-even_shard.lost calm c.in-Ok-even_shard.ensures.evened in
    let same : c.as_slice.result.now ≡ slots' = c.as_slice.ensures.value in
    let kept : has_kept c.args.shape slots' c.args.shard ≡ c.has_kept.result = ap (λ (s : List Slot). has_kept c.args.shape s c.args.shard) (sym same) ∙ sym c.has_kept.ensures in
    view_takes g.D.Disk.tells fold c.args.shape c.args.shard c.args.peer c.args.watch.now c.even_shard.new.watch d0 d2 c.args.slots.now.items slots' c.args.view _ c.requires.taken (search rules) copies c.in-Ok.loaded loaded c.in-Ok.ensures.ranked
    true (kept ∙ search rules) refl refl

pub returns-then-is_memory-clause-headed : goal.returns-then-is_memory-clause-headed
returns-then-is_memory-clause-headed g c =
    let f : g.row.D.Denot → DiskSeen = λ disk. seen_as (g.D.Disk.size disk) (g.D.Disk.stands disk) (g.D.Disk.faults disk) in
    let d0 : List DiskSeen = map f c.args.disks.now in
    let i : ℕ = c.from-place.result in
    let at : i ≡ c.args.peer = c.from-place.ensures in
    let low : i < length c.args.disks.now = omega (arith, at, c.requires.within, c.requires.count) in
    let x = c.load.new.disk in
    let d1 : List DiskSeen = map f (slice_set c.args.disks.now i x) in
    let since : (peer : ℕ) → g.D.Disk.tells → Since (seen_at d0 peer).stands = λ peer told. seen_since f (λ disk side m high. g.met.D.Disk.since told disk side m high) c.args.disks.now peer in
    let still : IsStill g.D.Disk.tells (seen_at d0 c.args.peer) (seen_at d1 c.args.peer) =
    one_called f c.args.disks.now i c.args.peer x c.index-disks-place.result at low (λ a b. IsStill g.D.Disk.tells a b) (record { same = c.load.ensures.same; size = c.load.ensures.same_size; counted = c.load.ensures.cause.later }) in
    let each : (peer : ℕ) → IsStill g.D.Disk.tells (seen_at d0 peer) (seen_at d1 peer) = λ peer. elim (cases_eq peer c.args.peer) [
      | inl same ↦ subst (λ n. IsStill g.D.Disk.tells (seen_at d0 n) (seen_at d1 n)) (sym same) still
      | inr differs ↦ still_same g.D.Disk.tells (seen_at d0 peer) (seen_at d1 peer) (seen_there f c.args.disks.now i peer x (λ same. differs (same ∙ at)))
    ] in
    let read : KeepTheirHeaders g.D.Disk.tells c.args.shape c.args.watch.now c.args.watch.now d0 d1 =
    their_still g.D.Disk.tells c.args.shape c.args.watch.now c.args.watch.now c.args.watch.now d0 d0 d1 (omega arith) (their_none g.D.Disk.tells c.args.shape c.args.watch.now d0 since) each in
    read

pub returns-in-Err-clause-headed : goal.returns-in-Err-clause-headed
returns-in-Err-clause-headed g c =
    let f : g.row.D.Denot → DiskSeen = λ disk. seen_as (g.D.Disk.size disk) (g.D.Disk.stands disk) (g.D.Disk.faults disk) in
    let d0 : List DiskSeen = map f c.args.disks.now in
    let i : ℕ = c.from-place.result in
    let at : i ≡ c.args.peer = c.from-place.ensures in
    let low : i < length c.args.disks.now = omega (arith, at, c.requires.within, c.requires.count) in
    let x = c.load.new.disk in
    let d1 : List DiskSeen = map f (slice_set c.args.disks.now i x) in
    let since : (peer : ℕ) → g.D.Disk.tells → Since (seen_at d0 peer).stands = λ peer told. seen_since f (λ disk side m high. g.met.D.Disk.since told disk side m high) c.args.disks.now peer in
    let still : IsStill g.D.Disk.tells (seen_at d0 c.args.peer) (seen_at d1 c.args.peer) =
    one_called f c.args.disks.now i c.args.peer x c.index-disks-place.result at low (λ a b. IsStill g.D.Disk.tells a b) (record { same = c.load.ensures.same; size = c.load.ensures.same_size; counted = c.load.ensures.cause.later }) in
    let each : (peer : ℕ) → IsStill g.D.Disk.tells (seen_at d0 peer) (seen_at d1 peer) = λ peer. elim (cases_eq peer c.args.peer) [
      | inl same ↦ subst (λ n. IsStill g.D.Disk.tells (seen_at d0 n) (seen_at d1 n)) (sym same) still
      | inr differs ↦ still_same g.D.Disk.tells (seen_at d0 peer) (seen_at d1 peer) (seen_there f c.args.disks.now i peer x (λ same. differs (same ∙ at)))
    ] in
    let read : KeepTheirHeaders g.D.Disk.tells c.args.shape c.args.watch.now c.args.watch.now d0 d1 =
    their_still g.D.Disk.tells c.args.shape c.args.watch.now c.args.watch.now c.args.watch.now d0 d0 d1 (omega arith) (their_none g.D.Disk.tells c.args.shape c.args.watch.now d0 since) each in
    read

pub returns-in-Err-even_shard-clause-headed : goal.returns-in-Err-even_shard-clause-headed
returns-in-Err-even_shard-clause-headed g c =
    let f : g.row.D.Denot → DiskSeen = λ disk. seen_as (g.D.Disk.size disk) (g.D.Disk.stands disk) (g.D.Disk.faults disk) in
    let d0 : List DiskSeen = map f c.args.disks.now in
    let i : ℕ = c.from-place.result in
    let at : i ≡ c.args.peer = c.from-place.ensures in
    let low : i < length c.args.disks.now = omega (arith, at, c.requires.within, c.requires.count) in
    let x = c.load.new.disk in
    let d1 : List DiskSeen = map f (slice_set c.args.disks.now i x) in
    let since : (peer : ℕ) → g.D.Disk.tells → Since (seen_at d0 peer).stands = λ peer told. seen_since f (λ disk side m high. g.met.D.Disk.since told disk side m high) c.args.disks.now peer in
    let still : IsStill g.D.Disk.tells (seen_at d0 c.args.peer) (seen_at d1 c.args.peer) =
    one_called f c.args.disks.now i c.args.peer x c.index-disks-place.result at low (λ a b. IsStill g.D.Disk.tells a b) (record { same = c.load.ensures.same; size = c.load.ensures.same_size; counted = c.load.ensures.cause.later }) in
    let each : (peer : ℕ) → IsStill g.D.Disk.tells (seen_at d0 peer) (seen_at d1 peer) = λ peer. elim (cases_eq peer c.args.peer) [
      | inl same ↦ subst (λ n. IsStill g.D.Disk.tells (seen_at d0 n) (seen_at d1 n)) (sym same) still
      | inr differs ↦ still_same g.D.Disk.tells (seen_at d0 peer) (seen_at d1 peer) (seen_there f c.args.disks.now i peer x (λ same. differs (same ∙ at)))
    ] in
    let read : KeepTheirHeaders g.D.Disk.tells c.args.shape c.args.watch.now c.args.watch.now d0 d1 =
    their_still g.D.Disk.tells c.args.shape c.args.watch.now c.args.watch.now c.args.watch.now d0 d0 d1 (omega arith) (their_none g.D.Disk.tells c.args.shape c.args.watch.now d0 since) each in
    their_then g.D.Disk.tells c.args.shape c.args.watch.now c.args.watch.now c.even_shard.new.watch d0 d1 (map f c.even_shard.new.disks) read c.even_shard.ensures.headed

pub returns-then-not-has_kept-clause-headed : goal.returns-then-not-has_kept-clause-headed
returns-then-not-has_kept-clause-headed g c =
    let f : g.row.D.Denot → DiskSeen = λ disk. seen_as (g.D.Disk.size disk) (g.D.Disk.stands disk) (g.D.Disk.faults disk) in
    let d0 : List DiskSeen = map f c.args.disks.now in
    let i : ℕ = c.from-place.result in
    let at : i ≡ c.args.peer = c.from-place.ensures in
    let low : i < length c.args.disks.now = omega (arith, at, c.requires.within, c.requires.count) in
    let x = c.load.new.disk in
    let d1 : List DiskSeen = map f (slice_set c.args.disks.now i x) in
    let since : (peer : ℕ) → g.D.Disk.tells → Since (seen_at d0 peer).stands = λ peer told. seen_since f (λ disk side m high. g.met.D.Disk.since told disk side m high) c.args.disks.now peer in
    let still : IsStill g.D.Disk.tells (seen_at d0 c.args.peer) (seen_at d1 c.args.peer) =
    one_called f c.args.disks.now i c.args.peer x c.index-disks-place.result at low (λ a b. IsStill g.D.Disk.tells a b) (record { same = c.load.ensures.same; size = c.load.ensures.same_size; counted = c.load.ensures.cause.later }) in
    let each : (peer : ℕ) → IsStill g.D.Disk.tells (seen_at d0 peer) (seen_at d1 peer) = λ peer. elim (cases_eq peer c.args.peer) [
      | inl same ↦ subst (λ n. IsStill g.D.Disk.tells (seen_at d0 n) (seen_at d1 n)) (sym same) still
      | inr differs ↦ still_same g.D.Disk.tells (seen_at d0 peer) (seen_at d1 peer) (seen_there f c.args.disks.now i peer x (λ same. differs (same ∙ at)))
    ] in
    let read : KeepTheirHeaders g.D.Disk.tells c.args.shape c.args.watch.now c.args.watch.now d0 d1 =
    their_still g.D.Disk.tells c.args.shape c.args.watch.now c.args.watch.now c.args.watch.now d0 d0 d1 (omega arith) (their_none g.D.Disk.tells c.args.shape c.args.watch.now d0 since) each in
    their_then g.D.Disk.tells c.args.shape c.args.watch.now c.args.watch.now c.even_shard.new.watch d0 d1 (map f c.even_shard.new.disks) read c.even_shard.ensures.headed

pub returns-clause-headed : goal.returns-clause-headed
returns-clause-headed g c =
    let f : g.row.D.Denot → DiskSeen = λ disk. seen_as (g.D.Disk.size disk) (g.D.Disk.stands disk) (g.D.Disk.faults disk) in
    let d0 : List DiskSeen = map f c.args.disks.now in
    let i : ℕ = c.from-place.result in
    let at : i ≡ c.args.peer = c.from-place.ensures in
    let low : i < length c.args.disks.now = omega (arith, at, c.requires.within, c.requires.count) in
    let x = c.load.new.disk in
    let d1 : List DiskSeen = map f (slice_set c.args.disks.now i x) in
    let since : (peer : ℕ) → g.D.Disk.tells → Since (seen_at d0 peer).stands = λ peer told. seen_since f (λ disk side m high. g.met.D.Disk.since told disk side m high) c.args.disks.now peer in
    let still : IsStill g.D.Disk.tells (seen_at d0 c.args.peer) (seen_at d1 c.args.peer) =
    one_called f c.args.disks.now i c.args.peer x c.index-disks-place.result at low (λ a b. IsStill g.D.Disk.tells a b) (record { same = c.load.ensures.same; size = c.load.ensures.same_size; counted = c.load.ensures.cause.later }) in
    let each : (peer : ℕ) → IsStill g.D.Disk.tells (seen_at d0 peer) (seen_at d1 peer) = λ peer. elim (cases_eq peer c.args.peer) [
      | inl same ↦ subst (λ n. IsStill g.D.Disk.tells (seen_at d0 n) (seen_at d1 n)) (sym same) still
      | inr differs ↦ still_same g.D.Disk.tells (seen_at d0 peer) (seen_at d1 peer) (seen_there f c.args.disks.now i peer x (λ same. differs (same ∙ at)))
    ] in
    let read : KeepTheirHeaders g.D.Disk.tells c.args.shape c.args.watch.now c.args.watch.now d0 d1 =
    their_still g.D.Disk.tells c.args.shape c.args.watch.now c.args.watch.now c.args.watch.now d0 d0 d1 (omega arith) (their_none g.D.Disk.tells c.args.shape c.args.watch.now d0 since) each in
    their_then g.D.Disk.tells c.args.shape c.args.watch.now c.args.watch.now c.even_shard.new.watch d0 d1 (map f c.even_shard.new.disks) read c.even_shard.ensures.headed
