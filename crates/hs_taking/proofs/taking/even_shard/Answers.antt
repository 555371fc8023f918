use Rattle.std.proofs.Common.{◌≡◌, ◌≢◌, ◌∙◌, ◌+◌, ◌<◌, ap, sym, subst, ℕ, List, map, length, refl, arith}
use Rattle.std.proofs.lemmas.List.{get_or-set_other, get_or-set_same}
use Rattle.std.specs.Prelude.{slice_set}
use Rattle.hs_limits.specs.Shape.{peer_of}
use Rattle.hs_peerlog.proofs.ImageLemmas.{Since}
use Rattle.hs_taking.proofs.DiskLemmas.{one_called, seen_is, seen_since, seen_there}
use Rattle.hs_taking.proofs.LevelLemmas.{view_still, still_same}
use Rattle.hs_taking.proofs.ShardLemmas.{all_evened, keeps_still, made_none_at, moved_all, moved_read, recovered_source, slot_with, sorted_none, sorted_slot, still_keeps}
use Rattle.hs_taking.specs.Copies.{IsOf}
use Rattle.hs_taking.specs.Disks.{DiskSeen, seen_as, seen_at}
use Rattle.hs_taking.specs.declared.slot.Slot.TheVariants.{Aside, Kept}
use Rattle.hs_taking.specs.declared.slot.Source.{Source}
use Rattle.hs_taking.specs.Evens.{AreEvened, IsRecovered, log_of}
use Rattle.hs_taking.specs.Pairs.{IsStill}
use Rattle.hs_taking.specs.Shares.{KeepsDisk}
use Rattle.hs_taking.specs.Slots.{IsSlot, lost_at, slot_at, log_in}
use Rattle.hs_taking.specs.Viewed.{IsViewOf}
use Rattle.hs_taking.proofs.HeadLemmas.{owns_set, owns_source, their_called, their_none, their_still, their_then, owns_compared}
use Rattle.hs_side.specs.Headers.{own_header}
use Rattle.hs_taking.specs.Headed.{KeepsItsHeader, KeepTheirHeaders, OwnsLog, OwnTheirLogs}
use Rattle.hs_taking.proofs.taking.even_shard.Goals as goal

pub returns-in-Err-clause-moved : goal.returns-in-Err-clause-moved
returns-in-Err-clause-moved g c =
    let f : g.row.D.Denot → DiskSeen = λ disk. seen_as (g.D.Disk.size disk) (g.D.Disk.stands disk) (g.D.Disk.faults disk) in
    let d0 : List DiskSeen = map f c.args.disks.now in
    let d1 : List DiskSeen = map f c.compare_copies.new.disks in
    let since : (peer : ℕ) → g.D.Disk.tells → Since (seen_at d0 peer).stands = λ peer told. seen_since f (λ disk side m high. g.met.D.Disk.since told disk side m high) c.args.disks.now peer in
    let one = c.compare_copies.ensures in
    moved_read g.D.Disk.tells c.args.shape c.args.shard c.args.peer c.args.watch.now c.args.watch.now d0 d1 c.args.slots.now.items (omega arith) since c.requires.viewed (λ peer differs. one.still peer)
    (still_keeps g.D.Disk.tells c.args.watch.now c.args.watch.now (seen_at d0 c.args.peer) (seen_at d1 c.args.peer) (omega arith) (since c.args.peer) (one.still c.args.peer)) one.outside

pub recover_taken-requires : goal.recover_taken-requires
recover_taken-requires g c =
    let f : g.row.D.Denot → DiskSeen = λ disk. seen_as (g.D.Disk.size disk) (g.D.Disk.stands disk) (g.D.Disk.faults disk) in
    let d0 : List DiskSeen = map f c.args.disks.now in
    let d1 : List DiskSeen = map f c.compare_copies.new.disks in
    let since : (peer : ℕ) → g.D.Disk.tells → Since (seen_at d0 peer).stands = λ peer told. seen_since f (λ disk side m high. g.met.D.Disk.since told disk side m high) c.args.disks.now peer in
    let one = c.compare_copies.ensures in
    let i : ℕ = c.from-place.result in
    let at : i ≡ c.args.peer = c.from-place.ensures in
    let low : i < length c.compare_copies.new.disks = omega (arith, at, c.requires.within, one.count, c.requires.count) in
    record {
      viewed = subst (λ (s : DiskSeen). IsViewOf g.D.Disk.tells c.args.shape c.args.peer s c.args.view) (ap (λ n. seen_at d1 n) (sym at) ∙ seen_is f c.compare_copies.new.disks i c.index-disks-place.result low)
          (view_still g.D.Disk.tells c.args.shape c.args.peer (seen_at d0 c.args.peer) (seen_at d1 c.args.peer) c.args.view (one.still c.args.peer) c.requires.taken);
    }

pub returns-in-Err-recover_taken-clause-moved : goal.returns-in-Err-recover_taken-clause-moved
returns-in-Err-recover_taken-clause-moved g c =
    let f : g.row.D.Denot → DiskSeen = λ disk. seen_as (g.D.Disk.size disk) (g.D.Disk.stands disk) (g.D.Disk.faults disk) in
    let d0 : List DiskSeen = map f c.args.disks.now in
    let d1 : List DiskSeen = map f c.compare_copies.new.disks in
    let since : (peer : ℕ) → g.D.Disk.tells → Since (seen_at d0 peer).stands = λ peer told. seen_since f (λ disk side m high. g.met.D.Disk.since told disk side m high) c.args.disks.now peer in
    let one = c.compare_copies.ensures in
    let i : ℕ = c.from-place.result in
    let at : i ≡ c.args.peer = c.from-place.ensures in
    let low : i < length c.compare_copies.new.disks = omega (arith, at, c.requires.within, one.count, c.requires.count) in
    let x = c.recover_taken.new.disk in
    let d2 : List DiskSeen = map f (slice_set c.compare_copies.new.disks i x) in
    let there : (peer : ℕ) → peer ≢ c.args.peer → seen_at d2 peer ≡ seen_at d1 peer = λ peer differs. seen_there f c.compare_copies.new.disks i peer x (λ same. differs (same ∙ at)) in
    let keeps : KeepsDisk g.D.Disk.tells c.args.watch.now c.recover_taken.new.watch (seen_at d1 c.args.peer) (seen_at d2 c.args.peer) =
    one_called f c.compare_copies.new.disks i c.args.peer x c.index-disks-place.result at low (λ a b. KeepsDisk g.D.Disk.tells c.args.watch.now c.recover_taken.new.watch a b) c.recover_taken.ensures.keeps in
    moved_read g.D.Disk.tells c.args.shape c.args.shard c.args.peer c.args.watch.now c.recover_taken.new.watch d0 d2 c.args.slots.now.items c.recover_taken.ensures.ticks since c.requires.viewed
    (λ peer differs. subst (λ (s : DiskSeen). IsStill g.D.Disk.tells (seen_at d0 peer) s) (sym (there peer differs)) (one.still peer))
    (keeps_still g.D.Disk.tells c.args.watch.now c.recover_taken.new.watch (seen_at d0 c.args.peer) (seen_at d1 c.args.peer) (seen_at d2 c.args.peer) (one.still c.args.peer) keeps)
    (λ peer not. there peer (λ same. not (subst (λ p. IsOf c.args.shape c.args.shard p) (sym same) c.requires.peer)) ∙ one.outside peer not)

pub level_copies-requires-clause-source : goal.level_copies-requires-clause-source
level_copies-requires-clause-source g c =
    let f : g.row.D.Denot → DiskSeen = λ disk. seen_as (g.D.Disk.size disk) (g.D.Disk.stands disk) (g.D.Disk.faults disk) in
    let d0 : List DiskSeen = map f c.args.disks.now in
    let d1 : List DiskSeen = map f c.compare_copies.new.disks in
    let since : (peer : ℕ) → g.D.Disk.tells → Since (seen_at d0 peer).stands = λ peer told. seen_since f (λ disk side m high. g.met.D.Disk.since told disk side m high) c.args.disks.now peer in
    let one = c.compare_copies.ensures in
    let i : ℕ = c.from-place.result in
    let at : i ≡ c.args.peer = c.from-place.ensures in
    let low : i < length c.compare_copies.new.disks = omega (arith, at, c.requires.within, one.count, c.requires.count) in
    let x = c.recover_taken.new.disk in
    let d2 : List DiskSeen = map f (slice_set c.compare_copies.new.disks i x) in
    let there : (peer : ℕ) → peer ≢ c.args.peer → seen_at d2 peer ≡ seen_at d1 peer = λ peer differs. seen_there f c.compare_copies.new.disks i peer x (λ same. differs (same ∙ at)) in
    let keeps : KeepsDisk g.D.Disk.tells c.args.watch.now c.recover_taken.new.watch (seen_at d1 c.args.peer) (seen_at d2 c.args.peer) =
    one_called f c.compare_copies.new.disks i c.args.peer x c.index-disks-place.result at low (λ a b. KeepsDisk g.D.Disk.tells c.args.watch.now c.recover_taken.new.watch a b) c.recover_taken.ensures.keeps in
    let rec : IsRecovered g.D.Disk.tells c.args.watch.now c.recover_taken.new.watch (seen_at d1 c.args.peer) (seen_at d2 c.args.peer) c.in-Ok.lost c.in-Ok-recover_taken.source =
    one_called f c.compare_copies.new.disks i c.args.peer x c.index-disks-place.result at low (λ a b. IsRecovered g.D.Disk.tells c.args.watch.now c.recover_taken.new.watch a b c.in-Ok.lost c.in-Ok-recover_taken.source) c.in-Ok-recover_taken.ensures.recovered in
    recovered_source g.D.Disk.tells c.args.watch.now c.recover_taken.new.watch (seen_at d1 c.args.peer) (seen_at d2 c.args.peer) c.in-Ok.lost c.in-Ok-recover_taken.source rec

pub level_copies-requires-clause-viewed : goal.level_copies-requires-clause-viewed
level_copies-requires-clause-viewed g c = λ peer of differs.
    let f : g.row.D.Denot → DiskSeen = λ disk. seen_as (g.D.Disk.size disk) (g.D.Disk.stands disk) (g.D.Disk.faults disk) in
    let d0 : List DiskSeen = map f c.args.disks.now in
    let d1 : List DiskSeen = map f c.compare_copies.new.disks in
    let since : (peer : ℕ) → g.D.Disk.tells → Since (seen_at d0 peer).stands = λ peer told. seen_since f (λ disk side m high. g.met.D.Disk.since told disk side m high) c.args.disks.now peer in
    let one = c.compare_copies.ensures in
    let i : ℕ = c.from-place.result in
    let at : i ≡ c.args.peer = c.from-place.ensures in
    let low : i < length c.compare_copies.new.disks = omega (arith, at, c.requires.within, one.count, c.requires.count) in
    let x = c.recover_taken.new.disk in
    let d2 : List DiskSeen = map f (slice_set c.compare_copies.new.disks i x) in
    let there : (peer : ℕ) → peer ≢ c.args.peer → seen_at d2 peer ≡ seen_at d1 peer = λ peer differs. seen_there f c.compare_copies.new.disks i peer x (λ same. differs (same ∙ at)) in
    let keeps : KeepsDisk g.D.Disk.tells c.args.watch.now c.recover_taken.new.watch (seen_at d1 c.args.peer) (seen_at d2 c.args.peer) =
    one_called f c.compare_copies.new.disks i c.args.peer x c.index-disks-place.result at low (λ a b. KeepsDisk g.D.Disk.tells c.args.watch.now c.recover_taken.new.watch a b) c.recover_taken.ensures.keeps in
    subst (λ (s : DiskSeen). IsSlot g.D.Disk.tells c.args.shape peer s (slot_at c.compare_copies.new.slots.items peer)) (sym (there peer differs))
    (sorted_slot g.D.Disk.tells c.args.shape peer (seen_at d0 c.args.peer) (seen_at d0 peer) (seen_at d1 peer) c.in-Ok.lost (slot_at c.args.slots.now.items peer) (slot_at c.compare_copies.new.slots.items peer) (one.still peer) (c.requires.viewed peer of) (c.in-Ok.ensures.sorted.each peer of of.to))

pub returns-in-Err-level_copies-clause-moved : goal.returns-in-Err-level_copies-clause-moved
returns-in-Err-level_copies-clause-moved g c =
    let f : g.row.D.Denot → DiskSeen = λ disk. seen_as (g.D.Disk.size disk) (g.D.Disk.stands disk) (g.D.Disk.faults disk) in
    let d0 : List DiskSeen = map f c.args.disks.now in
    let d1 : List DiskSeen = map f c.compare_copies.new.disks in
    let since : (peer : ℕ) → g.D.Disk.tells → Since (seen_at d0 peer).stands = λ peer told. seen_since f (λ disk side m high. g.met.D.Disk.since told disk side m high) c.args.disks.now peer in
    let one = c.compare_copies.ensures in
    let i : ℕ = c.from-place.result in
    let at : i ≡ c.args.peer = c.from-place.ensures in
    let low : i < length c.compare_copies.new.disks = omega (arith, at, c.requires.within, one.count, c.requires.count) in
    let x = c.recover_taken.new.disk in
    let d2 : List DiskSeen = map f (slice_set c.compare_copies.new.disks i x) in
    let there : (peer : ℕ) → peer ≢ c.args.peer → seen_at d2 peer ≡ seen_at d1 peer = λ peer differs. seen_there f c.compare_copies.new.disks i peer x (λ same. differs (same ∙ at)) in
    let keeps : KeepsDisk g.D.Disk.tells c.args.watch.now c.recover_taken.new.watch (seen_at d1 c.args.peer) (seen_at d2 c.args.peer) =
    one_called f c.compare_copies.new.disks i c.args.peer x c.index-disks-place.result at low (λ a b. KeepsDisk g.D.Disk.tells c.args.watch.now c.recover_taken.new.watch a b) c.recover_taken.ensures.keeps in
    let rec : IsRecovered g.D.Disk.tells c.args.watch.now c.recover_taken.new.watch (seen_at d1 c.args.peer) (seen_at d2 c.args.peer) c.in-Ok.lost c.in-Ok-recover_taken.source =
    one_called f c.compare_copies.new.disks i c.args.peer x c.index-disks-place.result at low (λ a b. IsRecovered g.D.Disk.tells c.args.watch.now c.recover_taken.new.watch a b c.in-Ok.lost c.in-Ok-recover_taken.source) c.in-Ok-recover_taken.ensures.recovered in
    let d3 : List DiskSeen = map f c.level_copies.new.disks in
    let since2 : g.D.Disk.tells → Since (seen_at d2 c.args.peer).stands = λ told. seen_since f (λ disk side m high. g.met.D.Disk.since told disk side m high) (slice_set c.compare_copies.new.disks i x) c.args.peer in
    let two = c.level_copies.ensures in
    moved_all g.D.Disk.tells c.args.shape c.args.shard c.args.peer c.args.watch.now c.recover_taken.new.watch c.level_copies.new.watch d0 d1 d2 d3 c.args.slots.now.items c.compare_copies.new.slots.items c.in-Ok.lost c.in-Ok-recover_taken.source
    c.recover_taken.ensures.ticks two.ticks since since2 c.requires.viewed c.in-Ok.ensures.sorted rec keeps there c.requires.peer two.moved two.still two.outside

pub returns-in-Kept-clause-moved : goal.returns-in-Kept-clause-moved
returns-in-Kept-clause-moved g c =
    let f : g.row.D.Denot → DiskSeen = λ disk. seen_as (g.D.Disk.size disk) (g.D.Disk.stands disk) (g.D.Disk.faults disk) in
    let d0 : List DiskSeen = map f c.args.disks.now in
    let d1 : List DiskSeen = map f c.compare_copies.new.disks in
    let since : (peer : ℕ) → g.D.Disk.tells → Since (seen_at d0 peer).stands = λ peer told. seen_since f (λ disk side m high. g.met.D.Disk.since told disk side m high) c.args.disks.now peer in
    let one = c.compare_copies.ensures in
    let i : ℕ = c.from-place.result in
    let at : i ≡ c.args.peer = c.from-place.ensures in
    let low : i < length c.compare_copies.new.disks = omega (arith, at, c.requires.within, one.count, c.requires.count) in
    let x = c.recover_taken.new.disk in
    let d2 : List DiskSeen = map f (slice_set c.compare_copies.new.disks i x) in
    let there : (peer : ℕ) → peer ≢ c.args.peer → seen_at d2 peer ≡ seen_at d1 peer = λ peer differs. seen_there f c.compare_copies.new.disks i peer x (λ same. differs (same ∙ at)) in
    let keeps : KeepsDisk g.D.Disk.tells c.args.watch.now c.recover_taken.new.watch (seen_at d1 c.args.peer) (seen_at d2 c.args.peer) =
    one_called f c.compare_copies.new.disks i c.args.peer x c.index-disks-place.result at low (λ a b. KeepsDisk g.D.Disk.tells c.args.watch.now c.recover_taken.new.watch a b) c.recover_taken.ensures.keeps in
    let rec : IsRecovered g.D.Disk.tells c.args.watch.now c.recover_taken.new.watch (seen_at d1 c.args.peer) (seen_at d2 c.args.peer) c.in-Ok.lost c.in-Ok-recover_taken.source =
    one_called f c.compare_copies.new.disks i c.args.peer x c.index-disks-place.result at low (λ a b. IsRecovered g.D.Disk.tells c.args.watch.now c.recover_taken.new.watch a b c.in-Ok.lost c.in-Ok-recover_taken.source) c.in-Ok-recover_taken.ensures.recovered in
    let d3 : List DiskSeen = map f c.level_copies.new.disks in
    let since2 : g.D.Disk.tells → Since (seen_at d2 c.args.peer).stands = λ told. seen_since f (λ disk side m high. g.met.D.Disk.since told disk side m high) (slice_set c.compare_copies.new.disks i x) c.args.peer in
    let two = c.level_copies.ensures in
    moved_all g.D.Disk.tells c.args.shape c.args.shard c.args.peer c.args.watch.now c.recover_taken.new.watch c.level_copies.new.watch d0 d1 d2 d3 c.args.slots.now.items c.compare_copies.new.slots.items c.in-Ok.lost c.in-Ok-recover_taken.source
    c.recover_taken.ensures.ticks two.ticks since since2 c.requires.viewed c.in-Ok.ensures.sorted rec keeps there c.requires.peer two.moved two.still two.outside

pub returns-in-Lost-clause-moved : goal.returns-in-Lost-clause-moved
returns-in-Lost-clause-moved g c =
    let f : g.row.D.Denot → DiskSeen = λ disk. seen_as (g.D.Disk.size disk) (g.D.Disk.stands disk) (g.D.Disk.faults disk) in
    let d0 : List DiskSeen = map f c.args.disks.now in
    let d1 : List DiskSeen = map f c.compare_copies.new.disks in
    let since : (peer : ℕ) → g.D.Disk.tells → Since (seen_at d0 peer).stands = λ peer told. seen_since f (λ disk side m high. g.met.D.Disk.since told disk side m high) c.args.disks.now peer in
    let one = c.compare_copies.ensures in
    let i : ℕ = c.from-place.result in
    let at : i ≡ c.args.peer = c.from-place.ensures in
    let low : i < length c.compare_copies.new.disks = omega (arith, at, c.requires.within, one.count, c.requires.count) in
    let x = c.recover_taken.new.disk in
    let d2 : List DiskSeen = map f (slice_set c.compare_copies.new.disks i x) in
    let there : (peer : ℕ) → peer ≢ c.args.peer → seen_at d2 peer ≡ seen_at d1 peer = λ peer differs. seen_there f c.compare_copies.new.disks i peer x (λ same. differs (same ∙ at)) in
    let keeps : KeepsDisk g.D.Disk.tells c.args.watch.now c.recover_taken.new.watch (seen_at d1 c.args.peer) (seen_at d2 c.args.peer) =
    one_called f c.compare_copies.new.disks i c.args.peer x c.index-disks-place.result at low (λ a b. KeepsDisk g.D.Disk.tells c.args.watch.now c.recover_taken.new.watch a b) c.recover_taken.ensures.keeps in
    let rec : IsRecovered g.D.Disk.tells c.args.watch.now c.recover_taken.new.watch (seen_at d1 c.args.peer) (seen_at d2 c.args.peer) c.in-Ok.lost c.in-Ok-recover_taken.source =
    one_called f c.compare_copies.new.disks i c.args.peer x c.index-disks-place.result at low (λ a b. IsRecovered g.D.Disk.tells c.args.watch.now c.recover_taken.new.watch a b c.in-Ok.lost c.in-Ok-recover_taken.source) c.in-Ok-recover_taken.ensures.recovered in
    let d3 : List DiskSeen = map f c.level_copies.new.disks in
    let since2 : g.D.Disk.tells → Since (seen_at d2 c.args.peer).stands = λ told. seen_since f (λ disk side m high. g.met.D.Disk.since told disk side m high) (slice_set c.compare_copies.new.disks i x) c.args.peer in
    let two = c.level_copies.ensures in
    moved_all g.D.Disk.tells c.args.shape c.args.shard c.args.peer c.args.watch.now c.recover_taken.new.watch c.level_copies.new.watch d0 d1 d2 d3 c.args.slots.now.items c.compare_copies.new.slots.items c.in-Ok.lost c.in-Ok-recover_taken.source
    c.recover_taken.ensures.ticks two.ticks since since2 c.requires.viewed c.in-Ok.ensures.sorted rec keeps there c.requires.peer two.moved two.still two.outside

pub returns-in-Kept-clause-evened : goal.returns-in-Kept-clause-evened
returns-in-Kept-clause-evened g c =
    let f : g.row.D.Denot → DiskSeen = λ disk. seen_as (g.D.Disk.size disk) (g.D.Disk.stands disk) (g.D.Disk.faults disk) in
    let d0 : List DiskSeen = map f c.args.disks.now in
    let d1 : List DiskSeen = map f c.compare_copies.new.disks in
    let since : (peer : ℕ) → g.D.Disk.tells → Since (seen_at d0 peer).stands = λ peer told. seen_since f (λ disk side m high. g.met.D.Disk.since told disk side m high) c.args.disks.now peer in
    let one = c.compare_copies.ensures in
    let i : ℕ = c.from-place.result in
    let at : i ≡ c.args.peer = c.from-place.ensures in
    let low : i < length c.compare_copies.new.disks = omega (arith, at, c.requires.within, one.count, c.requires.count) in
    let x = c.recover_taken.new.disk in
    let d2 : List DiskSeen = map f (slice_set c.compare_copies.new.disks i x) in
    let there : (peer : ℕ) → peer ≢ c.args.peer → seen_at d2 peer ≡ seen_at d1 peer = λ peer differs. seen_there f c.compare_copies.new.disks i peer x (λ same. differs (same ∙ at)) in
    let keeps : KeepsDisk g.D.Disk.tells c.args.watch.now c.recover_taken.new.watch (seen_at d1 c.args.peer) (seen_at d2 c.args.peer) =
    one_called f c.compare_copies.new.disks i c.args.peer x c.index-disks-place.result at low (λ a b. KeepsDisk g.D.Disk.tells c.args.watch.now c.recover_taken.new.watch a b) c.recover_taken.ensures.keeps in
    let rec : IsRecovered g.D.Disk.tells c.args.watch.now c.recover_taken.new.watch (seen_at d1 c.args.peer) (seen_at d2 c.args.peer) c.in-Ok.lost c.in-Ok-recover_taken.source =
    one_called f c.compare_copies.new.disks i c.args.peer x c.index-disks-place.result at low (λ a b. IsRecovered g.D.Disk.tells c.args.watch.now c.recover_taken.new.watch a b c.in-Ok.lost c.in-Ok-recover_taken.source) c.in-Ok-recover_taken.ensures.recovered in
    let d3 : List DiskSeen = map f c.level_copies.new.disks in
    let since2 : g.D.Disk.tells → Since (seen_at d2 c.args.peer).stands = λ told. seen_since f (λ disk side m high. g.met.D.Disk.since told disk side m high) (slice_set c.compare_copies.new.disks i x) c.args.peer in
    let two = c.level_copies.ensures in
    let last = c.level_copies.new.source in
    let slots2 = c.level_copies.new.slots.items in
    let slots3 = slice_set slots2 i (Kept c.in-Kept.log) in
    subst (λ (s : Source). AreEvened g.D.Disk.tells c.args.shape c.args.shard c.args.peer c.args.watch.now c.level_copies.new.watch d0 d3 c.args.slots.now.items slots3 (lost_at s)) c.in-Kept.is
    (all_evened g.D.Disk.tells c.args.shape c.args.shard c.args.peer c.args.watch.now c.recover_taken.new.watch c.level_copies.new.watch d0 d1 d2 d3 c.args.slots.now.items c.compare_copies.new.slots.items slots2 slots3 c.in-Ok.lost c.in-Ok-recover_taken.source last
    c.recover_taken.ensures.ticks two.ticks since since2 c.requires.viewed c.in-Ok.ensures.sorted rec keeps there c.in-Ok-level_copies.ensures.made
    (λ peer differs. get_or-set_other slots2 i peer (Kept c.in-Kept.log) Aside (λ same. differs (same ∙ at)))
    (ap (λ n. slot_at slots3 n) (sym at) ∙ get_or-set_same slots2 i (Kept c.in-Kept.log) Aside (omega (arith, at, c.requires.within, two.slots, one.slots, c.requires.slots)) ∙ ap (λ (s : Source). slot_with s) (sym c.in-Kept.is)))

pub returns-in-Lost-clause-evened : goal.returns-in-Lost-clause-evened
returns-in-Lost-clause-evened g c =
    let f : g.row.D.Denot → DiskSeen = λ disk. seen_as (g.D.Disk.size disk) (g.D.Disk.stands disk) (g.D.Disk.faults disk) in
    let d0 : List DiskSeen = map f c.args.disks.now in
    let d1 : List DiskSeen = map f c.compare_copies.new.disks in
    let since : (peer : ℕ) → g.D.Disk.tells → Since (seen_at d0 peer).stands = λ peer told. seen_since f (λ disk side m high. g.met.D.Disk.since told disk side m high) c.args.disks.now peer in
    let one = c.compare_copies.ensures in
    let i : ℕ = c.from-place.result in
    let at : i ≡ c.args.peer = c.from-place.ensures in
    let low : i < length c.compare_copies.new.disks = omega (arith, at, c.requires.within, one.count, c.requires.count) in
    let x = c.recover_taken.new.disk in
    let d2 : List DiskSeen = map f (slice_set c.compare_copies.new.disks i x) in
    let there : (peer : ℕ) → peer ≢ c.args.peer → seen_at d2 peer ≡ seen_at d1 peer = λ peer differs. seen_there f c.compare_copies.new.disks i peer x (λ same. differs (same ∙ at)) in
    let keeps : KeepsDisk g.D.Disk.tells c.args.watch.now c.recover_taken.new.watch (seen_at d1 c.args.peer) (seen_at d2 c.args.peer) =
    one_called f c.compare_copies.new.disks i c.args.peer x c.index-disks-place.result at low (λ a b. KeepsDisk g.D.Disk.tells c.args.watch.now c.recover_taken.new.watch a b) c.recover_taken.ensures.keeps in
    let rec : IsRecovered g.D.Disk.tells c.args.watch.now c.recover_taken.new.watch (seen_at d1 c.args.peer) (seen_at d2 c.args.peer) c.in-Ok.lost c.in-Ok-recover_taken.source =
    one_called f c.compare_copies.new.disks i c.args.peer x c.index-disks-place.result at low (λ a b. IsRecovered g.D.Disk.tells c.args.watch.now c.recover_taken.new.watch a b c.in-Ok.lost c.in-Ok-recover_taken.source) c.in-Ok-recover_taken.ensures.recovered in
    let d3 : List DiskSeen = map f c.level_copies.new.disks in
    let since2 : g.D.Disk.tells → Since (seen_at d2 c.args.peer).stands = λ told. seen_since f (λ disk side m high. g.met.D.Disk.since told disk side m high) (slice_set c.compare_copies.new.disks i x) c.args.peer in
    let two = c.level_copies.ensures in
    let last = c.level_copies.new.source in
    let slots2 = c.level_copies.new.slots.items in
    let slots3 = slots2 in
    let none1 = sorted_none g.D.Disk.tells c.args.shape c.args.shard c.args.peer (peer_of c.args.shape c.args.shard 0 + c.args.shape.copies) d0 d1 c.args.slots.now.items c.compare_copies.new.slots.items c.in-Ok.lost c.requires.peer c.requires.peer.to c.requires.aside c.in-Ok.ensures.sorted in
    let none2 : slot_at slots2 c.args.peer ≡ Aside = made_none_at g.D.Disk.tells c.args.shape c.args.shard c.args.peer (peer_of c.args.shape c.args.shard 0 + c.args.shape.copies) c.recover_taken.new.watch c.level_copies.new.watch d2 d3 c.compare_copies.new.slots.items slots2 c.in-Ok-recover_taken.source last c.requires.peer c.requires.peer.to none1 c.in-Ok-level_copies.ensures.made in
    subst (λ (s : Source). AreEvened g.D.Disk.tells c.args.shape c.args.shard c.args.peer c.args.watch.now c.level_copies.new.watch d0 d3 c.args.slots.now.items slots3 (lost_at s)) c.in-Lost.is
    (all_evened g.D.Disk.tells c.args.shape c.args.shard c.args.peer c.args.watch.now c.recover_taken.new.watch c.level_copies.new.watch d0 d1 d2 d3 c.args.slots.now.items c.compare_copies.new.slots.items slots2 slots3 c.in-Ok.lost c.in-Ok-recover_taken.source last
    c.recover_taken.ensures.ticks two.ticks since since2 c.requires.viewed c.in-Ok.ensures.sorted rec keeps there c.in-Ok-level_copies.ensures.made
    (λ peer differs. refl)
    (none2 ∙ ap (λ (s : Source). slot_with s) (sym c.in-Lost.is)))

pub returns-in-Kept-clause-outside : goal.returns-in-Kept-clause-outside
returns-in-Kept-clause-outside g c =
    let f : g.row.D.Denot → DiskSeen = λ disk. seen_as (g.D.Disk.size disk) (g.D.Disk.stands disk) (g.D.Disk.faults disk) in
    let d0 : List DiskSeen = map f c.args.disks.now in
    let d1 : List DiskSeen = map f c.compare_copies.new.disks in
    let since : (peer : ℕ) → g.D.Disk.tells → Since (seen_at d0 peer).stands = λ peer told. seen_since f (λ disk side m high. g.met.D.Disk.since told disk side m high) c.args.disks.now peer in
    let one = c.compare_copies.ensures in
    let i : ℕ = c.from-place.result in
    let at : i ≡ c.args.peer = c.from-place.ensures in
    let low : i < length c.compare_copies.new.disks = omega (arith, at, c.requires.within, one.count, c.requires.count) in
    let x = c.recover_taken.new.disk in
    let d2 : List DiskSeen = map f (slice_set c.compare_copies.new.disks i x) in
    let there : (peer : ℕ) → peer ≢ c.args.peer → seen_at d2 peer ≡ seen_at d1 peer = λ peer differs. seen_there f c.compare_copies.new.disks i peer x (λ same. differs (same ∙ at)) in
    let keeps : KeepsDisk g.D.Disk.tells c.args.watch.now c.recover_taken.new.watch (seen_at d1 c.args.peer) (seen_at d2 c.args.peer) =
    one_called f c.compare_copies.new.disks i c.args.peer x c.index-disks-place.result at low (λ a b. KeepsDisk g.D.Disk.tells c.args.watch.now c.recover_taken.new.watch a b) c.recover_taken.ensures.keeps in
    let rec : IsRecovered g.D.Disk.tells c.args.watch.now c.recover_taken.new.watch (seen_at d1 c.args.peer) (seen_at d2 c.args.peer) c.in-Ok.lost c.in-Ok-recover_taken.source =
    one_called f c.compare_copies.new.disks i c.args.peer x c.index-disks-place.result at low (λ a b. IsRecovered g.D.Disk.tells c.args.watch.now c.recover_taken.new.watch a b c.in-Ok.lost c.in-Ok-recover_taken.source) c.in-Ok-recover_taken.ensures.recovered in
    let d3 : List DiskSeen = map f c.level_copies.new.disks in
    let since2 : g.D.Disk.tells → Since (seen_at d2 c.args.peer).stands = λ told. seen_since f (λ disk side m high. g.met.D.Disk.since told disk side m high) (slice_set c.compare_copies.new.disks i x) c.args.peer in
    let two = c.level_copies.ensures in
    let last = c.level_copies.new.source in
    let slots2 = c.level_copies.new.slots.items in
    let slots3 = slice_set slots2 i (Kept c.in-Kept.log) in
    λ other not. get_or-set_other slots2 i other (Kept c.in-Kept.log) Aside (λ same. not (subst (λ p. IsOf c.args.shape c.args.shard p) (sym (same ∙ at)) c.requires.peer)) ∙ (c.in-Ok-level_copies.ensures.made.outside other not).0 ∙ (c.in-Ok.ensures.sorted.outside other not).0

pub returns-in-Lost-clause-outside : goal.returns-in-Lost-clause-outside
returns-in-Lost-clause-outside g c =
    let f : g.row.D.Denot → DiskSeen = λ disk. seen_as (g.D.Disk.size disk) (g.D.Disk.stands disk) (g.D.Disk.faults disk) in
    let d0 : List DiskSeen = map f c.args.disks.now in
    let d1 : List DiskSeen = map f c.compare_copies.new.disks in
    let since : (peer : ℕ) → g.D.Disk.tells → Since (seen_at d0 peer).stands = λ peer told. seen_since f (λ disk side m high. g.met.D.Disk.since told disk side m high) c.args.disks.now peer in
    let one = c.compare_copies.ensures in
    let i : ℕ = c.from-place.result in
    let at : i ≡ c.args.peer = c.from-place.ensures in
    let low : i < length c.compare_copies.new.disks = omega (arith, at, c.requires.within, one.count, c.requires.count) in
    let x = c.recover_taken.new.disk in
    let d2 : List DiskSeen = map f (slice_set c.compare_copies.new.disks i x) in
    let there : (peer : ℕ) → peer ≢ c.args.peer → seen_at d2 peer ≡ seen_at d1 peer = λ peer differs. seen_there f c.compare_copies.new.disks i peer x (λ same. differs (same ∙ at)) in
    let keeps : KeepsDisk g.D.Disk.tells c.args.watch.now c.recover_taken.new.watch (seen_at d1 c.args.peer) (seen_at d2 c.args.peer) =
    one_called f c.compare_copies.new.disks i c.args.peer x c.index-disks-place.result at low (λ a b. KeepsDisk g.D.Disk.tells c.args.watch.now c.recover_taken.new.watch a b) c.recover_taken.ensures.keeps in
    let rec : IsRecovered g.D.Disk.tells c.args.watch.now c.recover_taken.new.watch (seen_at d1 c.args.peer) (seen_at d2 c.args.peer) c.in-Ok.lost c.in-Ok-recover_taken.source =
    one_called f c.compare_copies.new.disks i c.args.peer x c.index-disks-place.result at low (λ a b. IsRecovered g.D.Disk.tells c.args.watch.now c.recover_taken.new.watch a b c.in-Ok.lost c.in-Ok-recover_taken.source) c.in-Ok-recover_taken.ensures.recovered in
    let d3 : List DiskSeen = map f c.level_copies.new.disks in
    let since2 : g.D.Disk.tells → Since (seen_at d2 c.args.peer).stands = λ told. seen_since f (λ disk side m high. g.met.D.Disk.since told disk side m high) (slice_set c.compare_copies.new.disks i x) c.args.peer in
    let two = c.level_copies.ensures in
    let last = c.level_copies.new.source in
    let slots2 = c.level_copies.new.slots.items in
    let slots3 = slots2 in
    λ other not. (c.in-Ok-level_copies.ensures.made.outside other not).0 ∙ (c.in-Ok.ensures.sorted.outside other not).0

pub returns-in-Err-clause-headed : goal.returns-in-Err-clause-headed
returns-in-Err-clause-headed g c =
    let f : g.row.D.Denot → DiskSeen = λ disk. seen_as (g.D.Disk.size disk) (g.D.Disk.stands disk) (g.D.Disk.faults disk) in
    let d0 : List DiskSeen = map f c.args.disks.now in
    let d1 : List DiskSeen = map f c.compare_copies.new.disks in
    let since : (peer : ℕ) → g.D.Disk.tells → Since (seen_at d0 peer).stands = λ peer told. seen_since f (λ disk side m high. g.met.D.Disk.since told disk side m high) c.args.disks.now peer in
    let one = c.compare_copies.ensures in
    let read : KeepTheirHeaders g.D.Disk.tells c.args.shape c.args.watch.now c.args.watch.now d0 d1 =
    their_still g.D.Disk.tells c.args.shape c.args.watch.now c.args.watch.now c.args.watch.now d0 d0 d1 (omega arith) (their_none g.D.Disk.tells c.args.shape c.args.watch.now d0 since) one.still in
    read

pub returns-in-Err-recover_taken-clause-headed : goal.returns-in-Err-recover_taken-clause-headed
returns-in-Err-recover_taken-clause-headed g c =
    let f : g.row.D.Denot → DiskSeen = λ disk. seen_as (g.D.Disk.size disk) (g.D.Disk.stands disk) (g.D.Disk.faults disk) in
    let d0 : List DiskSeen = map f c.args.disks.now in
    let d1 : List DiskSeen = map f c.compare_copies.new.disks in
    let since : (peer : ℕ) → g.D.Disk.tells → Since (seen_at d0 peer).stands = λ peer told. seen_since f (λ disk side m high. g.met.D.Disk.since told disk side m high) c.args.disks.now peer in
    let one = c.compare_copies.ensures in
    let read : KeepTheirHeaders g.D.Disk.tells c.args.shape c.args.watch.now c.args.watch.now d0 d1 =
    their_still g.D.Disk.tells c.args.shape c.args.watch.now c.args.watch.now c.args.watch.now d0 d0 d1 (omega arith) (their_none g.D.Disk.tells c.args.shape c.args.watch.now d0 since) one.still in
    let i : ℕ = c.from-place.result in
    let at : i ≡ c.args.peer = c.from-place.ensures in
    let low : i < length c.compare_copies.new.disks = omega (arith, at, c.requires.within, one.count, c.requires.count) in
    let x = c.recover_taken.new.disk in
    let d2 : List DiskSeen = map f (slice_set c.compare_copies.new.disks i x) in
    let there : (peer : ℕ) → peer ≢ c.args.peer → seen_at d2 peer ≡ seen_at d1 peer = λ peer differs. seen_there f c.compare_copies.new.disks i peer x (λ same. differs (same ∙ at)) in
    let found : KeepTheirHeaders g.D.Disk.tells c.args.shape c.args.watch.now c.recover_taken.new.watch d0 d2 =
    their_called g.D.Disk.tells c.args.shape c.args.watch.now c.args.watch.now c.recover_taken.new.watch d0 d1 d2 c.args.peer c.recover_taken.ensures.ticks read
    (one_called f c.compare_copies.new.disks i c.args.peer x c.index-disks-place.result at low (λ a b. KeepsItsHeader g.D.Disk.tells (own_header c.args.shape c.args.peer) c.args.watch.now c.recover_taken.new.watch a b) c.recover_taken.ensures.headed)
    (λ peer differs. still_same g.D.Disk.tells (seen_at d1 peer) (seen_at d2 peer) (there peer differs)) in
    found

pub returns-in-Err-level_copies-clause-headed : goal.returns-in-Err-level_copies-clause-headed
returns-in-Err-level_copies-clause-headed g c =
    let f : g.row.D.Denot → DiskSeen = λ disk. seen_as (g.D.Disk.size disk) (g.D.Disk.stands disk) (g.D.Disk.faults disk) in
    let d0 : List DiskSeen = map f c.args.disks.now in
    let d1 : List DiskSeen = map f c.compare_copies.new.disks in
    let since : (peer : ℕ) → g.D.Disk.tells → Since (seen_at d0 peer).stands = λ peer told. seen_since f (λ disk side m high. g.met.D.Disk.since told disk side m high) c.args.disks.now peer in
    let one = c.compare_copies.ensures in
    let read : KeepTheirHeaders g.D.Disk.tells c.args.shape c.args.watch.now c.args.watch.now d0 d1 =
    their_still g.D.Disk.tells c.args.shape c.args.watch.now c.args.watch.now c.args.watch.now d0 d0 d1 (omega arith) (their_none g.D.Disk.tells c.args.shape c.args.watch.now d0 since) one.still in
    let i : ℕ = c.from-place.result in
    let at : i ≡ c.args.peer = c.from-place.ensures in
    let low : i < length c.compare_copies.new.disks = omega (arith, at, c.requires.within, one.count, c.requires.count) in
    let x = c.recover_taken.new.disk in
    let d2 : List DiskSeen = map f (slice_set c.compare_copies.new.disks i x) in
    let there : (peer : ℕ) → peer ≢ c.args.peer → seen_at d2 peer ≡ seen_at d1 peer = λ peer differs. seen_there f c.compare_copies.new.disks i peer x (λ same. differs (same ∙ at)) in
    let found : KeepTheirHeaders g.D.Disk.tells c.args.shape c.args.watch.now c.recover_taken.new.watch d0 d2 =
    their_called g.D.Disk.tells c.args.shape c.args.watch.now c.args.watch.now c.recover_taken.new.watch d0 d1 d2 c.args.peer c.recover_taken.ensures.ticks read
    (one_called f c.compare_copies.new.disks i c.args.peer x c.index-disks-place.result at low (λ a b. KeepsItsHeader g.D.Disk.tells (own_header c.args.shape c.args.peer) c.args.watch.now c.recover_taken.new.watch a b) c.recover_taken.ensures.headed)
    (λ peer differs. still_same g.D.Disk.tells (seen_at d1 peer) (seen_at d2 peer) (there peer differs)) in
    let d3 : List DiskSeen = map f c.level_copies.new.disks in
    their_then g.D.Disk.tells c.args.shape c.args.watch.now c.recover_taken.new.watch c.level_copies.new.watch d0 d2 d3 found c.level_copies.ensures.headed

pub returns-in-Kept-clause-headed : goal.returns-in-Kept-clause-headed
returns-in-Kept-clause-headed g c =
    let f : g.row.D.Denot → DiskSeen = λ disk. seen_as (g.D.Disk.size disk) (g.D.Disk.stands disk) (g.D.Disk.faults disk) in
    let d0 : List DiskSeen = map f c.args.disks.now in
    let d1 : List DiskSeen = map f c.compare_copies.new.disks in
    let since : (peer : ℕ) → g.D.Disk.tells → Since (seen_at d0 peer).stands = λ peer told. seen_since f (λ disk side m high. g.met.D.Disk.since told disk side m high) c.args.disks.now peer in
    let one = c.compare_copies.ensures in
    let read : KeepTheirHeaders g.D.Disk.tells c.args.shape c.args.watch.now c.args.watch.now d0 d1 =
    their_still g.D.Disk.tells c.args.shape c.args.watch.now c.args.watch.now c.args.watch.now d0 d0 d1 (omega arith) (their_none g.D.Disk.tells c.args.shape c.args.watch.now d0 since) one.still in
    let i : ℕ = c.from-place.result in
    let at : i ≡ c.args.peer = c.from-place.ensures in
    let low : i < length c.compare_copies.new.disks = omega (arith, at, c.requires.within, one.count, c.requires.count) in
    let x = c.recover_taken.new.disk in
    let d2 : List DiskSeen = map f (slice_set c.compare_copies.new.disks i x) in
    let there : (peer : ℕ) → peer ≢ c.args.peer → seen_at d2 peer ≡ seen_at d1 peer = λ peer differs. seen_there f c.compare_copies.new.disks i peer x (λ same. differs (same ∙ at)) in
    let found : KeepTheirHeaders g.D.Disk.tells c.args.shape c.args.watch.now c.recover_taken.new.watch d0 d2 =
    their_called g.D.Disk.tells c.args.shape c.args.watch.now c.args.watch.now c.recover_taken.new.watch d0 d1 d2 c.args.peer c.recover_taken.ensures.ticks read
    (one_called f c.compare_copies.new.disks i c.args.peer x c.index-disks-place.result at low (λ a b. KeepsItsHeader g.D.Disk.tells (own_header c.args.shape c.args.peer) c.args.watch.now c.recover_taken.new.watch a b) c.recover_taken.ensures.headed)
    (λ peer differs. still_same g.D.Disk.tells (seen_at d1 peer) (seen_at d2 peer) (there peer differs)) in
    let d3 : List DiskSeen = map f c.level_copies.new.disks in
    their_then g.D.Disk.tells c.args.shape c.args.watch.now c.recover_taken.new.watch c.level_copies.new.watch d0 d2 d3 found c.level_copies.ensures.headed

pub returns-in-Lost-clause-headed : goal.returns-in-Lost-clause-headed
returns-in-Lost-clause-headed g c =
    let f : g.row.D.Denot → DiskSeen = λ disk. seen_as (g.D.Disk.size disk) (g.D.Disk.stands disk) (g.D.Disk.faults disk) in
    let d0 : List DiskSeen = map f c.args.disks.now in
    let d1 : List DiskSeen = map f c.compare_copies.new.disks in
    let since : (peer : ℕ) → g.D.Disk.tells → Since (seen_at d0 peer).stands = λ peer told. seen_since f (λ disk side m high. g.met.D.Disk.since told disk side m high) c.args.disks.now peer in
    let one = c.compare_copies.ensures in
    let read : KeepTheirHeaders g.D.Disk.tells c.args.shape c.args.watch.now c.args.watch.now d0 d1 =
    their_still g.D.Disk.tells c.args.shape c.args.watch.now c.args.watch.now c.args.watch.now d0 d0 d1 (omega arith) (their_none g.D.Disk.tells c.args.shape c.args.watch.now d0 since) one.still in
    let i : ℕ = c.from-place.result in
    let at : i ≡ c.args.peer = c.from-place.ensures in
    let low : i < length c.compare_copies.new.disks = omega (arith, at, c.requires.within, one.count, c.requires.count) in
    let x = c.recover_taken.new.disk in
    let d2 : List DiskSeen = map f (slice_set c.compare_copies.new.disks i x) in
    let there : (peer : ℕ) → peer ≢ c.args.peer → seen_at d2 peer ≡ seen_at d1 peer = λ peer differs. seen_there f c.compare_copies.new.disks i peer x (λ same. differs (same ∙ at)) in
    let found : KeepTheirHeaders g.D.Disk.tells c.args.shape c.args.watch.now c.recover_taken.new.watch d0 d2 =
    their_called g.D.Disk.tells c.args.shape c.args.watch.now c.args.watch.now c.recover_taken.new.watch d0 d1 d2 c.args.peer c.recover_taken.ensures.ticks read
    (one_called f c.compare_copies.new.disks i c.args.peer x c.index-disks-place.result at low (λ a b. KeepsItsHeader g.D.Disk.tells (own_header c.args.shape c.args.peer) c.args.watch.now c.recover_taken.new.watch a b) c.recover_taken.ensures.headed)
    (λ peer differs. still_same g.D.Disk.tells (seen_at d1 peer) (seen_at d2 peer) (there peer differs)) in
    let d3 : List DiskSeen = map f c.level_copies.new.disks in
    their_then g.D.Disk.tells c.args.shape c.args.watch.now c.recover_taken.new.watch c.level_copies.new.watch d0 d2 d3 found c.level_copies.ensures.headed

pub returns-in-Lost-clause-own : goal.returns-in-Lost-clause-own
returns-in-Lost-clause-own g c =
    let f : g.row.D.Denot → DiskSeen = λ disk. seen_as (g.D.Disk.size disk) (g.D.Disk.stands disk) (g.D.Disk.faults disk) in
    let d0 : List DiskSeen = map f c.args.disks.now in
    let d1 : List DiskSeen = map f c.compare_copies.new.disks in
    λ owns.
    let sorted : OwnTheirLogs g.D.Disk.tells c.args.shape (λ p. log_of (slot_at c.compare_copies.new.slots.items p)) =
    owns_compared g.D.Disk.tells c.args.shape c.args.shard c.args.peer d0 d1 c.args.slots.now.items c.compare_copies.new.slots.items c.in-Ok.lost c.in-Ok.ensures.sorted owns in
    let level = c.in-Ok-level_copies.ensures.own sorted in
    level

pub returns-in-Kept-clause-own : goal.returns-in-Kept-clause-own
returns-in-Kept-clause-own g c =
    let f : g.row.D.Denot → DiskSeen = λ disk. seen_as (g.D.Disk.size disk) (g.D.Disk.stands disk) (g.D.Disk.faults disk) in
    let d0 : List DiskSeen = map f c.args.disks.now in
    let d1 : List DiskSeen = map f c.compare_copies.new.disks in
    λ owns.
    let sorted : OwnTheirLogs g.D.Disk.tells c.args.shape (λ p. log_of (slot_at c.compare_copies.new.slots.items p)) =
    owns_compared g.D.Disk.tells c.args.shape c.args.shard c.args.peer d0 d1 c.args.slots.now.items c.compare_copies.new.slots.items c.in-Ok.lost c.in-Ok.ensures.sorted owns in
    let level = c.in-Ok-level_copies.ensures.own sorted in
    let i : ℕ = c.from-place.result in
    let at : i ≡ c.args.peer = c.from-place.ensures in
    let low : i < length c.level_copies.new.slots.items = omega (arith, at, c.requires.within, c.level_copies.ensures.slots, c.compare_copies.ensures.slots, c.requires.slots) in
    owns_set g.D.Disk.tells c.args.shape c.level_copies.new.slots.items i (Kept c.in-Kept.log) low level
    (λ told. subst (λ n. OwnsLog (own_header c.args.shape n) (log_of (Kept c.in-Kept.log))) (sym at)
    (subst (λ (s : Source). OwnsLog (own_header c.args.shape c.args.peer) (log_in s)) c.in-Kept.is
    (owns_source g.D.Disk.tells (own_header c.args.shape c.args.peer) c.recover_taken.new.watch c.level_copies.new.watch (seen_at (map f (slice_set c.compare_copies.new.disks i c.recover_taken.new.disk)) c.args.peer) (seen_at (map f c.level_copies.new.disks) c.args.peer) c.in-Ok-recover_taken.source c.level_copies.new.source c.in-Ok-level_copies.ensures.made.source (c.in-Ok-recover_taken.ensures.own told))))
