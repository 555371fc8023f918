use Rattle.std.proofs.Common.{◌≡◌, ◌∙◌, ◌*◌, ◌+◌, ◌<◌, ℕ, List, Option, None, ap, arith, inl, inr, is_some, length, map, refl, subst, sym, take, drop}
use Rattle.std.specs.Option.{option_map}
use Rattle.std.specs.Prelude.{IfSome, IsSome, slice_index_or, slice_set, unwrap_or}
use Rattle.hs_audit.proofs.ReadLemmas.{calm_of, some_is, unviewed_of}
use Rattle.hs_audit.proofs.RereadLemmas.{given_up_here, given_up_there, one_reread, one_still}
use Rattle.hs_audit.proofs.ShardLemmas.{copy_within, none_viewed, taken_counts}
use Rattle.hs_audit.specs.Rereading.{IsLogOf, viewing_at}
use Rattle.hs_coldstart.specs.Choose.{choose}
use Rattle.hs_entry.specs.declared.rank.Rank.{Rank}
use Rattle.hs_limits.specs.Shape.{peer_of}
use Rattle.hs_memory.specs.Forget.{apply_all}
use Rattle.hs_peerlog.specs.Views.{Viewing}
use Rattle.hs_shard.specs.Facts.{Catalogue, empty_catalogue}
use Rattle.hs_side.specs.Current.{list_in}
use Rattle.hs_taking.proofs.DiskLemmas.{seen_is}
use Rattle.hs_taking.proofs.StepLemmas.{at_any}
use Rattle.hs_taking.specs.Disks.{DiskSeen, seen_as, seen_at}
use Rattle.hs_taking.specs.Viewed.{IsViewOf}
use Rattle.hs_audit.proofs.reading.take_best.Goals as goal

pub read_log-found-requires-clause-viewed : goal.read_log-found-requires-clause-viewed
read_log-found-requires-clause-viewed g c =
    let f : g.row.D.Denot → DiskSeen = λ disk. seen_as (g.D.Disk.size disk) (g.D.Disk.stands disk) (g.D.Disk.faults disk) in
    let i : ℕ = c.from-place.result in
    let e : i ≡ c.taken_peer-peer.result = c.from-place.ensures in
    let within : i < c.args.shape.shards * c.args.shape.copies = omega (arith, c.taken_peer-peer.ensures.within, e) in
    let low : i < length c.args.disks.now = omega (arith, within, c.requires.count) in
    let there : i < length c.args.views.now = omega (arith, within, c.requires.views) in
    let item = at_any c.args.views.now i None c.index-views-place.result there in
    let viewed = subst (λ n. IfSome (slice_index_or c.args.views.now i None) (IsViewOf g.D.Disk.tells c.args.shape n (seen_at (map f c.args.disks.now) i))) e (c.requires.viewed i within) in
    let here = subst (λ (s : DiskSeen). IfSome (slice_index_or c.args.views.now i None) (IsViewOf g.D.Disk.tells c.args.shape c.taken_peer-peer.result s)) (seen_is f c.args.disks.now i c.index-disks-place.result low) viewed in
    subst (λ v. IfSome v (IsViewOf g.D.Disk.tells c.args.shape c.taken_peer-peer.result (f (slice_index_or c.args.disks.now i c.index-disks-place.result)))) item here

pub returns-in-Ok-Some-clause-taken : goal.returns-in-Ok-Some-clause-taken
returns-in-Ok-Some-clause-taken g c =
    let f : g.row.D.Denot → DiskSeen = λ disk. seen_as (g.D.Disk.size disk) (g.D.Disk.stands disk) (g.D.Disk.faults disk) in
    let i : ℕ = c.from-place.result in
    let e : i ≡ c.taken_peer-peer.result = c.from-place.ensures in
    let within : i < c.args.shape.shards * c.args.shape.copies = omega (arith, c.taken_peer-peer.ensures.within, e) in
    let low : i < length c.args.disks.now = omega (arith, within, c.requires.count) in
    let there : i < length c.args.views.now = omega (arith, within, c.requires.views) in
    let item = at_any c.args.views.now i None c.index-views-place.result there in
    let ranks : List (Option Rank) = c.as_slice.result.now in
    let ranked : ranks ≡ map (λ (view : Option Viewing). option_map (λ (v : Viewing). v.rank) view) c.args.views.now = c.as_slice.ensures.value ∙ c.in_ok-ranks.ensures in
    let is : i ≡ peer_of c.args.shape c.args.shard (unwrap_or (choose (take c.args.shape.copies (drop (peer_of c.args.shape c.args.shard 0) ranks))) 0) = e ∙ c.taken_peer-peer.ensures.value in
    let to : i < peer_of c.args.shape c.args.shard 0 + c.args.shape.copies = omega (arith, e, c.taken_peer-peer.ensures.to) in
    let seen = some_is (slice_index_or c.args.views.now i c.index-views-place.result) c.in-Ok-Some.ensures.viewed in
    let log = subst (λ o. IfSome o (IsLogOf g.D.Disk.tells (apply_all (g.A.Addresser.name c.args.naming.now) (empty_catalogue c.args.shape c.args.shard)) (f (slice_index_or c.args.disks.now i c.index-disks-place.result)))) c.in-Ok-Some.field-0-is c.in-Ok-Some.ensures.log in
    record {
      list = log.list;
      folded = log.folded;
      told = λ told. taken_counts c.args.shape c.args.shard c.requires.shard c.args.views.now ranks c.requires.views ranked i is to g.D.Disk.tells (map f c.args.disks.now) told c.requires.viewed seen.0 (item ∙ seen.1) log.list
          (ap (λ (s : DiskSeen). list_in s.stands.seen) (seen_is f c.args.disks.now i c.index-disks-place.result low) ∙ log.told told);
      viewed = record {
        copy = unwrap_or (choose (take c.args.shape.copies (drop (peer_of c.args.shape c.args.shard 0) ranks))) 0;
        within = copy_within c.args.shape c.args.shard c.requires.shard c.args.views.now ranks c.requires.views ranked i is to;
        there = subst (λ n. IsSome (viewing_at c.args.views.now n)) is (subst (λ o. IsSome o) (sym item) c.in-Ok-Some.ensures.viewed);
      };
    }

pub returns-in-Ok-Some-clause-still : goal.returns-in-Ok-Some-clause-still
returns-in-Ok-Some-clause-still g c =
    let f : g.row.D.Denot → DiskSeen = λ disk. seen_as (g.D.Disk.size disk) (g.D.Disk.stands disk) (g.D.Disk.faults disk) in
    let e : c.from-place.result ≡ c.taken_peer-peer.result = c.from-place.ensures in
    let low : c.from-place.result < length c.args.disks.now = omega (arith, c.taken_peer-peer.ensures.within, e, c.requires.count) in
    one_still g.D.Disk.tells f c.args.disks.now c.from-place.result c.read_log-found.new.disk c.index-disks-place.result low c.read_log-found.ensures.still (c.args.shape.shards * c.args.shape.copies)

pub returns-in-Ok-Some-clause-reread : goal.returns-in-Ok-Some-clause-reread
returns-in-Ok-Some-clause-reread g c =
    let f : g.row.D.Denot → DiskSeen = λ disk. seen_as (g.D.Disk.size disk) (g.D.Disk.stands disk) (g.D.Disk.faults disk) in
    let e : c.from-place.result ≡ c.taken_peer-peer.result = c.from-place.ensures in
    let low : c.from-place.result < length c.args.disks.now = omega (arith, c.taken_peer-peer.ensures.within, e, c.requires.count) in
    λ calm. one_reread g.D.Disk.tells f c.args.disks.now c.from-place.result c.read_log-found.new.disk c.index-disks-place.result low c.args.views.now c.args.views.now (inl (refl, c.in-Ok-Some.ensures.calm (ap (λ (o : Option Catalogue). is_some o) c.in-Ok-Some.field-0-is))) (λ peer differs. refl) (c.args.shape.shards * c.args.shape.copies)

pub returns-in-Ok-None-clause-given_up : goal.returns-in-Ok-None-clause-given_up
returns-in-Ok-None-clause-given_up g c = λ none.
    let i : ℕ = c.from-place.result in
    let e : i ≡ c.taken_peer-peer.result = c.from-place.ensures in
    let within : i < c.args.shape.shards * c.args.shape.copies = omega (arith, c.taken_peer-peer.ensures.within, e) in
    let there : i < length c.args.views.now = omega (arith, within, c.requires.views) in
    let item = at_any c.args.views.now i None c.index-views-place.result there in
    let ranks : List (Option Rank) = c.as_slice.result.now in
    let ranked : ranks ≡ map (λ (view : Option Viewing). option_map (λ (v : Viewing). v.rank) view) c.args.views.now = c.as_slice.ensures.value ∙ c.in_ok-ranks.ensures in
    let is : i ≡ peer_of c.args.shape c.args.shard (unwrap_or (choose (take c.args.shape.copies (drop (peer_of c.args.shape c.args.shard 0) ranks))) 0) = e ∙ c.taken_peer-peer.ensures.value in
    let to : i < peer_of c.args.shape c.args.shard 0 + c.args.shape.copies = omega (arith, e, c.taken_peer-peer.ensures.to) in
    record {
      copy = unwrap_or (choose (take c.args.shape.copies (drop (peer_of c.args.shape c.args.shard 0) ranks))) 0;
      within = copy_within c.args.shape c.args.shard c.requires.shard c.args.views.now ranks c.requires.views ranked i is to;
      had = subst (λ n. IsSome (viewing_at c.args.views.now n)) is (subst (λ o. IsSome o) (sym item) c.in-Ok-None.ensures.viewed);
      gone = subst (λ n. viewing_at (slice_set c.args.views.now i None) n ≡ None) is (given_up_here c.args.views.now i there);
      others = λ peer differs. given_up_there c.args.views.now i peer (λ same. differs (same ∙ is));
    }

pub returns-in-Ok-None-clause-still : goal.returns-in-Ok-None-clause-still
returns-in-Ok-None-clause-still g c =
    let f : g.row.D.Denot → DiskSeen = λ disk. seen_as (g.D.Disk.size disk) (g.D.Disk.stands disk) (g.D.Disk.faults disk) in
    let e : c.from-place.result ≡ c.taken_peer-peer.result = c.from-place.ensures in
    let low : c.from-place.result < length c.args.disks.now = omega (arith, c.taken_peer-peer.ensures.within, e, c.requires.count) in
    one_still g.D.Disk.tells f c.args.disks.now c.from-place.result c.read_log-found.new.disk c.index-disks-place.result low c.read_log-found.ensures.still (c.args.shape.shards * c.args.shape.copies)

pub returns-in-Ok-None-clause-reread : goal.returns-in-Ok-None-clause-reread
returns-in-Ok-None-clause-reread g c =
    let f : g.row.D.Denot → DiskSeen = λ disk. seen_as (g.D.Disk.size disk) (g.D.Disk.stands disk) (g.D.Disk.faults disk) in
    let i : ℕ = c.from-place.result in
    let e : i ≡ c.taken_peer-peer.result = c.from-place.ensures in
    let within : i < c.args.shape.shards * c.args.shape.copies = omega (arith, c.taken_peer-peer.ensures.within, e) in
    let low : i < length c.args.disks.now = omega (arith, within, c.requires.count) in
    let there : i < length c.args.views.now = omega (arith, within, c.requires.views) in
    λ calm. one_reread g.D.Disk.tells f c.args.disks.now i c.read_log-found.new.disk c.index-disks-place.result low c.args.views.now (slice_set c.args.views.now i None)
    (inr (given_up_here c.args.views.now i there, c.in-Ok-None.ensures.failed c.in-Ok-None.field-0-is)) (λ peer differs. given_up_there c.args.views.now i peer differs) (c.args.shape.shards * c.args.shape.copies)

pub returns-clause-lost : goal.returns-clause-lost
returns-clause-lost g c =
    let i : ℕ = c.from-place.result in
    let e : i ≡ c.taken_peer-peer.result = c.from-place.ensures in
    let within : i < c.args.shape.shards * c.args.shape.copies = omega (arith, c.taken_peer-peer.ensures.within, e) in
    let there : i < length c.args.views.now = omega (arith, within, c.requires.views) in
    let item = at_any c.args.views.now i None c.index-views-place.result there in
    let ranks : List (Option Rank) = c.as_slice.result.now in
    let ranked : ranks ≡ map (λ (view : Option Viewing). option_map (λ (v : Viewing). v.rank) view) c.args.views.now = c.as_slice.ensures.value ∙ c.in_ok-ranks.ensures in
    let is : i ≡ peer_of c.args.shape c.args.shard (unwrap_or (choose (take c.args.shape.copies (drop (peer_of c.args.shape c.args.shard 0) ranks))) 0) = e ∙ c.taken_peer-peer.ensures.value in
    let to : i < peer_of c.args.shape c.args.shard 0 + c.args.shape.copies = omega (arith, e, c.taken_peer-peer.ensures.to) in
    unviewed_of c.args.shape c.args.shard c.args.views.now (slice_index_or c.args.views.now i c.index-views-place.result) c.in-Err.fault
    (λ none. none_viewed c.args.shape c.args.shard c.requires.shard c.args.views.now ranks c.requires.views ranked i is to (item ∙ none)) c.in-Err.ensures.lost

pub returns-clause-still : goal.returns-clause-still
returns-clause-still g c =
    let f : g.row.D.Denot → DiskSeen = λ disk. seen_as (g.D.Disk.size disk) (g.D.Disk.stands disk) (g.D.Disk.faults disk) in
    let e : c.from-place.result ≡ c.taken_peer-peer.result = c.from-place.ensures in
    let low : c.from-place.result < length c.args.disks.now = omega (arith, c.taken_peer-peer.ensures.within, e, c.requires.count) in
    one_still g.D.Disk.tells f c.args.disks.now c.from-place.result c.read_log-found.new.disk c.index-disks-place.result low c.read_log-found.ensures.still (c.args.shape.shards * c.args.shape.copies)

pub returns-clause-reread : goal.returns-clause-reread
returns-clause-reread g c =
    let f : g.row.D.Denot → DiskSeen = λ disk. seen_as (g.D.Disk.size disk) (g.D.Disk.stands disk) (g.D.Disk.faults disk) in
    let i : ℕ = c.from-place.result in
    let e : i ≡ c.taken_peer-peer.result = c.from-place.ensures in
    let low : i < length c.args.disks.now = omega (arith, c.taken_peer-peer.ensures.within, e, c.requires.count) in
    λ calm. one_reread g.D.Disk.tells f c.args.disks.now i c.read_log-found.new.disk c.index-disks-place.result low c.args.views.now c.args.views.now
    (inl (refl, calm_of (g.D.Disk.faults c.read_log-found.new.disk ≡ g.D.Disk.faults (slice_index_or c.args.disks.now i c.index-disks-place.result)) (Option Catalogue) c.args.shard (slice_index_or c.args.views.now i c.index-views-place.result) c.in-Err.fault c.in-Err.ensures.lost c.in-Err.ensures.lost_calm calm))
    (λ peer differs. refl) (c.args.shape.shards * c.args.shape.copies)
