use Rattle.std.proofs.Common.{◌≡◌, ◌∙◌, ◌*◌, ◌<◌, ℕ, List, None, arith, length, map, subst, sym}
use Rattle.std.proofs.lemmas.Grind.{common_steps}
use Rattle.std.specs.Prelude.{slice_index_or}
use Rattle.hs_fold.specs.Shards.Setting.{Setting}
use Rattle.hs_peerlog.proofs.ImageLemmas.{Since}
use Rattle.hs_taking.proofs.ChoiceLemmas.{shard_within}
use Rattle.hs_taking.proofs.DiskLemmas.{seen_count, seen_since}
use Rattle.hs_taking.proofs.FirstLemmas.{chosen_home}
use Rattle.hs_taking.proofs.KeepLemmas.{keeps_read, keeps_then}
use Rattle.hs_taking.proofs.OpeningLemmas.{leaves_moved_shard, leaves_read_shard}
use Rattle.hs_taking.proofs.StoreLemmas.{no_other, no_wrong, opened_ok, other_rose, read_ok, spares_read, spares_taken}
use Rattle.hs_taking.proofs.ViewLemmas.{view_of}
use Rattle.hs_taking.specs.Disks.{DiskSeen, seen_as, seen_at}
use Rattle.hs_taking.specs.Shares.{Span}
use Rattle.hs_taking.proofs.HeadLemmas.{its_read, its_then}
use Rattle.hs_side.specs.Headers.{own_header}
use Rattle.hs_taking.proofs.store.read_store.Goals as goal

pub take_all-requires-clause-viewed : goal.take_all-requires-clause-viewed
take_all-requires-clause-viewed g c = λ peer within.
    let f : g.row.D.Denot → DiskSeen = λ disk. seen_as (g.D.Disk.size disk) (g.D.Disk.stands disk) (g.D.Disk.faults disk) in
    let low : peer < length c.args.disks.now = omega (arith, within, c.requires.count) in
    view_of g.D.Disk.tells c.args.shape peer (seen_at (map f c.args.disks.now) peer) (seen_at (map f c.view_all.new.disks) peer) (slice_index_or c.in-Ok.views.items peer None) (c.view_all.ensures.read peer low).seen (c.in-Ok.ensures.viewed peer low).some

pub returns-clause-evened : goal.returns-clause-evened
returns-clause-evened g c =
    let f : g.row.D.Denot → DiskSeen = λ disk. seen_as (g.D.Disk.size disk) (g.D.Disk.stands disk) (g.D.Disk.faults disk) in
    let old : List DiskSeen = map f c.args.disks.now in
    let via : List DiskSeen = map f c.view_all.new.disks in
    let new : List DiskSeen = map f c.take_all.new.disks in
    let set : Setting = record { name = g.A.Addresser.name c.args.naming.now; limits = c.args.limits; shape = c.args.shape } in
    let views = c.in-Ok.views.items in
    let within : (peer : ℕ) → peer < c.args.shape.shards * c.args.shape.copies → peer < length c.args.disks.now = λ peer low. omega (arith, low, c.requires.count) in
    let many : length views ≡ c.args.shape.shards * c.args.shape.copies = grind (arith, common_steps) in
    let since : (peer : ℕ) → g.D.Disk.tells → Since (seen_at via peer).stands = λ peer told. seen_since f (λ disk side m high. g.met.D.Disk.since told disk side m high) c.view_all.new.disks peer in
    opened_ok g.D.Disk.tells set c.args.watch.now c.view_all.new.watch c.take_all.new.watch old via new views c.view_all.ensures.ticks c.take_all.ensures.ticks many
    (λ peer low. c.view_all.ensures.read peer (within peer low)) (λ peer low. c.in-Ok.ensures.viewed peer (within peer low)) since c.take_all.result c.take_all.ensures.shares c.take_all.ensures.takes

pub returns-clause-read : goal.returns-clause-read
returns-clause-read g c =
    let f : g.row.D.Denot → DiskSeen = λ disk. seen_as (g.D.Disk.size disk) (g.D.Disk.stands disk) (g.D.Disk.faults disk) in
    let old : List DiskSeen = map f c.args.disks.now in
    let via : List DiskSeen = map f c.view_all.new.disks in
    let new : List DiskSeen = map f c.take_all.new.disks in
    let set : Setting = record { name = g.A.Addresser.name c.args.naming.now; limits = c.args.limits; shape = c.args.shape } in
    let views = c.in-Ok.views.items in
    let within : (peer : ℕ) → peer < c.args.shape.shards * c.args.shape.copies → peer < length c.args.disks.now = λ peer low. omega (arith, low, c.requires.count) in
    let many : length views ≡ c.args.shape.shards * c.args.shape.copies = grind (arith, common_steps) in
    let since : (peer : ℕ) → g.D.Disk.tells → Since (seen_at via peer).stands = λ peer told. seen_since f (λ disk side m high. g.met.D.Disk.since told disk side m high) c.view_all.new.disks peer in
    λ one.
    read_ok g.D.Disk.tells set c.args.watch.now c.view_all.new.watch c.take_all.new.watch old via new views c.view_all.ensures.ticks c.take_all.ensures.ticks many
    (λ peer low. c.view_all.ensures.read peer (within peer low)) (λ peer low. c.in-Ok.ensures.viewed peer (within peer low)) since c.take_all.result one (λ peer low. c.take_all.ensures.counted peer (subst (λ n. peer < n) (sym c.view_all.ensures.count) (within peer low))) c.take_all.ensures.shares c.take_all.ensures.takes

pub returns-clause-other : goal.returns-clause-other
returns-clause-other g c = no_other g.D.Disk.tells c.args.shape _ _ c.take_all.result c.take_all.ensures.only

pub returns-clause-unwritten : goal.returns-clause-unwritten
returns-clause-unwritten g c = no_wrong _ c.take_all.result c.take_all.ensures.only

pub returns-in-Err-clause-spares : goal.returns-in-Err-clause-spares
returns-in-Err-clause-spares g c =
    let f : g.row.D.Denot → DiskSeen = λ disk. seen_as (g.D.Disk.size disk) (g.D.Disk.stands disk) (g.D.Disk.faults disk) in
    let span : Span = record { before = c.args.watch.now; now = c.view_all.new.watch; old = map f c.args.disks.now; new = map f c.view_all.new.disks } in
    spares_read g.D.Disk.tells c.args.shape span (λ peer low. c.view_all.ensures.read peer (subst (λ n. peer < n) (seen_count f c.args.disks.now) low))

pub returns-clause-spares : goal.returns-clause-spares
returns-clause-spares g c =
    let f : g.row.D.Denot → DiskSeen = λ disk. seen_as (g.D.Disk.size disk) (g.D.Disk.stands disk) (g.D.Disk.faults disk) in
    let via : List DiskSeen = map f c.view_all.new.disks in
    let span : Span = record { before = c.args.watch.now; now = c.take_all.new.watch; old = map f c.args.disks.now; new = map f c.take_all.new.disks } in
    let many : length (map f c.args.disks.now) ≡ length c.args.disks.now = seen_count f c.args.disks.now in
    let same : length (map f c.args.disks.now) ≡ length c.view_all.new.disks = many ∙ sym c.view_all.ensures.count in
    spares_taken g.D.Disk.tells c.args.shape span via c.in-Ok.views.items (λ peer low. c.in-Ok.ensures.viewed peer (subst (λ n. peer < n) many low))
    (λ peer low. c.take_all.ensures.counted peer (subst (λ n. peer < n) same low))

pub returns-clause-own : goal.returns-clause-own
returns-clause-own g c =
    let f : g.row.D.Denot → DiskSeen = λ disk. seen_as (g.D.Disk.size disk) (g.D.Disk.stands disk) (g.D.Disk.faults disk) in
    let via : List DiskSeen = map f c.view_all.new.disks in
    let same : length c.view_all.new.disks ≡ length c.args.disks.now = c.view_all.ensures.count in
    other_rose g.D.Disk.tells c.args.shape (map f c.args.disks.now) via (map f c.take_all.new.disks) c.in-Ok.views.items (length c.args.disks.now) c.take_all.result (λ peer low. c.in-Ok.ensures.viewed peer low)
    (λ peer low. c.take_all.ensures.counted peer (subst (λ n. peer < n) (sym same) low))

pub returns-clause-counted : goal.returns-clause-counted
returns-clause-counted g c = λ peer low.
    let same : length c.view_all.new.disks ≡ length c.args.disks.now = c.view_all.ensures.count in
    let a = (c.view_all.ensures.read peer low).counted in
    let b = c.take_all.ensures.counted peer (subst (λ n. peer < n) (sym same) low) in
    omega (arith, a, b)

pub returns-in-Err-clause-keeps : goal.returns-in-Err-clause-keeps
returns-in-Err-clause-keeps g c = λ one peer low. keeps_read g.D.Disk.tells c.args.watch.now c.view_all.new.watch _ _ (c.view_all.ensures.read peer low)

pub returns-clause-keeps : goal.returns-clause-keeps
returns-clause-keeps g c =
    let f : g.row.D.Denot → DiskSeen = λ disk. seen_as (g.D.Disk.size disk) (g.D.Disk.stands disk) (g.D.Disk.faults disk) in
    let same : length c.view_all.new.disks ≡ length c.args.disks.now = c.view_all.ensures.count in
    λ one peer low.
    keeps_then g.D.Disk.tells c.args.watch.now c.view_all.new.watch c.take_all.new.watch (seen_at (map f c.args.disks.now) peer) (seen_at (map f c.view_all.new.disks) peer) (seen_at (map f c.take_all.new.disks) peer)
    (keeps_read g.D.Disk.tells c.args.watch.now c.view_all.new.watch (seen_at (map f c.args.disks.now) peer) (seen_at (map f c.view_all.new.disks) peer) (c.view_all.ensures.read peer low))
    (c.take_all.ensures.keeps one peer (omega (arith, low, same)))

pub returns-in-Err-clause-any_moment : goal.returns-in-Err-clause-any_moment
returns-in-Err-clause-any_moment g c =
    let f : g.row.D.Denot → DiskSeen = λ disk. seen_as (g.D.Disk.size disk) (g.D.Disk.stands disk) (g.D.Disk.faults disk) in
    let span : Span = record { before = c.args.watch.now; now = c.view_all.new.watch; old = map f c.args.disks.now; new = map f c.view_all.new.disks } in
    λ shard low. leaves_read_shard g.D.Disk.tells c.args.shape span shard (let l = c.requires.shape.some_copy in omega (arith, l))
    (λ peer of. let w = shard_within c.args.shape shard low in let t = of.to in c.view_all.ensures.read peer (omega (arith, w, t, c.requires.count)))

pub returns-clause-any_moment : goal.returns-clause-any_moment
returns-clause-any_moment g c =
    let f : g.row.D.Denot → DiskSeen = λ disk. seen_as (g.D.Disk.size disk) (g.D.Disk.stands disk) (g.D.Disk.faults disk) in
    let old : List DiskSeen = map f c.args.disks.now in
    let via : List DiskSeen = map f c.view_all.new.disks in
    let new : List DiskSeen = map f c.take_all.new.disks in
    let views = c.in-Ok.views.items in
    let total : ℕ = c.args.shape.shards * c.args.shape.copies in
    let within : (peer : ℕ) → peer < total → peer < length c.args.disks.now = λ peer low. omega (arith, low, c.requires.count) in
    let many : length views ≡ total = grind (arith, common_steps) in
    let since : (peer : ℕ) → g.D.Disk.tells → Since (seen_at via peer).stands = λ peer told. seen_since f (λ disk side m high. g.met.D.Disk.since told disk side m high) c.view_all.new.disks peer in
    let same : length c.view_all.new.disks ≡ length c.args.disks.now = c.view_all.ensures.count in
    λ shard low.
    let w = shard_within c.args.shape shard low in
    leaves_moved_shard g.D.Disk.tells c.args.shape c.args.watch.now c.view_all.new.watch c.take_all.new.watch old via new views total c.take_all.ensures.ticks (λ peer less. c.view_all.ensures.read peer (within peer less))
    (λ peer less. view_of g.D.Disk.tells c.args.shape peer (seen_at old peer) (seen_at via peer) (slice_index_or views peer None) (c.view_all.ensures.read peer (within peer less)).seen (c.in-Ok.ensures.viewed peer (within peer less)).some) since
    shard (λ peer of. let t = of.to in omega (arith, w, t)) (chosen_home c.args.shape views shard (let l = c.requires.shape.some_copy in omega (arith, l)) (omega (arith, w, many))) (omega (arith, w, many)) (λ peer less. c.in-Ok.ensures.viewed peer (within peer less))
    (λ peer less. c.take_all.ensures.counted peer (omega (arith, less, c.requires.count, same))) (c.take_all.ensures.moved shard low)

pub returns-in-Err-clause-headed : goal.returns-in-Err-clause-headed
returns-in-Err-clause-headed g c = λ peer low. its_read g.D.Disk.tells (own_header c.args.shape peer) c.args.watch.now c.view_all.new.watch _ _ (c.view_all.ensures.read peer low)

pub returns-clause-headed : goal.returns-clause-headed
returns-clause-headed g c = λ peer low.
    let f : g.row.D.Denot → DiskSeen = λ disk. seen_as (g.D.Disk.size disk) (g.D.Disk.stands disk) (g.D.Disk.faults disk) in
    its_then g.D.Disk.tells (own_header c.args.shape peer) c.args.watch.now c.view_all.new.watch c.take_all.new.watch (seen_at (map f c.args.disks.now) peer) (seen_at (map f c.view_all.new.disks) peer) (seen_at (map f c.take_all.new.disks) peer)
    (its_read g.D.Disk.tells (own_header c.args.shape peer) c.args.watch.now c.view_all.new.watch (seen_at (map f c.args.disks.now) peer) (seen_at (map f c.view_all.new.disks) peer) (c.view_all.ensures.read peer low))
    (c.take_all.ensures.headed.each peer)
