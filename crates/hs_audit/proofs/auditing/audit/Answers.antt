use Rattle.std.proofs.Common.{◌≡◌, ◌∙◌, ◌*◌, ◌++◌, ◌<◌, ℕ, List, Option, None, ap, arith, length, map, refl, subst, sym}
use Rattle.std.specs.Prelude.{IfSome, slice_index_or}
use Rattle.hs_audit.proofs.FinalLemmas.{audited, not_refused, read_on, refused_by_viewing, refused_of}
use Rattle.hs_audit.specs.Rereading.{viewing_at}
use Rattle.hs_audit.specs.Audited.{IsAuditRefused}
use Rattle.hs_audit.specs.declared.fault.AuditFault.{AuditFault}
use Rattle.hs_fold.specs.Shards.Setting.{Setting}
use Rattle.hs_limits.specs.Limits.{greatest_limits}
use Rattle.hs_peerlog.specs.Views.{Viewing}
use Rattle.hs_limits.specs.declared.shape.Shape.{Shape}
use Rattle.hs_model.specs.declared.plain.PlainStore.{PlainStore}
use Rattle.hs_taking.proofs.DiskLemmas.{seen_count}
use Rattle.hs_taking.proofs.ViewLemmas.{view_of}
use Rattle.hs_taking.specs.Disks.{DiskSeen, seen_as, seen_at}
use Rattle.hs_taking.specs.Viewed.{IsViewed, IsViewOf}
use Rattle.hs_audit.proofs.auditing.audit.Goals as goal

pub gather-requires-clause-viewed : goal.gather-requires-clause-viewed
gather-requires-clause-viewed g c =
    let f : g.row.D.Denot → DiskSeen = λ disk. seen_as (g.D.Disk.size disk) (g.D.Disk.stands disk) (g.D.Disk.faults disk) in
    let a : List DiskSeen = map f c.args.disks.now in
    let b : List DiskSeen = map f c.view_all.new.disks in
    λ peer low.
    let in_all : peer < length c.args.disks.now = omega (arith, low, c.requires.count) in
    subst (λ (vs : List (Option Viewing)). IfSome (viewing_at vs peer) (IsViewOf g.D.Disk.tells c.args.shape peer (seen_at b peer))) (sym c.as_mut_slice.ensures.value)
    (view_of g.D.Disk.tells c.args.shape peer (seen_at a peer) (seen_at b peer) (viewing_at c.in-Ok.views.items peer) (c.view_all.ensures.read peer in_all).seen (c.in-Ok.ensures.viewed peer in_all).some)

pub returns-in-Err-clause-refused : goal.returns-in-Err-clause-refused
returns-in-Err-clause-refused g c =
    let f : g.row.D.Denot → DiskSeen = λ disk. seen_as (g.D.Disk.size disk) (g.D.Disk.stands disk) (g.D.Disk.faults disk) in
    let a : List DiskSeen = map f c.args.disks.now in
    let b : List DiskSeen = map f c.view_all.new.disks in
    subst (λ (x : AuditFault). IsAuditRefused g.D.Disk.tells c.args.shape a b x) (sym c.from.ensures) (refused_by_viewing g.D.Disk.tells c.args.shape a b c.in-Err.fault c.in-Err.ensures.other)

pub returns-in-Err-clause-complete : goal.returns-in-Err-clause-complete
returns-in-Err-clause-complete g c =
    let f : g.row.D.Denot → DiskSeen = λ disk. seen_as (g.D.Disk.size disk) (g.D.Disk.stands disk) (g.D.Disk.faults disk) in
    let count : length (map f c.args.disks.now) ≡ c.args.shape.shards * c.args.shape.copies = seen_count f c.args.disks.now ∙ c.requires.count in
    λ told can. not_refused g.D.Disk.tells c.args.shape (map f c.args.disks.now) (map f c.view_all.new.disks) c.from.result told count can (returns-in-Err-clause-refused g c)

-- what was viewed, by the views that are handed on
viewed_by : (tells : Type 0) (shape : Shape) (a b : List DiskSeen) (views first : List (Option Viewing)) (count : ℕ) → length a ≡ count → first ≡ views
    → ((peer : ℕ) → peer < count → IsViewed tells shape peer (seen_at a peer) (seen_at b peer) (slice_index_or views peer None))
    → (peer : ℕ) → peer < length a → IsViewed tells shape peer (seen_at a peer) (seen_at b peer) (viewing_at first peer)
viewed_by tells shape a b views first count long same viewed peer low =
    subst (λ (vs : List (Option Viewing)). IsViewed tells shape peer (seen_at a peer) (seen_at b peer) (viewing_at vs peer)) (sym same) (viewed peer (omega (arith, low, long)))

pub returns-in-Err-gather-clause-refused : goal.returns-in-Err-gather-clause-refused
returns-in-Err-gather-clause-refused g c =
    let f : g.row.D.Denot → DiskSeen = λ disk. seen_as (g.D.Disk.size disk) (g.D.Disk.stands disk) (g.D.Disk.faults disk) in
    let set : Setting = record { name = g.A.Addresser.name c.args.naming.now; limits = greatest_limits; shape = c.args.shape } in
    let a : List DiskSeen = map f c.args.disks.now in
    let b : List DiskSeen = map f c.view_all.new.disks in
    let long : length a ≡ length c.args.disks.now = seen_count f c.args.disks.now in
    refused_of g.D.Disk.tells PlainStore set a b (map f c.gather.new.disks) c.as_mut_slice.result.now c.gather.new.views c.args.watch.now c.view_all.new.watch (long ∙ c.requires.count)
    (viewed_by g.D.Disk.tells c.args.shape a b c.in-Ok.views.items c.as_mut_slice.result.now (length c.args.disks.now) long c.as_mut_slice.ensures.value c.in-Ok.ensures.viewed)
    (λ peer low. c.view_all.ensures.read peer (omega (arith, low, long))) c.gather.ensures.still c.in-Err-gather.fault (λ calm. c.in-Err-gather.ensures.reread calm) c.in-Err-gather.ensures.lost

pub returns-in-Err-gather-clause-complete : goal.returns-in-Err-gather-clause-complete
returns-in-Err-gather-clause-complete g c =
    let f : g.row.D.Denot → DiskSeen = λ disk. seen_as (g.D.Disk.size disk) (g.D.Disk.stands disk) (g.D.Disk.faults disk) in
    let count : length (map f c.args.disks.now) ≡ c.args.shape.shards * c.args.shape.copies = seen_count f c.args.disks.now ∙ c.requires.count in
    λ told can. not_refused g.D.Disk.tells c.args.shape (map f c.args.disks.now) (map f c.gather.new.disks) c.in-Err-gather.fault told count can (returns-in-Err-gather-clause-refused g c)

pub returns-in-Err-gather-clause-read : goal.returns-in-Err-gather-clause-read
returns-in-Err-gather-clause-read g c =
    let f : g.row.D.Denot → DiskSeen = λ disk. seen_as (g.D.Disk.size disk) (g.D.Disk.stands disk) (g.D.Disk.faults disk) in
    λ peer low.
    read_on g.D.Disk.tells c.args.watch.now c.view_all.new.watch (seen_at (map f c.args.disks.now) peer) (seen_at (map f c.view_all.new.disks) peer) (seen_at (map f c.gather.new.disks) peer)
    (c.view_all.ensures.read peer low) (c.gather.ensures.still peer (omega (arith, low, c.requires.count)))

pub returns-in-Err-report-clause-read : goal.returns-in-Err-report-clause-read
returns-in-Err-report-clause-read g c =
    let f : g.row.D.Denot → DiskSeen = λ disk. seen_as (g.D.Disk.size disk) (g.D.Disk.stands disk) (g.D.Disk.faults disk) in
    λ peer low.
    read_on g.D.Disk.tells c.args.watch.now c.view_all.new.watch (seen_at (map f c.args.disks.now) peer) (seen_at (map f c.view_all.new.disks) peer) (seen_at (map f c.gather.new.disks) peer)
    (c.view_all.ensures.read peer low) (c.gather.ensures.still peer (omega (arith, low, c.requires.count)))

pub returns-in-Ok-extend_from_slice-clause-read : goal.returns-in-Ok-extend_from_slice-clause-read
returns-in-Ok-extend_from_slice-clause-read g c =
    let f : g.row.D.Denot → DiskSeen = λ disk. seen_as (g.D.Disk.size disk) (g.D.Disk.stands disk) (g.D.Disk.faults disk) in
    λ peer low.
    read_on g.D.Disk.tells c.args.watch.now c.view_all.new.watch (seen_at (map f c.args.disks.now) peer) (seen_at (map f c.view_all.new.disks) peer) (seen_at (map f c.gather.new.disks) peer)
    (c.view_all.ensures.read peer low) (c.gather.ensures.still peer (omega (arith, low, c.requires.count)))

pub returns-clause-read : goal.returns-clause-read
returns-clause-read g c =
    let f : g.row.D.Denot → DiskSeen = λ disk. seen_as (g.D.Disk.size disk) (g.D.Disk.stands disk) (g.D.Disk.faults disk) in
    λ peer low.
    read_on g.D.Disk.tells c.args.watch.now c.view_all.new.watch (seen_at (map f c.args.disks.now) peer) (seen_at (map f c.view_all.new.disks) peer) (seen_at (map f c.gather.new.disks) peer)
    (c.view_all.ensures.read peer low) (c.gather.ensures.still peer (omega (arith, low, c.requires.count)))

pub returns-in-Ok-extend_from_slice-clause-text : goal.returns-in-Ok-extend_from_slice-clause-text
returns-in-Ok-extend_from_slice-clause-text g c =
    let f : g.row.D.Denot → DiskSeen = λ disk. seen_as (g.D.Disk.size disk) (g.D.Disk.stands disk) (g.D.Disk.faults disk) in
    let set : Setting = record { name = g.A.Addresser.name c.args.naming.now; limits = greatest_limits; shape = c.args.shape } in
    let a : List DiskSeen = map f c.args.disks.now in
    let b : List DiskSeen = map f c.view_all.new.disks in
    let long : length a ≡ length c.args.disks.now = seen_count f c.args.disks.now in
    audited g.D.Disk.tells set a b (map f c.gather.new.disks) c.as_mut_slice.result.now c.gather.new.views c.args.watch.now c.view_all.new.watch (long ∙ c.requires.count)
    (viewed_by g.D.Disk.tells c.args.shape a b c.in-Ok.views.items c.as_mut_slice.result.now (length c.args.disks.now) long c.as_mut_slice.ensures.value c.in-Ok.ensures.viewed)
    (λ peer low. c.view_all.ensures.read peer (omega (arith, low, long))) c.gather.ensures.still (c.in-Ok-gather.ensures.reread refl)
    c.in-Ok-gather.store c.in-Ok-report.text.items c.args.out.now.items c.extend_from_slice.new.self.items c.in-Ok-gather.ensures.gathered c.in-Ok-report.ensures
    (c.in-Ok-extend_from_slice.ensures.items ∙ ap (λ (z : List ℕ). c.args.out.now.items ++ z) c.as_slice.ensures.value)
