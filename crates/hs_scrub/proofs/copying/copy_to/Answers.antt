use Rattle.std.proofs.Common.{◌≡◌, ◌∙◌, ◌<◌, arith, ℕ, List, Option, length, map, subst, sym}
use Rattle.std.specs.Prelude.{MatchOption, slice_index_or, slice_set}
use Rattle.hs_peerlog.specs.Lists.{Keeping}
use Rattle.hs_scrub.proofs.PeerLemmas.{calls_empty, copy_calls, copy_fronts, copy_outcome, fronts_empty, left_empty, ok_weaker, opens_empty, source_empty}
use Rattle.hs_scrub.specs.Copied.{IsLeft}
use Rattle.hs_scrub.specs.CopySteps.{Calls, CopyFronts, CopyOutcome, IsEmptied}
use Rattle.hs_scrub.specs.declared.giving.Given.TheVariants.{Left}
use Rattle.hs_taking.specs.Disks.{DiskSeen, seen_as, seen_at}
use Rattle.hs_scrub.proofs.copying.copy_to.Goals as goal

pub returns-in-Ok-None-clause-outcome : goal.returns-in-Ok-None-clause-outcome
returns-in-Ok-None-clause-outcome g c =
    let f : g.row.D.Denot → DiskSeen = λ disk. seen_as (g.D.Disk.size disk) (g.D.Disk.stands disk) (g.D.Disk.faults disk) in
    let old : List DiskSeen = map f c.args.disks.now in
    let p : ℕ = c.from-place.result in
    let e : c.from-place.result ≡ c.args.peer = c.from-place.ensures in
    let d = c.index-disks-place.result in
    let y = c.empty_disk.new.disk in
    let via : List DiskSeen = map f (slice_set c.args.disks.now p y) in
    let differ : c.args.from ≡ c.from-place.result → ⊥ = λ h. c.requires.other (h ∙ e) in
    let low : c.from-place.result < length c.args.disks.now = omega (arith, c.requires.place, e) in
    subst (λ n. CopyOutcome g.D.Disk.tells c.args.shape c.args.source.now c.args.watch.now c.args.from n old via Left) e
    (left_empty f g.D.Disk.tells c.args.shape c.args.source.now c.args.from p c.args.watch.now c.empty_disk.new.watch c.empty_disk.new.watch c.args.disks.now y d differ low (subst (λ n. IsLeft g.D.Disk.tells c.args.shape n (f (slice_index_or c.args.disks.now p d)) (f y)) (sym e) (subst (λ (o : Option Keeping). MatchOption o (IsLeft g.D.Disk.tells c.args.shape c.args.peer (f (slice_index_or c.args.disks.now p d)) (f y)) (IsEmptied g.D.Disk.tells c.args.watch.now (f (slice_index_or c.args.disks.now p d)) (f y))) c.in-Ok-None.field-0-is c.in-Ok-None.ensures.emptied)))

pub returns-in-Ok-None-clause-fronts : goal.returns-in-Ok-None-clause-fronts
returns-in-Ok-None-clause-fronts g c =
    let f : g.row.D.Denot → DiskSeen = λ disk. seen_as (g.D.Disk.size disk) (g.D.Disk.stands disk) (g.D.Disk.faults disk) in
    let old : List DiskSeen = map f c.args.disks.now in
    let p : ℕ = c.from-place.result in
    let e : c.from-place.result ≡ c.args.peer = c.from-place.ensures in
    let d = c.index-disks-place.result in
    let y = c.empty_disk.new.disk in
    let via : List DiskSeen = map f (slice_set c.args.disks.now p y) in
    let differ : c.args.from ≡ c.from-place.result → ⊥ = λ h. c.requires.other (h ∙ e) in
    let low : c.from-place.result < length c.args.disks.now = omega (arith, c.requires.place, e) in
    subst (λ n. CopyFronts g.D.Disk.tells c.args.source.now c.args.watch.now c.empty_disk.new.watch (seen_at old c.args.from) (seen_at old n) (seen_at via n)) e
    (fronts_empty f g.D.Disk.tells c.args.shape c.args.source.now c.args.from p c.args.watch.now c.empty_disk.new.watch c.empty_disk.new.watch c.args.disks.now y d differ low (λ told last list leaves. c.empty_disk.ensures.any_moment told last list leaves))

pub returns-in-Ok-None-clause-calls : goal.returns-in-Ok-None-clause-calls
returns-in-Ok-None-clause-calls g c =
    let f : g.row.D.Denot → DiskSeen = λ disk. seen_as (g.D.Disk.size disk) (g.D.Disk.stands disk) (g.D.Disk.faults disk) in
    let old : List DiskSeen = map f c.args.disks.now in
    let p : ℕ = c.from-place.result in
    let e : c.from-place.result ≡ c.args.peer = c.from-place.ensures in
    let d = c.index-disks-place.result in
    let y = c.empty_disk.new.disk in
    let via : List DiskSeen = map f (slice_set c.args.disks.now p y) in
    let differ : c.args.from ≡ c.from-place.result → ⊥ = λ h. c.requires.other (h ∙ e) in
    let low : c.from-place.result < length c.args.disks.now = omega (arith, c.requires.place, e) in
    subst (λ n. Calls g.D.Disk.tells c.args.from n c.args.watch.now c.empty_disk.new.watch old via) e (calls_empty f g.D.Disk.tells c.args.shape c.args.source.now c.args.from p c.args.watch.now c.empty_disk.new.watch c.empty_disk.new.watch c.args.disks.now y d differ low (λ told last. c.empty_disk.ensures.past told last) c.empty_disk.ensures.counted c.empty_disk.ensures.ticks)

pub returns-in-Err-clause-fronts : goal.returns-in-Err-clause-fronts
returns-in-Err-clause-fronts g c =
    let f : g.row.D.Denot → DiskSeen = λ disk. seen_as (g.D.Disk.size disk) (g.D.Disk.stands disk) (g.D.Disk.faults disk) in
    let old : List DiskSeen = map f c.args.disks.now in
    let p : ℕ = c.from-place.result in
    let e : c.from-place.result ≡ c.args.peer = c.from-place.ensures in
    let d = c.index-disks-place.result in
    let y = c.empty_disk.new.disk in
    let via : List DiskSeen = map f (slice_set c.args.disks.now p y) in
    let differ : c.args.from ≡ c.from-place.result → ⊥ = λ h. c.requires.other (h ∙ e) in
    let low : c.from-place.result < length c.args.disks.now = omega (arith, c.requires.place, e) in
    subst (λ n. CopyFronts g.D.Disk.tells c.args.source.now c.args.watch.now c.empty_disk.new.watch (seen_at old c.args.from) (seen_at old n) (seen_at via n)) e
    (fronts_empty f g.D.Disk.tells c.args.shape c.args.source.now c.args.from p c.args.watch.now c.empty_disk.new.watch c.empty_disk.new.watch c.args.disks.now y d differ low (λ told last list leaves. c.empty_disk.ensures.any_moment told last list leaves))

pub returns-in-Err-clause-calls : goal.returns-in-Err-clause-calls
returns-in-Err-clause-calls g c =
    let f : g.row.D.Denot → DiskSeen = λ disk. seen_as (g.D.Disk.size disk) (g.D.Disk.stands disk) (g.D.Disk.faults disk) in
    let old : List DiskSeen = map f c.args.disks.now in
    let p : ℕ = c.from-place.result in
    let e : c.from-place.result ≡ c.args.peer = c.from-place.ensures in
    let d = c.index-disks-place.result in
    let y = c.empty_disk.new.disk in
    let via : List DiskSeen = map f (slice_set c.args.disks.now p y) in
    let differ : c.args.from ≡ c.from-place.result → ⊥ = λ h. c.requires.other (h ∙ e) in
    let low : c.from-place.result < length c.args.disks.now = omega (arith, c.requires.place, e) in
    subst (λ n. Calls g.D.Disk.tells c.args.from n c.args.watch.now c.empty_disk.new.watch old via) e (calls_empty f g.D.Disk.tells c.args.shape c.args.source.now c.args.from p c.args.watch.now c.empty_disk.new.watch c.empty_disk.new.watch c.args.disks.now y d differ low (λ told last. c.empty_disk.ensures.past told last) c.empty_disk.ensures.counted c.empty_disk.ensures.ticks)

pub copy_list-requires-clause-source : goal.copy_list-requires-clause-source
copy_list-requires-clause-source g c =
    let f : g.row.D.Denot → DiskSeen = λ disk. seen_as (g.D.Disk.size disk) (g.D.Disk.stands disk) (g.D.Disk.faults disk) in
    let old : List DiskSeen = map f c.args.disks.now in
    let p : ℕ = c.from-place.result in
    let e : c.from-place.result ≡ c.args.peer = c.from-place.ensures in
    let d = c.index-disks-place.result in
    let y = c.empty_disk.new.disk in
    let via : List DiskSeen = map f (slice_set c.args.disks.now p y) in
    let differ : c.args.from ≡ c.from-place.result → ⊥ = λ h. c.requires.other (h ∙ e) in
    let low : c.from-place.result < length c.args.disks.now = omega (arith, c.requires.place, e) in
    source_empty f g.D.Disk.tells c.args.shape c.args.source.now c.args.from p c.args.watch.now c.empty_disk.new.watch c.empty_disk.new.watch c.args.disks.now y d differ low c.requires.source

pub copy_list-requires-clause-opens : goal.copy_list-requires-clause-opens
copy_list-requires-clause-opens g c =
    let f : g.row.D.Denot → DiskSeen = λ disk. seen_as (g.D.Disk.size disk) (g.D.Disk.stands disk) (g.D.Disk.faults disk) in
    let old : List DiskSeen = map f c.args.disks.now in
    let p : ℕ = c.from-place.result in
    let e : c.from-place.result ≡ c.args.peer = c.from-place.ensures in
    let d = c.index-disks-place.result in
    let y = c.empty_disk.new.disk in
    let via : List DiskSeen = map f (slice_set c.args.disks.now p y) in
    let differ : c.args.from ≡ c.from-place.result → ⊥ = λ h. c.requires.other (h ∙ e) in
    let low : c.from-place.result < length c.args.disks.now = omega (arith, c.requires.place, e) in
    let emptied : IsEmptied g.D.Disk.tells c.args.watch.now (f (slice_index_or c.args.disks.now p d)) (f y) c.in-Ok-Some.log = subst (λ (o : Option Keeping). MatchOption o (IsLeft g.D.Disk.tells c.args.shape c.args.peer (f (slice_index_or c.args.disks.now p d)) (f y)) (IsEmptied g.D.Disk.tells c.args.watch.now (f (slice_index_or c.args.disks.now p d)) (f y))) c.in-Ok-Some.field-0-is c.in-Ok-Some.ensures.emptied in
    opens_empty f g.D.Disk.tells c.args.shape c.args.source.now c.args.from p c.args.watch.now c.empty_disk.new.watch c.empty_disk.new.watch c.args.disks.now y d differ low c.in-Ok-Some.log emptied

pub returns-clause-outcome : goal.returns-clause-outcome
returns-clause-outcome g c =
    let f : g.row.D.Denot → DiskSeen = λ disk. seen_as (g.D.Disk.size disk) (g.D.Disk.stands disk) (g.D.Disk.faults disk) in
    let old : List DiskSeen = map f c.args.disks.now in
    let p : ℕ = c.from-place.result in
    let e : c.from-place.result ≡ c.args.peer = c.from-place.ensures in
    let d = c.index-disks-place.result in
    let y = c.empty_disk.new.disk in
    let via : List DiskSeen = map f (slice_set c.args.disks.now p y) in
    let differ : c.args.from ≡ c.from-place.result → ⊥ = λ h. c.requires.other (h ∙ e) in
    let low : c.from-place.result < length c.args.disks.now = omega (arith, c.requires.place, e) in
    let emptied : IsEmptied g.D.Disk.tells c.args.watch.now (f (slice_index_or c.args.disks.now p d)) (f y) c.in-Ok-Some.log = subst (λ (o : Option Keeping). MatchOption o (IsLeft g.D.Disk.tells c.args.shape c.args.peer (f (slice_index_or c.args.disks.now p d)) (f y)) (IsEmptied g.D.Disk.tells c.args.watch.now (f (slice_index_or c.args.disks.now p d)) (f y))) c.in-Ok-Some.field-0-is c.in-Ok-Some.ensures.emptied in
    let new : List DiskSeen = map f c.copy_list.new.disks in
    let first : Calls g.D.Disk.tells c.args.from p c.args.watch.now c.empty_disk.new.watch old via = (calls_empty f g.D.Disk.tells c.args.shape c.args.source.now c.args.from p c.args.watch.now c.empty_disk.new.watch c.copy_list.new.watch c.args.disks.now y d differ low (λ told last. c.empty_disk.ensures.past told last) c.empty_disk.ensures.counted c.empty_disk.ensures.ticks) in
    ok_weaker c.copy_list.result c.copy_list.ensures.outcome
    (λ given h. subst (λ n. CopyOutcome g.D.Disk.tells c.args.shape c.args.source.now c.args.watch.now c.args.from n old new given) e (copy_outcome f g.D.Disk.tells c.args.shape c.args.source.now c.args.from p c.args.watch.now c.empty_disk.new.watch c.copy_list.new.watch c.args.disks.now y d differ low new c.in-Ok-Some.log emptied first given h))

pub returns-clause-fronts : goal.returns-clause-fronts
returns-clause-fronts g c =
    let f : g.row.D.Denot → DiskSeen = λ disk. seen_as (g.D.Disk.size disk) (g.D.Disk.stands disk) (g.D.Disk.faults disk) in
    let old : List DiskSeen = map f c.args.disks.now in
    let p : ℕ = c.from-place.result in
    let e : c.from-place.result ≡ c.args.peer = c.from-place.ensures in
    let d = c.index-disks-place.result in
    let y = c.empty_disk.new.disk in
    let via : List DiskSeen = map f (slice_set c.args.disks.now p y) in
    let differ : c.args.from ≡ c.from-place.result → ⊥ = λ h. c.requires.other (h ∙ e) in
    let low : c.from-place.result < length c.args.disks.now = omega (arith, c.requires.place, e) in
    let emptied : IsEmptied g.D.Disk.tells c.args.watch.now (f (slice_index_or c.args.disks.now p d)) (f y) c.in-Ok-Some.log = subst (λ (o : Option Keeping). MatchOption o (IsLeft g.D.Disk.tells c.args.shape c.args.peer (f (slice_index_or c.args.disks.now p d)) (f y)) (IsEmptied g.D.Disk.tells c.args.watch.now (f (slice_index_or c.args.disks.now p d)) (f y))) c.in-Ok-Some.field-0-is c.in-Ok-Some.ensures.emptied in
    let new : List DiskSeen = map f c.copy_list.new.disks in
    let first : Calls g.D.Disk.tells c.args.from p c.args.watch.now c.empty_disk.new.watch old via = (calls_empty f g.D.Disk.tells c.args.shape c.args.source.now c.args.from p c.args.watch.now c.empty_disk.new.watch c.copy_list.new.watch c.args.disks.now y d differ low (λ told last. c.empty_disk.ensures.past told last) c.empty_disk.ensures.counted c.empty_disk.ensures.ticks) in
    subst (λ n. CopyFronts g.D.Disk.tells c.args.source.now c.args.watch.now c.copy_list.new.watch (seen_at old c.args.from) (seen_at old n) (seen_at new n)) e
    (copy_fronts f g.D.Disk.tells c.args.shape c.args.source.now c.args.from p c.args.watch.now c.empty_disk.new.watch c.copy_list.new.watch c.args.disks.now y d differ low new c.in-Ok-Some.log emptied first (fronts_empty f g.D.Disk.tells c.args.shape c.args.source.now c.args.from p c.args.watch.now c.empty_disk.new.watch c.copy_list.new.watch c.args.disks.now y d differ low (λ told last list leaves. c.empty_disk.ensures.any_moment told last list leaves)) c.copy_list.ensures.any_moment)

pub returns-clause-calls : goal.returns-clause-calls
returns-clause-calls g c =
    let f : g.row.D.Denot → DiskSeen = λ disk. seen_as (g.D.Disk.size disk) (g.D.Disk.stands disk) (g.D.Disk.faults disk) in
    let old : List DiskSeen = map f c.args.disks.now in
    let p : ℕ = c.from-place.result in
    let e : c.from-place.result ≡ c.args.peer = c.from-place.ensures in
    let d = c.index-disks-place.result in
    let y = c.empty_disk.new.disk in
    let via : List DiskSeen = map f (slice_set c.args.disks.now p y) in
    let differ : c.args.from ≡ c.from-place.result → ⊥ = λ h. c.requires.other (h ∙ e) in
    let low : c.from-place.result < length c.args.disks.now = omega (arith, c.requires.place, e) in
    let emptied : IsEmptied g.D.Disk.tells c.args.watch.now (f (slice_index_or c.args.disks.now p d)) (f y) c.in-Ok-Some.log = subst (λ (o : Option Keeping). MatchOption o (IsLeft g.D.Disk.tells c.args.shape c.args.peer (f (slice_index_or c.args.disks.now p d)) (f y)) (IsEmptied g.D.Disk.tells c.args.watch.now (f (slice_index_or c.args.disks.now p d)) (f y))) c.in-Ok-Some.field-0-is c.in-Ok-Some.ensures.emptied in
    let new : List DiskSeen = map f c.copy_list.new.disks in
    let first : Calls g.D.Disk.tells c.args.from p c.args.watch.now c.empty_disk.new.watch old via = (calls_empty f g.D.Disk.tells c.args.shape c.args.source.now c.args.from p c.args.watch.now c.empty_disk.new.watch c.copy_list.new.watch c.args.disks.now y d differ low (λ told last. c.empty_disk.ensures.past told last) c.empty_disk.ensures.counted c.empty_disk.ensures.ticks) in
    subst (λ n. Calls g.D.Disk.tells c.args.from n c.args.watch.now c.copy_list.new.watch old new) e (copy_calls f g.D.Disk.tells c.args.shape c.args.source.now c.args.from p c.args.watch.now c.empty_disk.new.watch c.copy_list.new.watch c.args.disks.now y d differ low new c.in-Ok-Some.log emptied first c.copy_list.ensures.calls)
