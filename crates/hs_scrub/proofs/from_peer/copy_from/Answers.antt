use Rattle.std.proofs.Common.{◌≡◌, ◌∙◌, ◌*◌, ◌<◌, ◌++◌, None, Some, ap, arith, ℕ, List, length, map, refl, subst, sym}
use Rattle.std.specs.Prelude.{Err, slice_index_or, slice_set}
use Rattle.hs_peerlog.proofs.ImageLemmas.{Since}
use Rattle.hs_scrub.proofs.FromLemmas.{copied_so, counted_copied, counted_read, ended_read, fronts_copied, fronts_read, memory_other, memory_unwritten, no_log_not_wrong, none_not_wrong, ok_so, on_ok_any, other_read, others_copied, others_read, own_not, own_risen, read_only, source_copied, stands_read, unwritten_read, view_no_log, view_other}
use Rattle.hs_peerlog.specs.declared.fault.LogFault.{LogFault}
use Rattle.hs_peerlog.specs.declared.fault.LogFault.TheVariants as log
use Rattle.hs_peerlog.specs.Opening.{IsRefusal, refusal_in}
use Rattle.hs_ports.specs.Fault.{HasRisen}
use Rattle.hs_scrub.specs.Copied.{AreBeside, HasCopied, HasEnded}
use Rattle.hs_scrub.specs.declared.mark.PeerMark.TheVariants.{Fault, NoLog}
use Rattle.hs_scrub.specs.Text.{line_of}
use Rattle.hs_side.specs.Standing.{Stands}
use Rattle.hs_scrub.specs.CopySteps.{HasGiven, Spares}
use Rattle.hs_side.specs.Current.{list_in}
use Rattle.hs_taking.proofs.DiskLemmas.{seen_each}
use Rattle.hs_taking.specs.Disks.{DiskSeen, seen_as, seen_at}
use Rattle.hs_taking.specs.Viewed.{IsOnlyRead}
use Rattle.hs_scrub.proofs.from_peer.copy_from.Goals as goal

pub returns-in-Err-Disk-clause-source : goal.returns-in-Err-Disk-clause-source
returns-in-Err-Disk-clause-source g c =
    let f : g.row.D.Denot → DiskSeen = λ disk. seen_as (g.D.Disk.size disk) (g.D.Disk.stands disk) (g.D.Disk.faults disk) in
    let old : List DiskSeen = map f c.args.disks.now in
    let p : ℕ = c.from-place.result in
    let e : c.from-place.result ≡ c.args.from = c.from-place.ensures in
    let d = c.index-disks-place.result in
    let y = c.read.new.disk in
    let via : List DiskSeen = map f (slice_set c.args.disks.now p y) in
    let low : c.from-place.result < length c.args.disks.now = omega (arith, c.requires.count, c.requires.from, e) in
    let since : (peer : ℕ) → peer < length c.args.disks.now → g.D.Disk.tells → Since (seen_at old peer).stands = λ peer within told. seen_each (λ (s : DiskSeen). Since s.stands) f (λ x side m high. g.met.D.Disk.since told x side m high) c.args.disks.now peer within in
    let only : IsOnlyRead g.D.Disk.tells c.args.watch.now c.read.new.watch (f (slice_index_or c.args.disks.now p d)) (f y)
    = record { seen = λ told side. c.read.ensures.same told side; moments = λ told last. c.read.ensures.any_moment told last; counted = c.read.ensures.cause.later } in
    subst (λ n. IsOnlyRead g.D.Disk.tells c.args.watch.now c.read.new.watch (seen_at old n) (seen_at via n)) e (read_only f g.D.Disk.tells c.args.shape p c.args.watch.now c.read.new.watch c.read.new.watch c.args.disks.now y d low only)

pub returns-in-Err-Disk-clause-others : goal.returns-in-Err-Disk-clause-others
returns-in-Err-Disk-clause-others g c =
    let f : g.row.D.Denot → DiskSeen = λ disk. seen_as (g.D.Disk.size disk) (g.D.Disk.stands disk) (g.D.Disk.faults disk) in
    let old : List DiskSeen = map f c.args.disks.now in
    let p : ℕ = c.from-place.result in
    let e : c.from-place.result ≡ c.args.from = c.from-place.ensures in
    let d = c.index-disks-place.result in
    let y = c.read.new.disk in
    let via : List DiskSeen = map f (slice_set c.args.disks.now p y) in
    let low : c.from-place.result < length c.args.disks.now = omega (arith, c.requires.count, c.requires.from, e) in
    let since : (peer : ℕ) → peer < length c.args.disks.now → g.D.Disk.tells → Since (seen_at old peer).stands = λ peer within told. seen_each (λ (s : DiskSeen). Since s.stands) f (λ x side m high. g.met.D.Disk.since told x side m high) c.args.disks.now peer within in
    let only : IsOnlyRead g.D.Disk.tells c.args.watch.now c.read.new.watch (f (slice_index_or c.args.disks.now p d)) (f y)
    = record { seen = λ told side. c.read.ensures.same told side; moments = λ told last. c.read.ensures.any_moment told last; counted = c.read.ensures.cause.later } in
    λ peer out. others_read f g.D.Disk.tells c.args.shape p c.args.watch.now c.read.new.watch c.read.new.watch c.args.disks.now y d low peer (subst (λ n. AreBeside c.args.shape n peer → ⊥) (sym e) out)

pub returns-in-Err-Disk-clause-fronts : goal.returns-in-Err-Disk-clause-fronts
returns-in-Err-Disk-clause-fronts g c =
    let f : g.row.D.Denot → DiskSeen = λ disk. seen_as (g.D.Disk.size disk) (g.D.Disk.stands disk) (g.D.Disk.faults disk) in
    let old : List DiskSeen = map f c.args.disks.now in
    let p : ℕ = c.from-place.result in
    let e : c.from-place.result ≡ c.args.from = c.from-place.ensures in
    let d = c.index-disks-place.result in
    let y = c.read.new.disk in
    let via : List DiskSeen = map f (slice_set c.args.disks.now p y) in
    let low : c.from-place.result < length c.args.disks.now = omega (arith, c.requires.count, c.requires.from, e) in
    let since : (peer : ℕ) → peer < length c.args.disks.now → g.D.Disk.tells → Since (seen_at old peer).stands = λ peer within told. seen_each (λ (s : DiskSeen). Since s.stands) f (λ x side m high. g.met.D.Disk.since told x side m high) c.args.disks.now peer within in
    let only : IsOnlyRead g.D.Disk.tells c.args.watch.now c.read.new.watch (f (slice_index_or c.args.disks.now p d)) (f y)
    = record { seen = λ told side. c.read.ensures.same told side; moments = λ told last. c.read.ensures.any_moment told last; counted = c.read.ensures.cause.later } in
    λ peer within differ copied read. fronts_read f g.D.Disk.tells c.args.shape p c.args.watch.now c.read.new.watch c.read.new.watch c.args.disks.now y d low peer copied c.read.ensures.ticks (since peer within) (λ h. differ (h ∙ e))

pub returns-in-Err-NotALog-clause-source : goal.returns-in-Err-NotALog-clause-source
returns-in-Err-NotALog-clause-source g c =
    let f : g.row.D.Denot → DiskSeen = λ disk. seen_as (g.D.Disk.size disk) (g.D.Disk.stands disk) (g.D.Disk.faults disk) in
    let old : List DiskSeen = map f c.args.disks.now in
    let p : ℕ = c.from-place.result in
    let e : c.from-place.result ≡ c.args.from = c.from-place.ensures in
    let d = c.index-disks-place.result in
    let y = c.read.new.disk in
    let via : List DiskSeen = map f (slice_set c.args.disks.now p y) in
    let low : c.from-place.result < length c.args.disks.now = omega (arith, c.requires.count, c.requires.from, e) in
    let since : (peer : ℕ) → peer < length c.args.disks.now → g.D.Disk.tells → Since (seen_at old peer).stands = λ peer within told. seen_each (λ (s : DiskSeen). Since s.stands) f (λ x side m high. g.met.D.Disk.since told x side m high) c.args.disks.now peer within in
    let only : IsOnlyRead g.D.Disk.tells c.args.watch.now c.read.new.watch (f (slice_index_or c.args.disks.now p d)) (f y)
    = record { seen = λ told side. c.read.ensures.same told side; moments = λ told last. c.read.ensures.any_moment told last; counted = c.read.ensures.cause.later } in
    subst (λ n. IsOnlyRead g.D.Disk.tells c.args.watch.now c.read.new.watch (seen_at old n) (seen_at via n)) e (read_only f g.D.Disk.tells c.args.shape p c.args.watch.now c.read.new.watch c.read.new.watch c.args.disks.now y d low only)

pub returns-in-Err-NotALog-clause-others : goal.returns-in-Err-NotALog-clause-others
returns-in-Err-NotALog-clause-others g c =
    let f : g.row.D.Denot → DiskSeen = λ disk. seen_as (g.D.Disk.size disk) (g.D.Disk.stands disk) (g.D.Disk.faults disk) in
    let old : List DiskSeen = map f c.args.disks.now in
    let p : ℕ = c.from-place.result in
    let e : c.from-place.result ≡ c.args.from = c.from-place.ensures in
    let d = c.index-disks-place.result in
    let y = c.read.new.disk in
    let via : List DiskSeen = map f (slice_set c.args.disks.now p y) in
    let low : c.from-place.result < length c.args.disks.now = omega (arith, c.requires.count, c.requires.from, e) in
    let since : (peer : ℕ) → peer < length c.args.disks.now → g.D.Disk.tells → Since (seen_at old peer).stands = λ peer within told. seen_each (λ (s : DiskSeen). Since s.stands) f (λ x side m high. g.met.D.Disk.since told x side m high) c.args.disks.now peer within in
    let only : IsOnlyRead g.D.Disk.tells c.args.watch.now c.read.new.watch (f (slice_index_or c.args.disks.now p d)) (f y)
    = record { seen = λ told side. c.read.ensures.same told side; moments = λ told last. c.read.ensures.any_moment told last; counted = c.read.ensures.cause.later } in
    λ peer out. others_read f g.D.Disk.tells c.args.shape p c.args.watch.now c.read.new.watch c.read.new.watch c.args.disks.now y d low peer (subst (λ n. AreBeside c.args.shape n peer → ⊥) (sym e) out)

pub returns-in-Err-NotALog-clause-fronts : goal.returns-in-Err-NotALog-clause-fronts
returns-in-Err-NotALog-clause-fronts g c =
    let f : g.row.D.Denot → DiskSeen = λ disk. seen_as (g.D.Disk.size disk) (g.D.Disk.stands disk) (g.D.Disk.faults disk) in
    let old : List DiskSeen = map f c.args.disks.now in
    let p : ℕ = c.from-place.result in
    let e : c.from-place.result ≡ c.args.from = c.from-place.ensures in
    let d = c.index-disks-place.result in
    let y = c.read.new.disk in
    let via : List DiskSeen = map f (slice_set c.args.disks.now p y) in
    let low : c.from-place.result < length c.args.disks.now = omega (arith, c.requires.count, c.requires.from, e) in
    let since : (peer : ℕ) → peer < length c.args.disks.now → g.D.Disk.tells → Since (seen_at old peer).stands = λ peer within told. seen_each (λ (s : DiskSeen). Since s.stands) f (λ x side m high. g.met.D.Disk.since told x side m high) c.args.disks.now peer within in
    let only : IsOnlyRead g.D.Disk.tells c.args.watch.now c.read.new.watch (f (slice_index_or c.args.disks.now p d)) (f y)
    = record { seen = λ told side. c.read.ensures.same told side; moments = λ told last. c.read.ensures.any_moment told last; counted = c.read.ensures.cause.later } in
    λ peer within differ copied read. fronts_read f g.D.Disk.tells c.args.shape p c.args.watch.now c.read.new.watch c.read.new.watch c.args.disks.now y d low peer copied c.read.ensures.ticks (since peer within) (λ h. differ (h ∙ e))

pub returns-in-Err-WrongShape-clause-source : goal.returns-in-Err-WrongShape-clause-source
returns-in-Err-WrongShape-clause-source g c =
    let f : g.row.D.Denot → DiskSeen = λ disk. seen_as (g.D.Disk.size disk) (g.D.Disk.stands disk) (g.D.Disk.faults disk) in
    let old : List DiskSeen = map f c.args.disks.now in
    let p : ℕ = c.from-place.result in
    let e : c.from-place.result ≡ c.args.from = c.from-place.ensures in
    let d = c.index-disks-place.result in
    let y = c.read.new.disk in
    let via : List DiskSeen = map f (slice_set c.args.disks.now p y) in
    let low : c.from-place.result < length c.args.disks.now = omega (arith, c.requires.count, c.requires.from, e) in
    let since : (peer : ℕ) → peer < length c.args.disks.now → g.D.Disk.tells → Since (seen_at old peer).stands = λ peer within told. seen_each (λ (s : DiskSeen). Since s.stands) f (λ x side m high. g.met.D.Disk.since told x side m high) c.args.disks.now peer within in
    let only : IsOnlyRead g.D.Disk.tells c.args.watch.now c.read.new.watch (f (slice_index_or c.args.disks.now p d)) (f y)
    = record { seen = λ told side. c.read.ensures.same told side; moments = λ told last. c.read.ensures.any_moment told last; counted = c.read.ensures.cause.later } in
    subst (λ n. IsOnlyRead g.D.Disk.tells c.args.watch.now c.read.new.watch (seen_at old n) (seen_at via n)) e (read_only f g.D.Disk.tells c.args.shape p c.args.watch.now c.read.new.watch c.read.new.watch c.args.disks.now y d low only)

pub returns-in-Err-WrongShape-clause-others : goal.returns-in-Err-WrongShape-clause-others
returns-in-Err-WrongShape-clause-others g c =
    let f : g.row.D.Denot → DiskSeen = λ disk. seen_as (g.D.Disk.size disk) (g.D.Disk.stands disk) (g.D.Disk.faults disk) in
    let old : List DiskSeen = map f c.args.disks.now in
    let p : ℕ = c.from-place.result in
    let e : c.from-place.result ≡ c.args.from = c.from-place.ensures in
    let d = c.index-disks-place.result in
    let y = c.read.new.disk in
    let via : List DiskSeen = map f (slice_set c.args.disks.now p y) in
    let low : c.from-place.result < length c.args.disks.now = omega (arith, c.requires.count, c.requires.from, e) in
    let since : (peer : ℕ) → peer < length c.args.disks.now → g.D.Disk.tells → Since (seen_at old peer).stands = λ peer within told. seen_each (λ (s : DiskSeen). Since s.stands) f (λ x side m high. g.met.D.Disk.since told x side m high) c.args.disks.now peer within in
    let only : IsOnlyRead g.D.Disk.tells c.args.watch.now c.read.new.watch (f (slice_index_or c.args.disks.now p d)) (f y)
    = record { seen = λ told side. c.read.ensures.same told side; moments = λ told last. c.read.ensures.any_moment told last; counted = c.read.ensures.cause.later } in
    λ peer out. others_read f g.D.Disk.tells c.args.shape p c.args.watch.now c.read.new.watch c.read.new.watch c.args.disks.now y d low peer (subst (λ n. AreBeside c.args.shape n peer → ⊥) (sym e) out)

pub returns-in-Err-WrongShape-clause-fronts : goal.returns-in-Err-WrongShape-clause-fronts
returns-in-Err-WrongShape-clause-fronts g c =
    let f : g.row.D.Denot → DiskSeen = λ disk. seen_as (g.D.Disk.size disk) (g.D.Disk.stands disk) (g.D.Disk.faults disk) in
    let old : List DiskSeen = map f c.args.disks.now in
    let p : ℕ = c.from-place.result in
    let e : c.from-place.result ≡ c.args.from = c.from-place.ensures in
    let d = c.index-disks-place.result in
    let y = c.read.new.disk in
    let via : List DiskSeen = map f (slice_set c.args.disks.now p y) in
    let low : c.from-place.result < length c.args.disks.now = omega (arith, c.requires.count, c.requires.from, e) in
    let since : (peer : ℕ) → peer < length c.args.disks.now → g.D.Disk.tells → Since (seen_at old peer).stands = λ peer within told. seen_each (λ (s : DiskSeen). Since s.stands) f (λ x side m high. g.met.D.Disk.since told x side m high) c.args.disks.now peer within in
    let only : IsOnlyRead g.D.Disk.tells c.args.watch.now c.read.new.watch (f (slice_index_or c.args.disks.now p d)) (f y)
    = record { seen = λ told side. c.read.ensures.same told side; moments = λ told last. c.read.ensures.any_moment told last; counted = c.read.ensures.cause.later } in
    λ peer within differ copied read. fronts_read f g.D.Disk.tells c.args.shape p c.args.watch.now c.read.new.watch c.read.new.watch c.args.disks.now y d low peer copied c.read.ensures.ticks (since peer within) (λ h. differ (h ∙ e))

pub returns-in-Err-NoMemory-clause-source : goal.returns-in-Err-NoMemory-clause-source
returns-in-Err-NoMemory-clause-source g c =
    let f : g.row.D.Denot → DiskSeen = λ disk. seen_as (g.D.Disk.size disk) (g.D.Disk.stands disk) (g.D.Disk.faults disk) in
    let old : List DiskSeen = map f c.args.disks.now in
    let p : ℕ = c.from-place.result in
    let e : c.from-place.result ≡ c.args.from = c.from-place.ensures in
    let d = c.index-disks-place.result in
    let y = c.read.new.disk in
    let via : List DiskSeen = map f (slice_set c.args.disks.now p y) in
    let low : c.from-place.result < length c.args.disks.now = omega (arith, c.requires.count, c.requires.from, e) in
    let since : (peer : ℕ) → peer < length c.args.disks.now → g.D.Disk.tells → Since (seen_at old peer).stands = λ peer within told. seen_each (λ (s : DiskSeen). Since s.stands) f (λ x side m high. g.met.D.Disk.since told x side m high) c.args.disks.now peer within in
    let only : IsOnlyRead g.D.Disk.tells c.args.watch.now c.read.new.watch (f (slice_index_or c.args.disks.now p d)) (f y)
    = record { seen = λ told side. c.read.ensures.same told side; moments = λ told last. c.read.ensures.any_moment told last; counted = c.read.ensures.cause.later } in
    subst (λ n. IsOnlyRead g.D.Disk.tells c.args.watch.now c.read.new.watch (seen_at old n) (seen_at via n)) e (read_only f g.D.Disk.tells c.args.shape p c.args.watch.now c.read.new.watch c.read.new.watch c.args.disks.now y d low only)

pub returns-in-Err-NoMemory-clause-others : goal.returns-in-Err-NoMemory-clause-others
returns-in-Err-NoMemory-clause-others g c =
    let f : g.row.D.Denot → DiskSeen = λ disk. seen_as (g.D.Disk.size disk) (g.D.Disk.stands disk) (g.D.Disk.faults disk) in
    let old : List DiskSeen = map f c.args.disks.now in
    let p : ℕ = c.from-place.result in
    let e : c.from-place.result ≡ c.args.from = c.from-place.ensures in
    let d = c.index-disks-place.result in
    let y = c.read.new.disk in
    let via : List DiskSeen = map f (slice_set c.args.disks.now p y) in
    let low : c.from-place.result < length c.args.disks.now = omega (arith, c.requires.count, c.requires.from, e) in
    let since : (peer : ℕ) → peer < length c.args.disks.now → g.D.Disk.tells → Since (seen_at old peer).stands = λ peer within told. seen_each (λ (s : DiskSeen). Since s.stands) f (λ x side m high. g.met.D.Disk.since told x side m high) c.args.disks.now peer within in
    let only : IsOnlyRead g.D.Disk.tells c.args.watch.now c.read.new.watch (f (slice_index_or c.args.disks.now p d)) (f y)
    = record { seen = λ told side. c.read.ensures.same told side; moments = λ told last. c.read.ensures.any_moment told last; counted = c.read.ensures.cause.later } in
    λ peer out. others_read f g.D.Disk.tells c.args.shape p c.args.watch.now c.read.new.watch c.read.new.watch c.args.disks.now y d low peer (subst (λ n. AreBeside c.args.shape n peer → ⊥) (sym e) out)

pub returns-in-Err-NoMemory-clause-fronts : goal.returns-in-Err-NoMemory-clause-fronts
returns-in-Err-NoMemory-clause-fronts g c =
    let f : g.row.D.Denot → DiskSeen = λ disk. seen_as (g.D.Disk.size disk) (g.D.Disk.stands disk) (g.D.Disk.faults disk) in
    let old : List DiskSeen = map f c.args.disks.now in
    let p : ℕ = c.from-place.result in
    let e : c.from-place.result ≡ c.args.from = c.from-place.ensures in
    let d = c.index-disks-place.result in
    let y = c.read.new.disk in
    let via : List DiskSeen = map f (slice_set c.args.disks.now p y) in
    let low : c.from-place.result < length c.args.disks.now = omega (arith, c.requires.count, c.requires.from, e) in
    let since : (peer : ℕ) → peer < length c.args.disks.now → g.D.Disk.tells → Since (seen_at old peer).stands = λ peer within told. seen_each (λ (s : DiskSeen). Since s.stands) f (λ x side m high. g.met.D.Disk.since told x side m high) c.args.disks.now peer within in
    let only : IsOnlyRead g.D.Disk.tells c.args.watch.now c.read.new.watch (f (slice_index_or c.args.disks.now p d)) (f y)
    = record { seen = λ told side. c.read.ensures.same told side; moments = λ told last. c.read.ensures.any_moment told last; counted = c.read.ensures.cause.later } in
    λ peer within differ copied read. fronts_read f g.D.Disk.tells c.args.shape p c.args.watch.now c.read.new.watch c.read.new.watch c.args.disks.now y d low peer copied c.read.ensures.ticks (since peer within) (λ h. differ (h ∙ e))

pub returns-in-Err-WrongShape-clause-unwritten : goal.returns-in-Err-WrongShape-clause-unwritten
returns-in-Err-WrongShape-clause-unwritten g c =
    let f : g.row.D.Denot → DiskSeen = λ disk. seen_as (g.D.Disk.size disk) (g.D.Disk.stands disk) (g.D.Disk.faults disk) in
    let old : List DiskSeen = map f c.args.disks.now in
    let p : ℕ = c.from-place.result in
    let e : c.from-place.result ≡ c.args.from = c.from-place.ensures in
    let d = c.index-disks-place.result in
    let y = c.read.new.disk in
    let via : List DiskSeen = map f (slice_set c.args.disks.now p y) in
    let low : c.from-place.result < length c.args.disks.now = omega (arith, c.requires.count, c.requires.from, e) in
    let since : (peer : ℕ) → peer < length c.args.disks.now → g.D.Disk.tells → Since (seen_at old peer).stands = λ peer within told. seen_each (λ (s : DiskSeen). Since s.stands) f (λ x side m high. g.met.D.Disk.since told x side m high) c.args.disks.now peer within in
    let only : IsOnlyRead g.D.Disk.tells c.args.watch.now c.read.new.watch (f (slice_index_or c.args.disks.now p d)) (f y)
    = record { seen = λ told side. c.read.ensures.same told side; moments = λ told last. c.read.ensures.any_moment told last; counted = c.read.ensures.cause.later } in
    λ at found k peer differ. unwritten_read f g.D.Disk.tells c.args.shape p c.args.watch.now c.read.new.watch c.read.new.watch c.args.disks.now y d low peer (λ h. differ (h ∙ e))

pub returns-clause-source : goal.returns-clause-source
returns-clause-source g c =
    let f : g.row.D.Denot → DiskSeen = λ disk. seen_as (g.D.Disk.size disk) (g.D.Disk.stands disk) (g.D.Disk.faults disk) in
    let old : List DiskSeen = map f c.args.disks.now in
    let p : ℕ = c.from-place.result in
    let e : c.from-place.result ≡ c.args.from = c.from-place.ensures in
    let d = c.index-disks-place.result in
    let y = c.read.new.disk in
    let via : List DiskSeen = map f (slice_set c.args.disks.now p y) in
    let low : c.from-place.result < length c.args.disks.now = omega (arith, c.requires.count, c.requires.from, e) in
    let since : (peer : ℕ) → peer < length c.args.disks.now → g.D.Disk.tells → Since (seen_at old peer).stands = λ peer within told. seen_each (λ (s : DiskSeen). Since s.stands) f (λ x side m high. g.met.D.Disk.since told x side m high) c.args.disks.now peer within in
    let only : IsOnlyRead g.D.Disk.tells c.args.watch.now c.read.new.watch (f (slice_index_or c.args.disks.now p d)) (f y)
    = record { seen = λ told side. c.read.ensures.same told side; moments = λ told last. c.read.ensures.any_moment told last; counted = c.read.ensures.cause.later } in
    let new : List DiskSeen = map f c.copy_to_all.new.disks in
    let total : ℕ = c.args.shape.shards * c.args.shape.copies in
    let spares : Spares g.D.Disk.tells c.args.shape c.in-Ok.source p c.read.new.watch c.copy_to_all.new.watch total via new = subst (λ n. Spares g.D.Disk.tells c.args.shape c.in-Ok.source n c.read.new.watch c.copy_to_all.new.watch total via new) (sym e) c.copy_to_all.ensures.spares in
    subst (λ n. IsOnlyRead g.D.Disk.tells c.args.watch.now c.copy_to_all.new.watch (seen_at old n) (seen_at new n)) e (source_copied f g.D.Disk.tells c.args.shape p c.args.watch.now c.read.new.watch c.copy_to_all.new.watch c.args.disks.now y d low c.in-Ok.source new (λ told. c.in-Ok.ensures.listed told) (λ told list k. c.in-Ok.ensures.list told list k) c.in-Ok.ensures.calm c.read.ensures.ticks spares only)

pub returns-clause-others : goal.returns-clause-others
returns-clause-others g c =
    let f : g.row.D.Denot → DiskSeen = λ disk. seen_as (g.D.Disk.size disk) (g.D.Disk.stands disk) (g.D.Disk.faults disk) in
    let old : List DiskSeen = map f c.args.disks.now in
    let p : ℕ = c.from-place.result in
    let e : c.from-place.result ≡ c.args.from = c.from-place.ensures in
    let d = c.index-disks-place.result in
    let y = c.read.new.disk in
    let via : List DiskSeen = map f (slice_set c.args.disks.now p y) in
    let low : c.from-place.result < length c.args.disks.now = omega (arith, c.requires.count, c.requires.from, e) in
    let since : (peer : ℕ) → peer < length c.args.disks.now → g.D.Disk.tells → Since (seen_at old peer).stands = λ peer within told. seen_each (λ (s : DiskSeen). Since s.stands) f (λ x side m high. g.met.D.Disk.since told x side m high) c.args.disks.now peer within in
    let only : IsOnlyRead g.D.Disk.tells c.args.watch.now c.read.new.watch (f (slice_index_or c.args.disks.now p d)) (f y)
    = record { seen = λ told side. c.read.ensures.same told side; moments = λ told last. c.read.ensures.any_moment told last; counted = c.read.ensures.cause.later } in
    let new : List DiskSeen = map f c.copy_to_all.new.disks in
    let total : ℕ = c.args.shape.shards * c.args.shape.copies in
    let spares : Spares g.D.Disk.tells c.args.shape c.in-Ok.source p c.read.new.watch c.copy_to_all.new.watch total via new = subst (λ n. Spares g.D.Disk.tells c.args.shape c.in-Ok.source n c.read.new.watch c.copy_to_all.new.watch total via new) (sym e) c.copy_to_all.ensures.spares in
    λ peer out. others_copied f g.D.Disk.tells c.args.shape p c.args.watch.now c.read.new.watch c.copy_to_all.new.watch c.args.disks.now y d low c.in-Ok.source new (λ told. c.in-Ok.ensures.listed told) (λ told list k. c.in-Ok.ensures.list told list k) c.in-Ok.ensures.calm c.read.ensures.ticks spares peer (subst (λ n. AreBeside c.args.shape n peer → ⊥) (sym e) out)

pub returns-clause-fronts : goal.returns-clause-fronts
returns-clause-fronts g c =
    let f : g.row.D.Denot → DiskSeen = λ disk. seen_as (g.D.Disk.size disk) (g.D.Disk.stands disk) (g.D.Disk.faults disk) in
    let old : List DiskSeen = map f c.args.disks.now in
    let p : ℕ = c.from-place.result in
    let e : c.from-place.result ≡ c.args.from = c.from-place.ensures in
    let d = c.index-disks-place.result in
    let y = c.read.new.disk in
    let via : List DiskSeen = map f (slice_set c.args.disks.now p y) in
    let low : c.from-place.result < length c.args.disks.now = omega (arith, c.requires.count, c.requires.from, e) in
    let since : (peer : ℕ) → peer < length c.args.disks.now → g.D.Disk.tells → Since (seen_at old peer).stands = λ peer within told. seen_each (λ (s : DiskSeen). Since s.stands) f (λ x side m high. g.met.D.Disk.since told x side m high) c.args.disks.now peer within in
    let only : IsOnlyRead g.D.Disk.tells c.args.watch.now c.read.new.watch (f (slice_index_or c.args.disks.now p d)) (f y)
    = record { seen = λ told side. c.read.ensures.same told side; moments = λ told last. c.read.ensures.any_moment told last; counted = c.read.ensures.cause.later } in
    let new : List DiskSeen = map f c.copy_to_all.new.disks in
    let total : ℕ = c.args.shape.shards * c.args.shape.copies in
    let spares : Spares g.D.Disk.tells c.args.shape c.in-Ok.source p c.read.new.watch c.copy_to_all.new.watch total via new = subst (λ n. Spares g.D.Disk.tells c.args.shape c.in-Ok.source n c.read.new.watch c.copy_to_all.new.watch total via new) (sym e) c.copy_to_all.ensures.spares in
    λ peer within differ copied read.
    fronts_copied f g.D.Disk.tells c.args.shape p c.args.watch.now c.read.new.watch c.copy_to_all.new.watch c.args.disks.now y d low c.in-Ok.source new (λ told. c.in-Ok.ensures.listed told) (λ told list k. c.in-Ok.ensures.list told list k) c.in-Ok.ensures.calm c.read.ensures.ticks spares peer (omega (arith, within, c.requires.count)) (λ h. differ (h ∙ e)) (since peer within) copied (λ told. ap (λ n. list_in (seen_at old n).stands.seen) e ∙ read told)

pub returns-clause-other : goal.returns-clause-other
returns-clause-other g c =
    let f : g.row.D.Denot → DiskSeen = λ disk. seen_as (g.D.Disk.size disk) (g.D.Disk.stands disk) (g.D.Disk.faults disk) in
    let old : List DiskSeen = map f c.args.disks.now in
    let p : ℕ = c.from-place.result in
    let e : c.from-place.result ≡ c.args.from = c.from-place.ensures in
    let d = c.index-disks-place.result in
    let y = c.read.new.disk in
    let via : List DiskSeen = map f (slice_set c.args.disks.now p y) in
    let low : c.from-place.result < length c.args.disks.now = omega (arith, c.requires.count, c.requires.from, e) in
    let since : (peer : ℕ) → peer < length c.args.disks.now → g.D.Disk.tells → Since (seen_at old peer).stands = λ peer within told. seen_each (λ (s : DiskSeen). Since s.stands) f (λ x side m high. g.met.D.Disk.since told x side m high) c.args.disks.now peer within in
    let only : IsOnlyRead g.D.Disk.tells c.args.watch.now c.read.new.watch (f (slice_index_or c.args.disks.now p d)) (f y)
    = record { seen = λ told side. c.read.ensures.same told side; moments = λ told last. c.read.ensures.any_moment told last; counted = c.read.ensures.cause.later } in
    let new : List DiskSeen = map f c.copy_to_all.new.disks in
    let total : ℕ = c.args.shape.shards * c.args.shape.copies in
    let spares : Spares g.D.Disk.tells c.args.shape c.in-Ok.source p c.read.new.watch c.copy_to_all.new.watch total via new = subst (λ n. Spares g.D.Disk.tells c.args.shape c.in-Ok.source n c.read.new.watch c.copy_to_all.new.watch total via new) (sym e) c.copy_to_all.ensures.spares in
    memory_other g.D.Disk.tells c.args.shape c.args.from (seen_at old c.args.from) (seen_at new c.args.from) c.copy_to_all.result c.copy_to_all.ensures.memory

pub returns-clause-unwritten : goal.returns-clause-unwritten
returns-clause-unwritten g c =
    let f : g.row.D.Denot → DiskSeen = λ disk. seen_as (g.D.Disk.size disk) (g.D.Disk.stands disk) (g.D.Disk.faults disk) in
    let old : List DiskSeen = map f c.args.disks.now in
    let p : ℕ = c.from-place.result in
    let e : c.from-place.result ≡ c.args.from = c.from-place.ensures in
    let d = c.index-disks-place.result in
    let y = c.read.new.disk in
    let via : List DiskSeen = map f (slice_set c.args.disks.now p y) in
    let low : c.from-place.result < length c.args.disks.now = omega (arith, c.requires.count, c.requires.from, e) in
    let since : (peer : ℕ) → peer < length c.args.disks.now → g.D.Disk.tells → Since (seen_at old peer).stands = λ peer within told. seen_each (λ (s : DiskSeen). Since s.stands) f (λ x side m high. g.met.D.Disk.since told x side m high) c.args.disks.now peer within in
    let only : IsOnlyRead g.D.Disk.tells c.args.watch.now c.read.new.watch (f (slice_index_or c.args.disks.now p d)) (f y)
    = record { seen = λ told side. c.read.ensures.same told side; moments = λ told last. c.read.ensures.any_moment told last; counted = c.read.ensures.cause.later } in
    let new : List DiskSeen = map f c.copy_to_all.new.disks in
    let total : ℕ = c.args.shape.shards * c.args.shape.copies in
    let spares : Spares g.D.Disk.tells c.args.shape c.in-Ok.source p c.read.new.watch c.copy_to_all.new.watch total via new = subst (λ n. Spares g.D.Disk.tells c.args.shape c.in-Ok.source n c.read.new.watch c.copy_to_all.new.watch total via new) (sym e) c.copy_to_all.ensures.spares in
    memory_unwritten _ c.copy_to_all.result c.copy_to_all.ensures.memory

pub returns-clause-copied : goal.returns-clause-copied
returns-clause-copied g c =
    let f : g.row.D.Denot → DiskSeen = λ disk. seen_as (g.D.Disk.size disk) (g.D.Disk.stands disk) (g.D.Disk.faults disk) in
    let old : List DiskSeen = map f c.args.disks.now in
    let p : ℕ = c.from-place.result in
    let e : c.from-place.result ≡ c.args.from = c.from-place.ensures in
    let d = c.index-disks-place.result in
    let y = c.read.new.disk in
    let via : List DiskSeen = map f (slice_set c.args.disks.now p y) in
    let low : c.from-place.result < length c.args.disks.now = omega (arith, c.requires.count, c.requires.from, e) in
    let since : (peer : ℕ) → peer < length c.args.disks.now → g.D.Disk.tells → Since (seen_at old peer).stands = λ peer within told. seen_each (λ (s : DiskSeen). Since s.stands) f (λ x side m high. g.met.D.Disk.since told x side m high) c.args.disks.now peer within in
    let only : IsOnlyRead g.D.Disk.tells c.args.watch.now c.read.new.watch (f (slice_index_or c.args.disks.now p d)) (f y)
    = record { seen = λ told side. c.read.ensures.same told side; moments = λ told last. c.read.ensures.any_moment told last; counted = c.read.ensures.cause.later } in
    let new : List DiskSeen = map f c.copy_to_all.new.disks in
    let total : ℕ = c.args.shape.shards * c.args.shape.copies in
    let spares : Spares g.D.Disk.tells c.args.shape c.in-Ok.source p c.read.new.watch c.copy_to_all.new.watch total via new = subst (λ n. Spares g.D.Disk.tells c.args.shape c.in-Ok.source n c.read.new.watch c.copy_to_all.new.watch total via new) (sym e) c.copy_to_all.ensures.spares in
    ok_so c.copy_to_all.result c.copy_to_all.ensures.given
    (λ h. subst (λ n. HasCopied g.D.Disk.tells c.args.shape n c.args.watch.now old new c.args.out.now.items c.copy_to_all.new.out.items) e
    (copied_so f g.D.Disk.tells c.args.shape p c.args.watch.now c.read.new.watch c.copy_to_all.new.watch c.args.disks.now y d low c.in-Ok.source new (λ told. c.in-Ok.ensures.listed told) (λ told list k. c.in-Ok.ensures.list told list k) c.in-Ok.ensures.calm c.read.ensures.ticks spares c.args.out.now.items c.copy_to_all.new.out.items (subst (λ n. HasGiven g.D.Disk.tells c.args.shape c.in-Ok.source n c.read.new.watch total via new c.args.out.now.items c.copy_to_all.new.out.items) (sym e) h)))

pub returns-in-Err-Disk-clause-copied : goal.returns-in-Err-Disk-clause-copied
returns-in-Err-Disk-clause-copied g c =
    let f : g.row.D.Denot → DiskSeen = λ disk. seen_as (g.D.Disk.size disk) (g.D.Disk.stands disk) (g.D.Disk.faults disk) in
    let old : List DiskSeen = map f c.args.disks.now in
    let p : ℕ = c.from-place.result in
    let e : c.from-place.result ≡ c.args.from = c.from-place.ensures in
    let d = c.index-disks-place.result in
    let y = c.read.new.disk in
    let via : List DiskSeen = map f (slice_set c.args.disks.now p y) in
    let low : c.from-place.result < length c.args.disks.now = omega (arith, c.requires.count, c.requires.from, e) in
    let since : (peer : ℕ) → peer < length c.args.disks.now → g.D.Disk.tells → Since (seen_at old peer).stands = λ peer within told. seen_each (λ (s : DiskSeen). Since s.stands) f (λ x side m high. g.met.D.Disk.since told x side m high) c.args.disks.now peer within in
    let only : IsOnlyRead g.D.Disk.tells c.args.watch.now c.read.new.watch (f (slice_index_or c.args.disks.now p d)) (f y)
    = record { seen = λ told side. c.read.ensures.same told side; moments = λ told last. c.read.ensures.any_moment told last; counted = c.read.ensures.cause.later } in
    ok_so c.put_mark.result c.put_mark.ensures.ok
    (λ text. subst (λ n. HasCopied g.D.Disk.tells c.args.shape n c.args.watch.now old via c.args.out.now.items c.put_mark.new.out.items) e
    (ended_read f g.D.Disk.tells c.args.shape p c.args.watch.now c.read.new.watch c.read.new.watch c.args.disks.now y d low Fault c.args.out.now.items c.put_mark.new.out.items (subst (λ n. HasEnded g.D.Disk.tells c.args.shape n (f (slice_index_or c.args.disks.now p d)) (f y) Fault) (sym e) (c.in-Err-Disk.ensures.cause.failed (ap (λ (k : LogFault). Err k) c.in-Err-Disk.field-0-is)))
    (text ∙ ap (λ n. c.args.out.now.items ++ line_of 0 n Fault) (sym e))))

pub returns-in-Err-NotALog-clause-copied : goal.returns-in-Err-NotALog-clause-copied
returns-in-Err-NotALog-clause-copied g c =
    let f : g.row.D.Denot → DiskSeen = λ disk. seen_as (g.D.Disk.size disk) (g.D.Disk.stands disk) (g.D.Disk.faults disk) in
    let old : List DiskSeen = map f c.args.disks.now in
    let p : ℕ = c.from-place.result in
    let e : c.from-place.result ≡ c.args.from = c.from-place.ensures in
    let d = c.index-disks-place.result in
    let y = c.read.new.disk in
    let via : List DiskSeen = map f (slice_set c.args.disks.now p y) in
    let low : c.from-place.result < length c.args.disks.now = omega (arith, c.requires.count, c.requires.from, e) in
    let since : (peer : ℕ) → peer < length c.args.disks.now → g.D.Disk.tells → Since (seen_at old peer).stands = λ peer within told. seen_each (λ (s : DiskSeen). Since s.stands) f (λ x side m high. g.met.D.Disk.since told x side m high) c.args.disks.now peer within in
    let only : IsOnlyRead g.D.Disk.tells c.args.watch.now c.read.new.watch (f (slice_index_or c.args.disks.now p d)) (f y)
    = record { seen = λ told side. c.read.ensures.same told side; moments = λ told last. c.read.ensures.any_moment told last; counted = c.read.ensures.cause.later } in
    ok_so c.put_mark-in-Err-NotALog.result c.put_mark-in-Err-NotALog.ensures.ok
    (λ text. subst (λ n. HasCopied g.D.Disk.tells c.args.shape n c.args.watch.now old via c.args.out.now.items c.put_mark-in-Err-NotALog.new.out.items) e
    (ended_read f g.D.Disk.tells c.args.shape p c.args.watch.now c.read.new.watch c.read.new.watch c.args.disks.now y d low (NoLog c.in-Err-NotALog.at) c.args.out.now.items c.put_mark-in-Err-NotALog.new.out.items (subst (λ n. HasEnded g.D.Disk.tells c.args.shape n (f (slice_index_or c.args.disks.now p d)) (f y) (NoLog c.in-Err-NotALog.at)) (sym e) (record { calm = view_no_log c.in-Err-NotALog.field-0 c.in-Err-NotALog.at (g.D.Disk.faults (slice_index_or c.args.disks.now p d)) (g.D.Disk.faults y) c.in-Err-NotALog.field-0-is c.in-Err-NotALog.ensures.calm; refused = λ told. (subst (λ fault. IsRefusal fault (refusal_in c.args.shape c.args.from (f (slice_index_or c.args.disks.now p d)).stands.seen)) c.in-Err-NotALog.field-0-is (c.in-Err-NotALog.ensures.refused told)) }))
    (text ∙ ap (λ a. c.args.out.now.items ++ line_of 0 c.args.from (NoLog a)) c.in-Err-NotALog.at-is ∙ ap (λ n. c.args.out.now.items ++ line_of 0 n (NoLog c.in-Err-NotALog.at)) (sym e))))

pub returns-in-Err-Disk-clause-own : goal.returns-in-Err-Disk-clause-own
returns-in-Err-Disk-clause-own g c =
    let f : g.row.D.Denot → DiskSeen = λ disk. seen_as (g.D.Disk.size disk) (g.D.Disk.stands disk) (g.D.Disk.faults disk) in
    let old : List DiskSeen = map f c.args.disks.now in
    let p : ℕ = c.from-place.result in
    let e : c.from-place.result ≡ c.args.from = c.from-place.ensures in
    let d = c.index-disks-place.result in
    let y = c.read.new.disk in
    let via : List DiskSeen = map f (slice_set c.args.disks.now p y) in
    let low : c.from-place.result < length c.args.disks.now = omega (arith, c.requires.count, c.requires.from, e) in
    let since : (peer : ℕ) → peer < length c.args.disks.now → g.D.Disk.tells → Since (seen_at old peer).stands = λ peer within told. seen_each (λ (s : DiskSeen). Since s.stands) f (λ x side m high. g.met.D.Disk.since told x side m high) c.args.disks.now peer within in
    let only : IsOnlyRead g.D.Disk.tells c.args.watch.now c.read.new.watch (f (slice_index_or c.args.disks.now p d)) (f y)
    = record { seen = λ told side. c.read.ensures.same told side; moments = λ told last. c.read.ensures.any_moment told last; counted = c.read.ensures.cause.later } in
    λ told. on_ok_any c.put_mark.result (λ found k. subst (λ n. HasRisen (seen_at old n).faults (seen_at via n).faults) e (own_risen f g.D.Disk.tells c.args.shape p c.args.watch.now c.read.new.watch c.read.new.watch c.args.disks.now y d low (c.in-Err-Disk.ensures.cause.failed (ap (λ (k : LogFault). Err k) c.in-Err-Disk.field-0-is))))

pub returns-in-Err-NotALog-clause-own : goal.returns-in-Err-NotALog-clause-own
returns-in-Err-NotALog-clause-own g c =
    let f : g.row.D.Denot → DiskSeen = λ disk. seen_as (g.D.Disk.size disk) (g.D.Disk.stands disk) (g.D.Disk.faults disk) in
    let old : List DiskSeen = map f c.args.disks.now in
    let p : ℕ = c.from-place.result in
    let e : c.from-place.result ≡ c.args.from = c.from-place.ensures in
    let d = c.index-disks-place.result in
    let y = c.read.new.disk in
    let via : List DiskSeen = map f (slice_set c.args.disks.now p y) in
    let low : c.from-place.result < length c.args.disks.now = omega (arith, c.requires.count, c.requires.from, e) in
    let since : (peer : ℕ) → peer < length c.args.disks.now → g.D.Disk.tells → Since (seen_at old peer).stands = λ peer within told. seen_each (λ (s : DiskSeen). Since s.stands) f (λ x side m high. g.met.D.Disk.since told x side m high) c.args.disks.now peer within in
    let only : IsOnlyRead g.D.Disk.tells c.args.watch.now c.read.new.watch (f (slice_index_or c.args.disks.now p d)) (f y)
    = record { seen = λ told side. c.read.ensures.same told side; moments = λ told last. c.read.ensures.any_moment told last; counted = c.read.ensures.cause.later } in
    λ told. on_ok_any c.put_mark-in-Err-NotALog.result (λ found k. absurd (own_not f g.D.Disk.tells c.args.shape p c.args.watch.now c.read.new.watch c.read.new.watch c.args.disks.now y d low (Some (log.NotALog c.in-Err-NotALog.at)) found (no_log_not_wrong c.in-Err-NotALog.at found) (subst (λ n. refusal_in c.args.shape n (f (slice_index_or c.args.disks.now p d)).stands.seen ≡ (Some (log.NotALog c.in-Err-NotALog.at))) (sym e) (subst (λ fault. IsRefusal fault (refusal_in c.args.shape c.args.from (f (slice_index_or c.args.disks.now p d)).stands.seen)) c.in-Err-NotALog.field-0-is (c.in-Err-NotALog.ensures.refused told)))
    (subst (λ n. refusal_in c.args.shape n (seen_at old n).stands.seen ≡ Some (log.WrongShape found)) (sym e) k)))

pub returns-clause-own : goal.returns-clause-own
returns-clause-own g c =
    let f : g.row.D.Denot → DiskSeen = λ disk. seen_as (g.D.Disk.size disk) (g.D.Disk.stands disk) (g.D.Disk.faults disk) in
    let old : List DiskSeen = map f c.args.disks.now in
    let p : ℕ = c.from-place.result in
    let e : c.from-place.result ≡ c.args.from = c.from-place.ensures in
    let d = c.index-disks-place.result in
    let y = c.read.new.disk in
    let via : List DiskSeen = map f (slice_set c.args.disks.now p y) in
    let low : c.from-place.result < length c.args.disks.now = omega (arith, c.requires.count, c.requires.from, e) in
    let since : (peer : ℕ) → peer < length c.args.disks.now → g.D.Disk.tells → Since (seen_at old peer).stands = λ peer within told. seen_each (λ (s : DiskSeen). Since s.stands) f (λ x side m high. g.met.D.Disk.since told x side m high) c.args.disks.now peer within in
    let only : IsOnlyRead g.D.Disk.tells c.args.watch.now c.read.new.watch (f (slice_index_or c.args.disks.now p d)) (f y)
    = record { seen = λ told side. c.read.ensures.same told side; moments = λ told last. c.read.ensures.any_moment told last; counted = c.read.ensures.cause.later } in
    λ told. on_ok_any c.copy_to_all.result (λ found k. absurd (own_not f g.D.Disk.tells c.args.shape p c.args.watch.now c.read.new.watch c.read.new.watch c.args.disks.now y d low None found (none_not_wrong found) (subst (λ n. refusal_in c.args.shape n (f (slice_index_or c.args.disks.now p d)).stands.seen ≡ None) (sym e) (c.in-Ok.ensures.accepted told))
    (subst (λ n. refusal_in c.args.shape n (seen_at old n).stands.seen ≡ Some (log.WrongShape found)) (sym e) k)))

pub returns-in-Err-WrongShape-clause-other : goal.returns-in-Err-WrongShape-clause-other
returns-in-Err-WrongShape-clause-other g c =
    let f : g.row.D.Denot → DiskSeen = λ disk. seen_as (g.D.Disk.size disk) (g.D.Disk.stands disk) (g.D.Disk.faults disk) in
    let old : List DiskSeen = map f c.args.disks.now in
    let p : ℕ = c.from-place.result in
    let e : c.from-place.result ≡ c.args.from = c.from-place.ensures in
    let d = c.index-disks-place.result in
    let y = c.read.new.disk in
    let via : List DiskSeen = map f (slice_set c.args.disks.now p y) in
    let low : c.from-place.result < length c.args.disks.now = omega (arith, c.requires.count, c.requires.from, e) in
    let since : (peer : ℕ) → peer < length c.args.disks.now → g.D.Disk.tells → Since (seen_at old peer).stands = λ peer within told. seen_each (λ (s : DiskSeen). Since s.stands) f (λ x side m high. g.met.D.Disk.since told x side m high) c.args.disks.now peer within in
    let only : IsOnlyRead g.D.Disk.tells c.args.watch.now c.read.new.watch (f (slice_index_or c.args.disks.now p d)) (f y)
    = record { seen = λ told side. c.read.ensures.same told side; moments = λ told last. c.read.ensures.any_moment told last; counted = c.read.ensures.cause.later } in
    let o = (other_read f g.D.Disk.tells c.args.shape p c.args.watch.now c.read.new.watch c.read.new.watch c.args.disks.now y d low c.in-Err-WrongShape.found (λ told. subst (λ n. refusal_in c.args.shape n (f (slice_index_or c.args.disks.now p d)).stands.seen ≡ Some (log.WrongShape c.in-Err-WrongShape.found)) (sym e) (subst (λ fault. IsRefusal fault (refusal_in c.args.shape c.args.from (f (slice_index_or c.args.disks.now p d)).stands.seen)) c.in-Err-WrongShape.field-0-is (c.in-Err-WrongShape.ensures.refused told)))
    (view_other c.in-Err-WrongShape.field-0 c.in-Err-WrongShape.found (g.D.Disk.faults (slice_index_or c.args.disks.now p d)) (g.D.Disk.faults y) c.in-Err-WrongShape.field-0-is c.in-Err-WrongShape.ensures.calm)) in
    let told_so : g.D.Disk.tells → refusal_in c.args.shape c.args.from (seen_at old c.args.from).stands.seen ≡ Some (log.WrongShape c.in-Err-WrongShape.found)
    = λ told. subst (λ n. refusal_in c.args.shape n (seen_at old n).stands.seen ≡ Some (log.WrongShape c.in-Err-WrongShape.found)) e (o.1 told) in
    (refl, λ told. told_so told ∙ ap (λ w. Some (log.WrongShape w)) (sym c.in-Err-WrongShape.found-is), subst (λ n. (seen_at via n).faults ≡ (seen_at old n).faults) e o.2)

pub copy_to_all-requires-clause-source : goal.copy_to_all-requires-clause-source
copy_to_all-requires-clause-source g c =
    let f : g.row.D.Denot → DiskSeen = λ disk. seen_as (g.D.Disk.size disk) (g.D.Disk.stands disk) (g.D.Disk.faults disk) in
    let old : List DiskSeen = map f c.args.disks.now in
    let p : ℕ = c.from-place.result in
    let e : c.from-place.result ≡ c.args.from = c.from-place.ensures in
    let d = c.index-disks-place.result in
    let y = c.read.new.disk in
    let via : List DiskSeen = map f (slice_set c.args.disks.now p y) in
    let low : c.from-place.result < length c.args.disks.now = omega (arith, c.requires.count, c.requires.from, e) in
    let since : (peer : ℕ) → peer < length c.args.disks.now → g.D.Disk.tells → Since (seen_at old peer).stands = λ peer within told. seen_each (λ (s : DiskSeen). Since s.stands) f (λ x side m high. g.met.D.Disk.since told x side m high) c.args.disks.now peer within in
    let only : IsOnlyRead g.D.Disk.tells c.args.watch.now c.read.new.watch (f (slice_index_or c.args.disks.now p d)) (f y)
    = record { seen = λ told side. c.read.ensures.same told side; moments = λ told last. c.read.ensures.any_moment told last; counted = c.read.ensures.cause.later } in
    subst (λ n. Stands g.D.Disk.tells c.in-Ok.source.log ((seen_at via n).size c.in-Ok.source.log.side) (seen_at via n).stands) e (stands_read f g.D.Disk.tells c.args.shape p c.args.watch.now c.read.new.watch c.read.new.watch c.args.disks.now y d low c.in-Ok.source c.in-Ok.ensures.stands)

pub returns-in-Err-Disk-clause-counted : goal.returns-in-Err-Disk-clause-counted
returns-in-Err-Disk-clause-counted g c =
    let f : g.row.D.Denot → DiskSeen = λ disk. seen_as (g.D.Disk.size disk) (g.D.Disk.stands disk) (g.D.Disk.faults disk) in
    let old : List DiskSeen = map f c.args.disks.now in
    let p : ℕ = c.from-place.result in
    let e : c.from-place.result ≡ c.args.from = c.from-place.ensures in
    let d = c.index-disks-place.result in
    let y = c.read.new.disk in
    let via : List DiskSeen = map f (slice_set c.args.disks.now p y) in
    let low : c.from-place.result < length c.args.disks.now = omega (arith, c.requires.count, c.requires.from, e) in
    let since : (peer : ℕ) → peer < length c.args.disks.now → g.D.Disk.tells → Since (seen_at old peer).stands = λ peer within told. seen_each (λ (s : DiskSeen). Since s.stands) f (λ x side m high. g.met.D.Disk.since told x side m high) c.args.disks.now peer within in
    let only : IsOnlyRead g.D.Disk.tells c.args.watch.now c.read.new.watch (f (slice_index_or c.args.disks.now p d)) (f y)
    = record { seen = λ told side. c.read.ensures.same told side; moments = λ told last. c.read.ensures.any_moment told last; counted = c.read.ensures.cause.later } in
    λ peer. counted_read f g.D.Disk.tells c.args.shape p c.args.watch.now c.read.new.watch c.read.new.watch c.args.disks.now y d low c.read.ensures.cause.later peer

pub returns-in-Err-NotALog-clause-counted : goal.returns-in-Err-NotALog-clause-counted
returns-in-Err-NotALog-clause-counted g c =
    let f : g.row.D.Denot → DiskSeen = λ disk. seen_as (g.D.Disk.size disk) (g.D.Disk.stands disk) (g.D.Disk.faults disk) in
    let old : List DiskSeen = map f c.args.disks.now in
    let p : ℕ = c.from-place.result in
    let e : c.from-place.result ≡ c.args.from = c.from-place.ensures in
    let d = c.index-disks-place.result in
    let y = c.read.new.disk in
    let via : List DiskSeen = map f (slice_set c.args.disks.now p y) in
    let low : c.from-place.result < length c.args.disks.now = omega (arith, c.requires.count, c.requires.from, e) in
    let since : (peer : ℕ) → peer < length c.args.disks.now → g.D.Disk.tells → Since (seen_at old peer).stands = λ peer within told. seen_each (λ (s : DiskSeen). Since s.stands) f (λ x side m high. g.met.D.Disk.since told x side m high) c.args.disks.now peer within in
    let only : IsOnlyRead g.D.Disk.tells c.args.watch.now c.read.new.watch (f (slice_index_or c.args.disks.now p d)) (f y)
    = record { seen = λ told side. c.read.ensures.same told side; moments = λ told last. c.read.ensures.any_moment told last; counted = c.read.ensures.cause.later } in
    λ peer. counted_read f g.D.Disk.tells c.args.shape p c.args.watch.now c.read.new.watch c.read.new.watch c.args.disks.now y d low c.read.ensures.cause.later peer

pub returns-in-Err-WrongShape-clause-counted : goal.returns-in-Err-WrongShape-clause-counted
returns-in-Err-WrongShape-clause-counted g c =
    let f : g.row.D.Denot → DiskSeen = λ disk. seen_as (g.D.Disk.size disk) (g.D.Disk.stands disk) (g.D.Disk.faults disk) in
    let old : List DiskSeen = map f c.args.disks.now in
    let p : ℕ = c.from-place.result in
    let e : c.from-place.result ≡ c.args.from = c.from-place.ensures in
    let d = c.index-disks-place.result in
    let y = c.read.new.disk in
    let via : List DiskSeen = map f (slice_set c.args.disks.now p y) in
    let low : c.from-place.result < length c.args.disks.now = omega (arith, c.requires.count, c.requires.from, e) in
    let since : (peer : ℕ) → peer < length c.args.disks.now → g.D.Disk.tells → Since (seen_at old peer).stands = λ peer within told. seen_each (λ (s : DiskSeen). Since s.stands) f (λ x side m high. g.met.D.Disk.since told x side m high) c.args.disks.now peer within in
    let only : IsOnlyRead g.D.Disk.tells c.args.watch.now c.read.new.watch (f (slice_index_or c.args.disks.now p d)) (f y)
    = record { seen = λ told side. c.read.ensures.same told side; moments = λ told last. c.read.ensures.any_moment told last; counted = c.read.ensures.cause.later } in
    λ peer. counted_read f g.D.Disk.tells c.args.shape p c.args.watch.now c.read.new.watch c.read.new.watch c.args.disks.now y d low c.read.ensures.cause.later peer

pub returns-in-Err-NoMemory-clause-counted : goal.returns-in-Err-NoMemory-clause-counted
returns-in-Err-NoMemory-clause-counted g c =
    let f : g.row.D.Denot → DiskSeen = λ disk. seen_as (g.D.Disk.size disk) (g.D.Disk.stands disk) (g.D.Disk.faults disk) in
    let old : List DiskSeen = map f c.args.disks.now in
    let p : ℕ = c.from-place.result in
    let e : c.from-place.result ≡ c.args.from = c.from-place.ensures in
    let d = c.index-disks-place.result in
    let y = c.read.new.disk in
    let via : List DiskSeen = map f (slice_set c.args.disks.now p y) in
    let low : c.from-place.result < length c.args.disks.now = omega (arith, c.requires.count, c.requires.from, e) in
    let since : (peer : ℕ) → peer < length c.args.disks.now → g.D.Disk.tells → Since (seen_at old peer).stands = λ peer within told. seen_each (λ (s : DiskSeen). Since s.stands) f (λ x side m high. g.met.D.Disk.since told x side m high) c.args.disks.now peer within in
    let only : IsOnlyRead g.D.Disk.tells c.args.watch.now c.read.new.watch (f (slice_index_or c.args.disks.now p d)) (f y)
    = record { seen = λ told side. c.read.ensures.same told side; moments = λ told last. c.read.ensures.any_moment told last; counted = c.read.ensures.cause.later } in
    λ peer. counted_read f g.D.Disk.tells c.args.shape p c.args.watch.now c.read.new.watch c.read.new.watch c.args.disks.now y d low c.read.ensures.cause.later peer

pub returns-clause-counted : goal.returns-clause-counted
returns-clause-counted g c =
    let f : g.row.D.Denot → DiskSeen = λ disk. seen_as (g.D.Disk.size disk) (g.D.Disk.stands disk) (g.D.Disk.faults disk) in
    let old : List DiskSeen = map f c.args.disks.now in
    let p : ℕ = c.from-place.result in
    let e : c.from-place.result ≡ c.args.from = c.from-place.ensures in
    let d = c.index-disks-place.result in
    let y = c.read.new.disk in
    let via : List DiskSeen = map f (slice_set c.args.disks.now p y) in
    let low : c.from-place.result < length c.args.disks.now = omega (arith, c.requires.count, c.requires.from, e) in
    let since : (peer : ℕ) → peer < length c.args.disks.now → g.D.Disk.tells → Since (seen_at old peer).stands = λ peer within told. seen_each (λ (s : DiskSeen). Since s.stands) f (λ x side m high. g.met.D.Disk.since told x side m high) c.args.disks.now peer within in
    let only : IsOnlyRead g.D.Disk.tells c.args.watch.now c.read.new.watch (f (slice_index_or c.args.disks.now p d)) (f y)
    = record { seen = λ told side. c.read.ensures.same told side; moments = λ told last. c.read.ensures.any_moment told last; counted = c.read.ensures.cause.later } in
    let new : List DiskSeen = map f c.copy_to_all.new.disks in
    let total : ℕ = c.args.shape.shards * c.args.shape.copies in
    let spares : Spares g.D.Disk.tells c.args.shape c.in-Ok.source p c.read.new.watch c.copy_to_all.new.watch total via new = subst (λ n. Spares g.D.Disk.tells c.args.shape c.in-Ok.source n c.read.new.watch c.copy_to_all.new.watch total via new) (sym e) c.copy_to_all.ensures.spares in
    λ peer. counted_copied f g.D.Disk.tells c.args.shape p c.args.watch.now c.read.new.watch c.copy_to_all.new.watch c.args.disks.now y d low c.in-Ok.source new (λ told. c.in-Ok.ensures.listed told) (λ told list k. c.in-Ok.ensures.list told list k) c.in-Ok.ensures.calm c.read.ensures.ticks spares c.read.ensures.cause.later peer
