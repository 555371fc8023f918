use Rattle.std.proofs.Common.{◌≡◌, ◌∙◌, ◌+◌, ◌<◌, ap, arith, ℕ, List, Some, length, map, sym}
use Rattle.std.proofs.lemmas.Grind.{common_steps}
use Rattle.hs_entry.specs.declared.entry.Entry.{Entry}
use Rattle.hs_peerlog.proofs.ImageLemmas.{Since}
use Rattle.hs_peerlog.specs.Lists.{numbered_entry}
use Rattle.hs_peerlog.specs.Views.{HasView}
use Rattle.hs_scrub.proofs.GiveLemmas.{fronts_none, put_calls, put_calm, put_fronts, put_more, put_risen}
use Rattle.hs_taking.proofs.DiskLemmas.{seen_each}
use Rattle.hs_taking.specs.Disks.{DiskSeen, seen_as, seen_at}
use Rattle.hs_scrub.proofs.giving.copy_entry.Goals as goal

pub returns-in-Ok-None-clause-any_moment : goal.returns-in-Ok-None-clause-any_moment
returns-in-Ok-None-clause-any_moment g c =
    let f : g.row.D.Denot → DiskSeen = λ disk. seen_as (g.D.Disk.size disk) (g.D.Disk.stands disk) (g.D.Disk.faults disk) in
    let old : List DiskSeen = map f c.args.disks.now in
    let via : List DiskSeen = map f c.read_at.new.disks in
    fronts_none g.D.Disk.tells c.args.source.now c.args.watch.now (seen_at old c.args.from) (seen_at old c.args.place) (seen_at via c.args.place) c.args.log.now c.args.index (c.read_at.ensures.rest c.args.place (λ is. c.requires.other (sym is)))
    (λ told. seen_each (λ (s : DiskSeen). Since s.stands) f (λ x side m high. g.met.D.Disk.since told x side m high) c.args.disks.now c.args.place c.requires.place)

pub returns-in-Some-clause-any_moment : goal.returns-in-Some-clause-any_moment
returns-in-Some-clause-any_moment g c =
    let f : g.row.D.Denot → DiskSeen = λ disk. seen_as (g.D.Disk.size disk) (g.D.Disk.stands disk) (g.D.Disk.faults disk) in
    let old : List DiskSeen = map f c.args.disks.now in
    let via : List DiskSeen = map f c.read_at.new.disks in
    fronts_none g.D.Disk.tells c.args.source.now c.args.watch.now (seen_at old c.args.from) (seen_at old c.args.place) (seen_at via c.args.place) c.args.log.now c.args.index (c.read_at.ensures.rest c.args.place (λ is. c.requires.other (sym is)))
    (λ told. seen_each (λ (s : DiskSeen). Since s.stands) f (λ x side m high. g.met.D.Disk.since told x side m high) c.args.disks.now c.args.place c.requires.place)

pub returns-in-None-clause-any_moment : goal.returns-in-None-clause-any_moment
returns-in-None-clause-any_moment g c =
    let f : g.row.D.Denot → DiskSeen = λ disk. seen_as (g.D.Disk.size disk) (g.D.Disk.stands disk) (g.D.Disk.faults disk) in
    let old : List DiskSeen = map f c.args.disks.now in
    let via : List DiskSeen = map f c.read_at.new.disks in
    fronts_none g.D.Disk.tells c.args.source.now c.args.watch.now (seen_at old c.args.from) (seen_at old c.args.place) (seen_at via c.args.place) c.args.log.now c.args.index (c.read_at.ensures.rest c.args.place (λ is. c.requires.other (sym is)))
    (λ told. seen_each (λ (s : DiskSeen). Since s.stands) f (λ x side m high. g.met.D.Disk.since told x side m high) c.args.disks.now c.args.place c.requires.place)

pub returns-then-last-index-clause-any_moment : goal.returns-then-last-index-clause-any_moment
returns-then-last-index-clause-any_moment g c =
    let f : g.row.D.Denot → DiskSeen = λ disk. seen_as (g.D.Disk.size disk) (g.D.Disk.stands disk) (g.D.Disk.faults disk) in
    let old : List DiskSeen = map f c.args.disks.now in
    let via : List DiskSeen = map f c.read_at.new.disks in
    fronts_none g.D.Disk.tells c.args.source.now c.args.watch.now (seen_at old c.args.from) (seen_at old c.args.place) (seen_at via c.args.place) c.args.log.now c.args.index (c.read_at.ensures.rest c.args.place (λ is. c.requires.other (sym is)))
    (λ told. seen_each (λ (s : DiskSeen). Since s.stands) f (λ x side m high. g.met.D.Disk.since told x side m high) c.args.disks.now c.args.place c.requires.place)

pub returns-in-Ok-true-clause-outcome : goal.returns-in-Ok-true-clause-outcome
returns-in-Ok-true-clause-outcome g c =
    let f : g.row.D.Denot → DiskSeen = λ disk. seen_as (g.D.Disk.size disk) (g.D.Disk.stands disk) (g.D.Disk.faults disk) in
    let old : List DiskSeen = map f c.args.disks.now in
    let via : List DiskSeen = map f c.read_at.new.disks in
    let d = c.index-disks-place.result in
    let x = c.put_entry.new.disk in
    let low : c.args.place < length c.read_at.new.disks = omega (arith, c.requires.place, c.read_at.ensures.count) in
    let level : c.args.index ≡ c.args.log.now.rank.number = grind (arith, common_steps) in
    let found : g.D.Disk.tells → (whole : List (ℕ × Entry)) → HasView c.args.source.now (seen_at old c.args.from).stands.seen whole → numbered_entry whole (c.args.index + 1) ≡ Some c.in-Ok-Some.entry
    = λ told whole has. ap (λ n. numbered_entry whole n) (sym c.requires.next) ∙ sym (c.in-Ok-Some.ensures.found told whole has) ∙ c.in-Ok-Some.field-0-is in (
      put_calm f g.D.Disk.tells c.args.source.now c.args.from c.args.place c.args.watch.now c.put_entry.new.watch c.args.index c.args.disks.now c.read_at.new.disks x d c.args.log.now c.put_entry.new.log c.in-Ok-Some.entry c.requires.other low c.read_at.ensures.rest (c.in-Ok-Some.ensures.still.calm c.args.from) (c.in-Ok-true.ensures.calm c.in-Ok-true.field-0-test),
      put_more f g.D.Disk.tells c.args.source.now c.args.from c.args.place c.args.watch.now c.put_entry.new.watch c.args.index c.args.disks.now c.read_at.new.disks x d c.args.log.now c.put_entry.new.log c.in-Ok-Some.entry c.requires.other low c.read_at.ensures.rest found level (c.in-Ok-true.ensures.opens c.in-Ok-true.field-0-test) (λ told last list own. c.in-Ok-true.ensures.list told last list own c.in-Ok-true.field-0-test),
    )

pub returns-in-Ok-true-clause-any_moment : goal.returns-in-Ok-true-clause-any_moment
returns-in-Ok-true-clause-any_moment g c =
    let f : g.row.D.Denot → DiskSeen = λ disk. seen_as (g.D.Disk.size disk) (g.D.Disk.stands disk) (g.D.Disk.faults disk) in
    let old : List DiskSeen = map f c.args.disks.now in
    let via : List DiskSeen = map f c.read_at.new.disks in
    let d = c.index-disks-place.result in
    let x = c.put_entry.new.disk in
    let low : c.args.place < length c.read_at.new.disks = omega (arith, c.requires.place, c.read_at.ensures.count) in
    let level : c.args.index ≡ c.args.log.now.rank.number = grind (arith, common_steps) in
    let found : g.D.Disk.tells → (whole : List (ℕ × Entry)) → HasView c.args.source.now (seen_at old c.args.from).stands.seen whole → numbered_entry whole (c.args.index + 1) ≡ Some c.in-Ok-Some.entry
    = λ told whole has. ap (λ n. numbered_entry whole n) (sym c.requires.next) ∙ sym (c.in-Ok-Some.ensures.found told whole has) ∙ c.in-Ok-Some.field-0-is in
    put_fronts f g.D.Disk.tells c.args.source.now c.args.from c.args.place c.args.watch.now c.put_entry.new.watch c.args.index c.args.disks.now c.read_at.new.disks x d c.args.log.now c.put_entry.new.log c.in-Ok-Some.entry c.requires.other low c.read_at.ensures.rest found level (λ told last list own. c.put_entry.ensures.any_moment told last list own)

pub returns-in-Ok-true-clause-calls : goal.returns-in-Ok-true-clause-calls
returns-in-Ok-true-clause-calls g c =
    let f : g.row.D.Denot → DiskSeen = λ disk. seen_as (g.D.Disk.size disk) (g.D.Disk.stands disk) (g.D.Disk.faults disk) in
    let old : List DiskSeen = map f c.args.disks.now in
    let via : List DiskSeen = map f c.read_at.new.disks in
    let d = c.index-disks-place.result in
    let x = c.put_entry.new.disk in
    let low : c.args.place < length c.read_at.new.disks = omega (arith, c.requires.place, c.read_at.ensures.count) in
    put_calls f g.D.Disk.tells c.args.source.now c.args.from c.args.place c.args.watch.now c.put_entry.new.watch c.args.index c.args.disks.now c.read_at.new.disks x d c.args.log.now c.put_entry.new.log c.in-Ok-Some.entry c.requires.other low c.read_at.ensures.rest (c.in-Ok-Some.ensures.still.still c.args.from) (let e = c.in-Ok-Some.ensures.still.calm c.args.from in omega (arith, e)) (λ told last. c.put_entry.ensures.past told last) c.put_entry.ensures.counted c.put_entry.ensures.ticks

pub returns-in-Ok-false-clause-outcome : goal.returns-in-Ok-false-clause-outcome
returns-in-Ok-false-clause-outcome g c =
    let f : g.row.D.Denot → DiskSeen = λ disk. seen_as (g.D.Disk.size disk) (g.D.Disk.stands disk) (g.D.Disk.faults disk) in
    let old : List DiskSeen = map f c.args.disks.now in
    let via : List DiskSeen = map f c.read_at.new.disks in
    let d = c.index-disks-place.result in
    let x = c.put_entry.new.disk in
    let low : c.args.place < length c.read_at.new.disks = omega (arith, c.requires.place, c.read_at.ensures.count) in
    put_risen f g.D.Disk.tells c.args.source.now c.args.from c.args.place c.args.watch.now c.put_entry.new.watch c.args.index c.args.disks.now c.read_at.new.disks x d c.args.log.now c.put_entry.new.log c.in-Ok-Some.entry c.requires.other low c.read_at.ensures.rest (c.in-Ok-Some.ensures.still.calm c.args.from) (c.in-Ok-false.ensures.risen c.in-Ok-false.field-0-test)

pub returns-in-Ok-false-clause-any_moment : goal.returns-in-Ok-false-clause-any_moment
returns-in-Ok-false-clause-any_moment g c =
    let f : g.row.D.Denot → DiskSeen = λ disk. seen_as (g.D.Disk.size disk) (g.D.Disk.stands disk) (g.D.Disk.faults disk) in
    let old : List DiskSeen = map f c.args.disks.now in
    let via : List DiskSeen = map f c.read_at.new.disks in
    let d = c.index-disks-place.result in
    let x = c.put_entry.new.disk in
    let low : c.args.place < length c.read_at.new.disks = omega (arith, c.requires.place, c.read_at.ensures.count) in
    let level : c.args.index ≡ c.args.log.now.rank.number = grind (arith, common_steps) in
    let found : g.D.Disk.tells → (whole : List (ℕ × Entry)) → HasView c.args.source.now (seen_at old c.args.from).stands.seen whole → numbered_entry whole (c.args.index + 1) ≡ Some c.in-Ok-Some.entry
    = λ told whole has. ap (λ n. numbered_entry whole n) (sym c.requires.next) ∙ sym (c.in-Ok-Some.ensures.found told whole has) ∙ c.in-Ok-Some.field-0-is in
    put_fronts f g.D.Disk.tells c.args.source.now c.args.from c.args.place c.args.watch.now c.put_entry.new.watch c.args.index c.args.disks.now c.read_at.new.disks x d c.args.log.now c.put_entry.new.log c.in-Ok-Some.entry c.requires.other low c.read_at.ensures.rest found level (λ told last list own. c.put_entry.ensures.any_moment told last list own)

pub returns-in-Ok-false-clause-calls : goal.returns-in-Ok-false-clause-calls
returns-in-Ok-false-clause-calls g c =
    let f : g.row.D.Denot → DiskSeen = λ disk. seen_as (g.D.Disk.size disk) (g.D.Disk.stands disk) (g.D.Disk.faults disk) in
    let old : List DiskSeen = map f c.args.disks.now in
    let via : List DiskSeen = map f c.read_at.new.disks in
    let d = c.index-disks-place.result in
    let x = c.put_entry.new.disk in
    let low : c.args.place < length c.read_at.new.disks = omega (arith, c.requires.place, c.read_at.ensures.count) in
    put_calls f g.D.Disk.tells c.args.source.now c.args.from c.args.place c.args.watch.now c.put_entry.new.watch c.args.index c.args.disks.now c.read_at.new.disks x d c.args.log.now c.put_entry.new.log c.in-Ok-Some.entry c.requires.other low c.read_at.ensures.rest (c.in-Ok-Some.ensures.still.still c.args.from) (let e = c.in-Ok-Some.ensures.still.calm c.args.from in omega (arith, e)) (λ told last. c.put_entry.ensures.past told last) c.put_entry.ensures.counted c.put_entry.ensures.ticks

pub returns-clause-any_moment : goal.returns-clause-any_moment
returns-clause-any_moment g c =
    let f : g.row.D.Denot → DiskSeen = λ disk. seen_as (g.D.Disk.size disk) (g.D.Disk.stands disk) (g.D.Disk.faults disk) in
    let old : List DiskSeen = map f c.args.disks.now in
    let via : List DiskSeen = map f c.read_at.new.disks in
    let d = c.index-disks-place.result in
    let x = c.put_entry.new.disk in
    let low : c.args.place < length c.read_at.new.disks = omega (arith, c.requires.place, c.read_at.ensures.count) in
    let level : c.args.index ≡ c.args.log.now.rank.number = grind (arith, common_steps) in
    let found : g.D.Disk.tells → (whole : List (ℕ × Entry)) → HasView c.args.source.now (seen_at old c.args.from).stands.seen whole → numbered_entry whole (c.args.index + 1) ≡ Some c.in-Ok-Some.entry
    = λ told whole has. ap (λ n. numbered_entry whole n) (sym c.requires.next) ∙ sym (c.in-Ok-Some.ensures.found told whole has) ∙ c.in-Ok-Some.field-0-is in
    put_fronts f g.D.Disk.tells c.args.source.now c.args.from c.args.place c.args.watch.now c.put_entry.new.watch c.args.index c.args.disks.now c.read_at.new.disks x d c.args.log.now c.put_entry.new.log c.in-Ok-Some.entry c.requires.other low c.read_at.ensures.rest found level (λ told last list own. c.put_entry.ensures.any_moment told last list own)

pub returns-clause-calls : goal.returns-clause-calls
returns-clause-calls g c =
    let f : g.row.D.Denot → DiskSeen = λ disk. seen_as (g.D.Disk.size disk) (g.D.Disk.stands disk) (g.D.Disk.faults disk) in
    let old : List DiskSeen = map f c.args.disks.now in
    let via : List DiskSeen = map f c.read_at.new.disks in
    let d = c.index-disks-place.result in
    let x = c.put_entry.new.disk in
    let low : c.args.place < length c.read_at.new.disks = omega (arith, c.requires.place, c.read_at.ensures.count) in
    put_calls f g.D.Disk.tells c.args.source.now c.args.from c.args.place c.args.watch.now c.put_entry.new.watch c.args.index c.args.disks.now c.read_at.new.disks x d c.args.log.now c.put_entry.new.log c.in-Ok-Some.entry c.requires.other low c.read_at.ensures.rest (c.in-Ok-Some.ensures.still.still c.args.from) (let e = c.in-Ok-Some.ensures.still.calm c.args.from in omega (arith, e)) (λ told last. c.put_entry.ensures.past told last) c.put_entry.ensures.counted c.put_entry.ensures.ticks
