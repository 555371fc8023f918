use Rattle.std.proofs.Common.{◌≡◌, ◌∙◌, ◌+◌, ◌<◌, ap, arith, ℕ, List, map, refl, sym}
use Rattle.hs_entry.specs.declared.entry.Entry.{Entry}
use Rattle.hs_peerlog.specs.Lists.{last_of, numbered_entry}
use Rattle.hs_peerlog.specs.Views.{HasView}
use Rattle.hs_scrub.proofs.MarkLemmas.{agree_more, agree_none, behind_marked, differs_marked, same_marked}
use Rattle.hs_scrub.proofs.StillLemmas.{calm_none, calm_then, has_still, lost_then, stands_still}
use Rattle.hs_scrub.specs.Steps.{AreStill}
use Rattle.hs_taking.specs.Disks.{DiskSeen, seen_as, seen_at}
use Rattle.hs_scrub.proofs.compare.compare.Goals as goal

pub entries-init : goal.entries-init
entries-init g c =
    let f : g.row.D.Denot → DiskSeen = λ disk. seen_as (g.D.Disk.size disk) (g.D.Disk.stands disk) (g.D.Disk.faults disk) in
    let old : List DiskSeen = map f c.args.disks.now in
    record {
      still = calm_none g.D.Disk.tells old;
      count = refl;
      agree = λ told whole list has own. agree_none whole list own.numbered has.numbered;
    }

pub read_at-requires-clause-stands : goal.read_at-requires-clause-stands
read_at-requires-clause-stands g c =
    let f : g.row.D.Denot → DiskSeen = λ disk. seen_as (g.D.Disk.size disk) (g.D.Disk.stands disk) (g.D.Disk.faults disk) in
    let old : List DiskSeen = map f c.args.disks.now in
    let now : List DiskSeen = map f c.entries.disks in
    let inv = c.entries.invariant in
    stands_still g.D.Disk.tells c.args.own.now.log (seen_at old c.args.place) (seen_at now c.args.place) (inv.still.still c.args.place) c.requires.own

pub returns-in-Err-clause-lost : goal.returns-in-Err-clause-lost
returns-in-Err-clause-lost g c =
    let f : g.row.D.Denot → DiskSeen = λ disk. seen_as (g.D.Disk.size disk) (g.D.Disk.stands disk) (g.D.Disk.faults disk) in
    let old : List DiskSeen = map f c.args.disks.now in
    let now : List DiskSeen = map f c.entries.disks in
    let inv = c.entries.invariant in
    lost_then g.D.Disk.tells old now (map f c.read_at.new.disks) c.args.place c.in-Err.fault inv.still c.in-Err.ensures.lost

pub returns-in-Err-clause-outside_own : goal.returns-in-Err-clause-outside_own
returns-in-Err-clause-outside_own g c =
    let f : g.row.D.Denot → DiskSeen = λ disk. seen_as (g.D.Disk.size disk) (g.D.Disk.stands disk) (g.D.Disk.faults disk) in
    let old : List DiskSeen = map f c.args.disks.now in
    let now : List DiskSeen = map f c.entries.disks in
    let inv = c.entries.invariant in
    λ told list has same. c.in-Err.ensures.outside told list (has_still g.D.Disk.tells (seen_at old c.args.place) (seen_at now c.args.place) c.args.own.now list (inv.still.still c.args.place) told has)

pub returns-in-Err-clause-outside_taken : goal.returns-in-Err-clause-outside_taken
returns-in-Err-clause-outside_taken g c =
    λ told list has same. absurd (c.requires.other (sym same))

pub read_at-requires-in-entries-clause-stands : goal.read_at-requires-in-entries-clause-stands
read_at-requires-in-entries-clause-stands g c =
    let f : g.row.D.Denot → DiskSeen = λ disk. seen_as (g.D.Disk.size disk) (g.D.Disk.stands disk) (g.D.Disk.faults disk) in
    let old : List DiskSeen = map f c.args.disks.now in
    let now : List DiskSeen = map f c.entries.disks in
    let inv = c.entries.invariant in
    let via : List DiskSeen = map f c.read_at.new.disks in
    let so_far : AreStill g.D.Disk.tells old via = calm_then g.D.Disk.tells old now via inv.still c.in-Ok.ensures.still in
    stands_still g.D.Disk.tells c.args.taken.now.log (seen_at old c.args.from) (seen_at via c.args.from) (so_far.still c.args.from) c.requires.taken

pub returns-in-Err-read_at-clause-lost : goal.returns-in-Err-read_at-clause-lost
returns-in-Err-read_at-clause-lost g c =
    let f : g.row.D.Denot → DiskSeen = λ disk. seen_as (g.D.Disk.size disk) (g.D.Disk.stands disk) (g.D.Disk.faults disk) in
    let old : List DiskSeen = map f c.args.disks.now in
    let now : List DiskSeen = map f c.entries.disks in
    let inv = c.entries.invariant in
    let via : List DiskSeen = map f c.read_at.new.disks in
    let so_far : AreStill g.D.Disk.tells old via = calm_then g.D.Disk.tells old now via inv.still c.in-Ok.ensures.still in
    lost_then g.D.Disk.tells old via (map f c.read_at-in-entries.new.disks) c.args.from c.in-Err-read_at.fault so_far c.in-Err-read_at.ensures.lost

pub returns-in-Err-read_at-clause-outside_taken : goal.returns-in-Err-read_at-clause-outside_taken
returns-in-Err-read_at-clause-outside_taken g c =
    let f : g.row.D.Denot → DiskSeen = λ disk. seen_as (g.D.Disk.size disk) (g.D.Disk.stands disk) (g.D.Disk.faults disk) in
    let old : List DiskSeen = map f c.args.disks.now in
    let now : List DiskSeen = map f c.entries.disks in
    let inv = c.entries.invariant in
    let via : List DiskSeen = map f c.read_at.new.disks in
    let so_far : AreStill g.D.Disk.tells old via = calm_then g.D.Disk.tells old now via inv.still c.in-Ok.ensures.still in
    λ told list has same. c.in-Err-read_at.ensures.outside told list (has_still g.D.Disk.tells (seen_at old c.args.from) (seen_at via c.args.from) c.args.taken.now list (so_far.still c.args.from) told has)

pub returns-in-Err-read_at-clause-outside_own : goal.returns-in-Err-read_at-clause-outside_own
returns-in-Err-read_at-clause-outside_own g c =
    λ told list has same. absurd (c.requires.other same)

pub returns-then-not-are_same-clause-marked : goal.returns-then-not-are_same-clause-marked
returns-then-not-are_same-clause-marked g c =
    let f : g.row.D.Denot → DiskSeen = λ disk. seen_as (g.D.Disk.size disk) (g.D.Disk.stands disk) (g.D.Disk.faults disk) in
    let old : List DiskSeen = map f c.args.disks.now in
    let now : List DiskSeen = map f c.entries.disks in
    let inv = c.entries.invariant in
    let via : List DiskSeen = map f c.read_at.new.disks in
    let so_far : AreStill g.D.Disk.tells old via = calm_then g.D.Disk.tells old now via inv.still c.in-Ok.ensures.still in
    let own_is : (told : g.D.Disk.tells) (list : List (ℕ × Entry)) → HasView c.args.own.now (seen_at old c.args.place).stands.seen list → c.in-Ok.one ≡ numbered_entry list (c.entries.index + 1)
    = λ told list own. c.in-Ok.ensures.found told list (has_still g.D.Disk.tells (seen_at old c.args.place) (seen_at now c.args.place) c.args.own.now list (inv.still.still c.args.place) told own) in
    let taken_is : (told : g.D.Disk.tells) (whole : List (ℕ × Entry)) → HasView c.args.taken.now (seen_at old c.args.from).stands.seen whole → c.in-Ok-read_at.other ≡ numbered_entry whole (c.entries.index + 1)
    = λ told whole has. c.in-Ok-read_at.ensures.found told whole (has_still g.D.Disk.tells (seen_at old c.args.from) (seen_at via c.args.from) c.args.taken.now whole (so_far.still c.args.from) told has) in
    λ told whole list has own.
    let last = ap (λ r. r.number) own.rank in
    let low : c.entries.index < last_of list = omega (arith, c.entries-test.true, c.last-index-end.ensures, last) in
    differs_marked whole list c.entries.index own.numbered (inv.agree told whole list has own) low
    (λ same. grind (arith, c.are_same.ensures, c.if-not-are_same.true, (own_is told list own ∙ same ∙ sym (taken_is told whole has))))

pub returns-then-not-are_same-clause-still : goal.returns-then-not-are_same-clause-still
returns-then-not-are_same-clause-still g c =
    let f : g.row.D.Denot → DiskSeen = λ disk. seen_as (g.D.Disk.size disk) (g.D.Disk.stands disk) (g.D.Disk.faults disk) in
    let old : List DiskSeen = map f c.args.disks.now in
    let now : List DiskSeen = map f c.entries.disks in
    let inv = c.entries.invariant in
    let via : List DiskSeen = map f c.read_at.new.disks in
    let so_far : AreStill g.D.Disk.tells old via = calm_then g.D.Disk.tells old now via inv.still c.in-Ok.ensures.still in
    let late : List DiskSeen = map f c.read_at-in-entries.new.disks in
    let whole_so : AreStill g.D.Disk.tells old late = calm_then g.D.Disk.tells old via late so_far c.in-Ok-read_at.ensures.still in
    whole_so

pub entries-preserved : goal.entries-preserved
entries-preserved g c =
    let f : g.row.D.Denot → DiskSeen = λ disk. seen_as (g.D.Disk.size disk) (g.D.Disk.stands disk) (g.D.Disk.faults disk) in
    let old : List DiskSeen = map f c.args.disks.now in
    let now : List DiskSeen = map f c.entries.disks in
    let inv = c.entries.invariant in
    let via : List DiskSeen = map f c.read_at.new.disks in
    let so_far : AreStill g.D.Disk.tells old via = calm_then g.D.Disk.tells old now via inv.still c.in-Ok.ensures.still in
    let late : List DiskSeen = map f c.read_at-in-entries.new.disks in
    let whole_so : AreStill g.D.Disk.tells old late = calm_then g.D.Disk.tells old via late so_far c.in-Ok-read_at.ensures.still in
    let own_is : (told : g.D.Disk.tells) (list : List (ℕ × Entry)) → HasView c.args.own.now (seen_at old c.args.place).stands.seen list → c.in-Ok.one ≡ numbered_entry list (c.entries.index + 1)
    = λ told list own. c.in-Ok.ensures.found told list (has_still g.D.Disk.tells (seen_at old c.args.place) (seen_at now c.args.place) c.args.own.now list (inv.still.still c.args.place) told own) in
    let taken_is : (told : g.D.Disk.tells) (whole : List (ℕ × Entry)) → HasView c.args.taken.now (seen_at old c.args.from).stands.seen whole → c.in-Ok-read_at.other ≡ numbered_entry whole (c.entries.index + 1)
    = λ told whole has. c.in-Ok-read_at.ensures.found told whole (has_still g.D.Disk.tells (seen_at old c.args.from) (seen_at via c.args.from) c.args.taken.now whole (so_far.still c.args.from) told has) in
    record {
      still = whole_so;
      count = omega (arith, c.read_at-in-entries.ensures.count, c.read_at.ensures.count, inv.count);
      agree = λ told whole list has own.
          agree_more whole list c.entries.index (inv.agree told whole list has own)
          (sym (own_is told list own) ∙ grind (arith, c.are_same.ensures, c.if-not-are_same.false) ∙ taken_is told whole has);
    }

pub returns-then-last-clause-marked : goal.returns-then-last-clause-marked
returns-then-last-clause-marked g c =
    let f : g.row.D.Denot → DiskSeen = λ disk. seen_as (g.D.Disk.size disk) (g.D.Disk.stands disk) (g.D.Disk.faults disk) in
    let old : List DiskSeen = map f c.args.disks.now in
    let now : List DiskSeen = map f c.entries.disks in
    let inv = c.entries.invariant in
    λ told whole list has own.
    let a = ap (λ r. r.number) own.rank in
    let b = ap (λ r. r.number) has.rank in
    behind_marked whole list c.entries.index c.last-then-last.result own.numbered has.numbered (inv.agree told whole list has own) (omega (arith, c.entries-test.false, c.last-index-end.ensures, a)) (c.last-then-last.ensures ∙ a)
    (omega (arith, c.if-last.true, c.last.ensures, c.last-2.ensures, a, b))

pub returns-then-last-clause-still : goal.returns-then-last-clause-still
returns-then-last-clause-still g c =
    c.entries.invariant.still

pub returns-clause-marked : goal.returns-clause-marked
returns-clause-marked g c =
    let f : g.row.D.Denot → DiskSeen = λ disk. seen_as (g.D.Disk.size disk) (g.D.Disk.stands disk) (g.D.Disk.faults disk) in
    let old : List DiskSeen = map f c.args.disks.now in
    let now : List DiskSeen = map f c.entries.disks in
    let inv = c.entries.invariant in
    λ told whole list has own.
    let a = ap (λ r. r.number) own.rank in
    let b = ap (λ r. r.number) has.rank in
    same_marked whole list c.entries.index own.numbered has.numbered (inv.agree told whole list has own) (omega (arith, c.entries-test.false, c.last-index-end.ensures, a))
    (omega (arith, c.if-last.false, c.last.ensures, c.last-2.ensures, a, b))

pub returns-clause-still : goal.returns-clause-still
returns-clause-still g c =
    c.entries.invariant.still
