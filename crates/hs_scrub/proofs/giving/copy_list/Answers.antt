use Rattle.std.proofs.Common.{arith, List, map, refl, subst}
use Rattle.hs_peerlog.proofs.ImageLemmas.{Since}
use Rattle.hs_peerlog.specs.Views.{HasView}
use Rattle.hs_ports.specs.declared.disk.Side.{Side}
use Rattle.hs_ports.specs.Disk.{IsImage}
use Rattle.hs_scrub.proofs.GivingLemmas.{calls_more, fronts_more, giving_all, giving_more, giving_none, left_more, stopped_more}
use Rattle.hs_scrub.proofs.StillLemmas.{stands_still}
use Rattle.hs_scrub.specs.CopySteps.{HasMore, Outcome}
use Rattle.hs_scrub.specs.declared.giving.Given.{Given}
use Rattle.hs_scrub.specs.declared.giving.Given.TheVariants.{Whole}
use Rattle.hs_taking.proofs.DiskLemmas.{seen_each}
use Rattle.hs_taking.specs.Disks.{DiskSeen, seen_as, seen_at}
use Rattle.hs_scrub.proofs.giving.copy_list.Goals as goal

pub loop-index-init : goal.loop-index-init
loop-index-init g c =
    let f : g.row.D.Denot → DiskSeen = λ disk. seen_as (g.D.Disk.size disk) (g.D.Disk.stands disk) (g.D.Disk.faults disk) in
    let old : List DiskSeen = map f c.args.disks.now in
    record {
      giving = giving_none g.D.Disk.tells c.args.source.now c.args.from c.args.place c.args.watch.now old c.args.log c.requires.opens
          (λ told. seen_each (λ (s : DiskSeen). Since s.stands) f (λ x side m high. g.met.D.Disk.since told x side m high) c.args.disks.now c.args.place c.requires.place);
      count = refl;
    }

pub copy_entry-requires-clause-source : goal.copy_entry-requires-clause-source
copy_entry-requires-clause-source g c =
    let f : g.row.D.Denot → DiskSeen = λ disk. seen_as (g.D.Disk.size disk) (g.D.Disk.stands disk) (g.D.Disk.faults disk) in
    let old : List DiskSeen = map f c.args.disks.now in
    let cur : List DiskSeen = map f c.loop-index.disks in
    let so_far = c.loop-index.invariant.giving in
    stands_still g.D.Disk.tells c.args.source.now.log (seen_at old c.args.from) (seen_at cur c.args.from) so_far.calls.source c.requires.source

pub copy_entry-requires-clause-opens : goal.copy_entry-requires-clause-opens
copy_entry-requires-clause-opens g c =
    c.loop-index.invariant.giving.opens

pub loop-index-preserved : goal.loop-index-preserved
loop-index-preserved g c =
    let f : g.row.D.Denot → DiskSeen = λ disk. seen_as (g.D.Disk.size disk) (g.D.Disk.stands disk) (g.D.Disk.faults disk) in
    let old : List DiskSeen = map f c.args.disks.now in
    let cur : List DiskSeen = map f c.loop-index.disks in
    let so_far = c.loop-index.invariant.giving in
    let new : List DiskSeen = map f c.copy_entry.new.disks in
    let out : Outcome g.D.Disk.tells (HasView c.args.source.now (seen_at cur c.args.from).stands.seen) c.args.from c.args.place cur new (HasMore g.D.Disk.tells c.args.source.now c.loop-index.watch (seen_at cur c.args.from) (seen_at cur c.args.place) (seen_at new c.args.place) c.loop-index.log c.copy_entry.new.log c.loop-index.index) Whole = subst (λ (k : Given). Outcome g.D.Disk.tells (HasView c.args.source.now (seen_at cur c.args.from).stands.seen) c.args.from c.args.place cur new (HasMore g.D.Disk.tells c.args.source.now c.loop-index.watch (seen_at cur c.args.from) (seen_at cur c.args.place) (seen_at new c.args.place) c.loop-index.log c.copy_entry.new.log c.loop-index.index) k) c.in-Whole.is c.in-Ok.ensures.outcome in
    record {
      giving = giving_more g.D.Disk.tells c.args.source.now c.args.from c.args.place c.args.watch.now c.loop-index.watch c.copy_entry.new.watch c.loop-index.index old cur new c.args.log c.loop-index.log c.copy_entry.new.log so_far c.copy_entry.ensures.calls c.copy_entry.ensures.any_moment out.0 out.1;
      count = omega (arith, c.copy_entry.ensures.count, c.loop-index.invariant.count);
    }

pub returns-in-Err-clause-any_moment : goal.returns-in-Err-clause-any_moment
returns-in-Err-clause-any_moment g c =
    let f : g.row.D.Denot → DiskSeen = λ disk. seen_as (g.D.Disk.size disk) (g.D.Disk.stands disk) (g.D.Disk.faults disk) in
    let old : List DiskSeen = map f c.args.disks.now in
    let cur : List DiskSeen = map f c.loop-index.disks in
    let so_far = c.loop-index.invariant.giving in
    let new : List DiskSeen = map f c.copy_entry.new.disks in
    fronts_more g.D.Disk.tells c.args.source.now c.args.from c.args.place c.args.watch.now c.loop-index.watch c.copy_entry.new.watch c.loop-index.index old cur new c.args.log c.loop-index.log c.copy_entry.new.log so_far c.copy_entry.ensures.calls c.copy_entry.ensures.any_moment

pub returns-in-Err-clause-calls : goal.returns-in-Err-clause-calls
returns-in-Err-clause-calls g c =
    let f : g.row.D.Denot → DiskSeen = λ disk. seen_as (g.D.Disk.size disk) (g.D.Disk.stands disk) (g.D.Disk.faults disk) in
    let old : List DiskSeen = map f c.args.disks.now in
    let cur : List DiskSeen = map f c.loop-index.disks in
    let so_far = c.loop-index.invariant.giving in
    let new : List DiskSeen = map f c.copy_entry.new.disks in
    calls_more g.D.Disk.tells c.args.source.now c.args.from c.args.place c.args.watch.now c.loop-index.watch c.copy_entry.new.watch c.loop-index.index old cur new c.args.log c.loop-index.log c.copy_entry.new.log so_far c.copy_entry.ensures.calls c.copy_entry.ensures.any_moment

pub returns-in-Left-clause-any_moment : goal.returns-in-Left-clause-any_moment
returns-in-Left-clause-any_moment g c =
    let f : g.row.D.Denot → DiskSeen = λ disk. seen_as (g.D.Disk.size disk) (g.D.Disk.stands disk) (g.D.Disk.faults disk) in
    let old : List DiskSeen = map f c.args.disks.now in
    let cur : List DiskSeen = map f c.loop-index.disks in
    let so_far = c.loop-index.invariant.giving in
    let new : List DiskSeen = map f c.copy_entry.new.disks in
    fronts_more g.D.Disk.tells c.args.source.now c.args.from c.args.place c.args.watch.now c.loop-index.watch c.copy_entry.new.watch c.loop-index.index old cur new c.args.log c.loop-index.log c.copy_entry.new.log so_far c.copy_entry.ensures.calls c.copy_entry.ensures.any_moment

pub returns-in-Left-clause-calls : goal.returns-in-Left-clause-calls
returns-in-Left-clause-calls g c =
    let f : g.row.D.Denot → DiskSeen = λ disk. seen_as (g.D.Disk.size disk) (g.D.Disk.stands disk) (g.D.Disk.faults disk) in
    let old : List DiskSeen = map f c.args.disks.now in
    let cur : List DiskSeen = map f c.loop-index.disks in
    let so_far = c.loop-index.invariant.giving in
    let new : List DiskSeen = map f c.copy_entry.new.disks in
    calls_more g.D.Disk.tells c.args.source.now c.args.from c.args.place c.args.watch.now c.loop-index.watch c.copy_entry.new.watch c.loop-index.index old cur new c.args.log c.loop-index.log c.copy_entry.new.log so_far c.copy_entry.ensures.calls c.copy_entry.ensures.any_moment

pub returns-in-Ended-clause-any_moment : goal.returns-in-Ended-clause-any_moment
returns-in-Ended-clause-any_moment g c =
    let f : g.row.D.Denot → DiskSeen = λ disk. seen_as (g.D.Disk.size disk) (g.D.Disk.stands disk) (g.D.Disk.faults disk) in
    let old : List DiskSeen = map f c.args.disks.now in
    let cur : List DiskSeen = map f c.loop-index.disks in
    let so_far = c.loop-index.invariant.giving in
    let new : List DiskSeen = map f c.copy_entry.new.disks in
    fronts_more g.D.Disk.tells c.args.source.now c.args.from c.args.place c.args.watch.now c.loop-index.watch c.copy_entry.new.watch c.loop-index.index old cur new c.args.log c.loop-index.log c.copy_entry.new.log so_far c.copy_entry.ensures.calls c.copy_entry.ensures.any_moment

pub returns-in-Ended-clause-calls : goal.returns-in-Ended-clause-calls
returns-in-Ended-clause-calls g c =
    let f : g.row.D.Denot → DiskSeen = λ disk. seen_as (g.D.Disk.size disk) (g.D.Disk.stands disk) (g.D.Disk.faults disk) in
    let old : List DiskSeen = map f c.args.disks.now in
    let cur : List DiskSeen = map f c.loop-index.disks in
    let so_far = c.loop-index.invariant.giving in
    let new : List DiskSeen = map f c.copy_entry.new.disks in
    calls_more g.D.Disk.tells c.args.source.now c.args.from c.args.place c.args.watch.now c.loop-index.watch c.copy_entry.new.watch c.loop-index.index old cur new c.args.log c.loop-index.log c.copy_entry.new.log so_far c.copy_entry.ensures.calls c.copy_entry.ensures.any_moment

pub returns-in-Left-clause-outcome : goal.returns-in-Left-clause-outcome
returns-in-Left-clause-outcome g c =
    let f : g.row.D.Denot → DiskSeen = λ disk. seen_as (g.D.Disk.size disk) (g.D.Disk.stands disk) (g.D.Disk.faults disk) in
    let old : List DiskSeen = map f c.args.disks.now in
    let cur : List DiskSeen = map f c.loop-index.disks in
    let so_far = c.loop-index.invariant.giving in
    let new : List DiskSeen = map f c.copy_entry.new.disks in
    left_more g.D.Disk.tells c.args.source.now c.args.from c.args.place c.args.watch.now c.loop-index.watch c.copy_entry.new.watch c.loop-index.index old cur new c.args.log c.loop-index.log c.copy_entry.new.log so_far c.copy_entry.ensures.calls c.copy_entry.ensures.any_moment (subst (λ (k : Given). Outcome g.D.Disk.tells (HasView c.args.source.now (seen_at cur c.args.from).stands.seen) c.args.from c.args.place cur new (HasMore g.D.Disk.tells c.args.source.now c.loop-index.watch (seen_at cur c.args.from) (seen_at cur c.args.place) (seen_at new c.args.place) c.loop-index.log c.copy_entry.new.log c.loop-index.index) k) c.in-Left.is c.in-Ok.ensures.outcome)

pub returns-in-Ended-clause-outcome : goal.returns-in-Ended-clause-outcome
returns-in-Ended-clause-outcome g c =
    let f : g.row.D.Denot → DiskSeen = λ disk. seen_as (g.D.Disk.size disk) (g.D.Disk.stands disk) (g.D.Disk.faults disk) in
    let old : List DiskSeen = map f c.args.disks.now in
    let cur : List DiskSeen = map f c.loop-index.disks in
    let so_far = c.loop-index.invariant.giving in
    let new : List DiskSeen = map f c.copy_entry.new.disks in
    stopped_more g.D.Disk.tells c.args.source.now c.args.from c.args.place c.args.watch.now c.loop-index.watch c.copy_entry.new.watch c.loop-index.index old cur new c.args.log c.loop-index.log c.copy_entry.new.log so_far c.copy_entry.ensures.calls c.copy_entry.ensures.any_moment c.in-Ended.mark (subst (λ (k : Given). Outcome g.D.Disk.tells (HasView c.args.source.now (seen_at cur c.args.from).stands.seen) c.args.from c.args.place cur new (HasMore g.D.Disk.tells c.args.source.now c.loop-index.watch (seen_at cur c.args.from) (seen_at cur c.args.place) (seen_at new c.args.place) c.loop-index.log c.copy_entry.new.log c.loop-index.index) k) c.in-Ended.is c.in-Ok.ensures.outcome)

pub returns-clause-outcome : goal.returns-clause-outcome
returns-clause-outcome g c =
    let f : g.row.D.Denot → DiskSeen = λ disk. seen_as (g.D.Disk.size disk) (g.D.Disk.stands disk) (g.D.Disk.faults disk) in
    let old : List DiskSeen = map f c.args.disks.now in
    let cur : List DiskSeen = map f c.loop-index.disks in
    let so_far = c.loop-index.invariant.giving in (
      so_far.calm,
      giving_all g.D.Disk.tells c.args.source.now c.args.from c.args.place c.args.watch.now c.loop-index.watch c.loop-index.index old cur c.args.log c.loop-index.log (omega (arith, c.loop-index-test.false, c.last-index-end.ensures))
          (λ told. seen_each (λ (s : DiskSeen). (side : Side) → IsImage (s.stands.loose side) (s.stands.seen side)) f (λ x side. g.met.D.Disk.stays told x side) c.loop-index.disks c.args.place (omega (arith, c.requires.place, c.loop-index.invariant.count))) so_far,
    )

pub returns-clause-any_moment : goal.returns-clause-any_moment
returns-clause-any_moment g c =
    let f : g.row.D.Denot → DiskSeen = λ disk. seen_as (g.D.Disk.size disk) (g.D.Disk.stands disk) (g.D.Disk.faults disk) in
    let old : List DiskSeen = map f c.args.disks.now in
    let cur : List DiskSeen = map f c.loop-index.disks in
    let so_far = c.loop-index.invariant.giving in
    so_far.fronts

pub returns-clause-calls : goal.returns-clause-calls
returns-clause-calls g c =
    let f : g.row.D.Denot → DiskSeen = λ disk. seen_as (g.D.Disk.size disk) (g.D.Disk.stands disk) (g.D.Disk.faults disk) in
    let old : List DiskSeen = map f c.args.disks.now in
    let cur : List DiskSeen = map f c.loop-index.disks in
    let so_far = c.loop-index.invariant.giving in
    so_far.calls
