use Rattle.std.proofs.Common.{map, sym, subst}
use Rattle.hs_taking.proofs.LevelLemmas.{made_moves}
use Rattle.hs_taking.specs.declared.slot.Source.{Source}
use Rattle.hs_taking.specs.Disks.{DiskSeen, seen_as, seen_at}
use Rattle.hs_taking.specs.Slots.{IsGood, IsSourceOf}
use Rattle.hs_taking.proofs.HeadLemmas.{its_none, owns_none, owns_some}
use Rattle.hs_side.specs.Headers.{own_header}
use Rattle.hs_taking.proofs.DiskLemmas.{seen_since}
use Rattle.hs_taking.proofs.leveling.level_copy.Goals as goal

pub returns-in-Ok-clause-moved : goal.returns-in-Ok-clause-moved
returns-in-Ok-clause-moved g c =
    let f : g.row.D.Denot → DiskSeen = λ disk. seen_as (g.D.Disk.size disk) (g.D.Disk.stands disk) (g.D.Disk.faults disk) in
    made_moves g.D.Disk.tells c.args.watch.now c.even_at-made.new.watch (seen_at (map f c.args.disks.now) c.args.from) (seen_at (map f c.even_at-made.new.disks) c.args.from) (seen_at (map f c.args.disks.now) c.args.place) (seen_at (map f c.even_at-made.new.disks) c.args.place) c.in-Kept.log c.even_at-made.result c.args.source.now c.even_at-made.ensures.made c.in-Kept.is

pub returns-in-Err-Taken-clause-moved : goal.returns-in-Err-Taken-clause-moved
returns-in-Err-Taken-clause-moved g c =
    let f : g.row.D.Denot → DiskSeen = λ disk. seen_as (g.D.Disk.size disk) (g.D.Disk.stands disk) (g.D.Disk.faults disk) in
    made_moves g.D.Disk.tells c.args.watch.now c.even_at-made.new.watch (seen_at (map f c.args.disks.now) c.args.from) (seen_at (map f c.even_at-made.new.disks) c.args.from) (seen_at (map f c.args.disks.now) c.args.place) (seen_at (map f c.even_at-made.new.disks) c.args.place) c.in-Kept.log c.even_at-made.result c.args.source.now c.even_at-made.ensures.made c.in-Kept.is

pub returns-in-Err-Other-clause-moved : goal.returns-in-Err-Other-clause-moved
returns-in-Err-Other-clause-moved g c =
    let f : g.row.D.Denot → DiskSeen = λ disk. seen_as (g.D.Disk.size disk) (g.D.Disk.stands disk) (g.D.Disk.faults disk) in
    made_moves g.D.Disk.tells c.args.watch.now c.even_at-made.new.watch (seen_at (map f c.args.disks.now) c.args.from) (seen_at (map f c.even_at-made.new.disks) c.args.from) (seen_at (map f c.args.disks.now) c.args.place) (seen_at (map f c.even_at-made.new.disks) c.args.place) c.in-Kept.log c.even_at-made.result c.args.source.now c.even_at-made.ensures.made c.in-Kept.is

pub returns-in-Err-NoMemory-clause-moved : goal.returns-in-Err-NoMemory-clause-moved
returns-in-Err-NoMemory-clause-moved g c =
    let f : g.row.D.Denot → DiskSeen = λ disk. seen_as (g.D.Disk.size disk) (g.D.Disk.stands disk) (g.D.Disk.faults disk) in
    made_moves g.D.Disk.tells c.args.watch.now c.even_at-made.new.watch (seen_at (map f c.args.disks.now) c.args.from) (seen_at (map f c.even_at-made.new.disks) c.args.from) (seen_at (map f c.args.disks.now) c.args.place) (seen_at (map f c.even_at-made.new.disks) c.args.place) c.in-Kept.log c.even_at-made.result c.args.source.now c.even_at-made.ensures.made c.in-Kept.is

pub returns-in-Ok-clause-kept : goal.returns-in-Ok-clause-kept
returns-in-Ok-clause-kept g c =
    let f : g.row.D.Denot → DiskSeen = λ disk. seen_as (g.D.Disk.size disk) (g.D.Disk.stands disk) (g.D.Disk.faults disk) in
    let made = c.in-Ok.ensures.made in
    subst (λ (s : Source). IsGood g.D.Disk.tells c.args.watch.now (seen_at (map f c.args.disks.now) c.args.place) (seen_at (map f c.even_at-made.new.disks) c.args.place) (IsSourceOf s (seen_at (map f c.args.disks.now) c.args.from)) c.in-Ok.copy) (sym c.in-Kept.is)
    (record { ready = made.ready; calm = made.calm.1; has = made.has })

pub returns-in-Lost-clause-headed : goal.returns-in-Lost-clause-headed
returns-in-Lost-clause-headed g c =
    let f : g.row.D.Denot → DiskSeen = λ disk. seen_as (g.D.Disk.size disk) (g.D.Disk.stands disk) (g.D.Disk.faults disk) in
    its_none g.D.Disk.tells (own_header c.args.shape c.args.peer) c.args.watch.now (seen_at (map f c.args.disks.now) c.args.place) (λ told. seen_since f (λ disk side m high. g.met.D.Disk.since told disk side m high) c.args.disks.now c.args.place)

pub returns-in-Lost-clause-own : goal.returns-in-Lost-clause-own
returns-in-Lost-clause-own g c = λ told. owns_none (own_header c.args.shape c.args.peer)

pub returns-in-Ok-clause-own : goal.returns-in-Ok-clause-own
returns-in-Ok-clause-own g c = λ told. owns_some (own_header c.args.shape c.args.peer) c.in-Ok.copy (c.in-Ok.ensures.own told)

pub returns-in-Err-Taken-clause-own : goal.returns-in-Err-Taken-clause-own
returns-in-Err-Taken-clause-own g c = λ told. owns_none (own_header c.args.shape c.args.peer)

pub returns-in-Err-Other-clause-own : goal.returns-in-Err-Other-clause-own
returns-in-Err-Other-clause-own g c = λ told. owns_none (own_header c.args.shape c.args.peer)
