use Rattle.std.proofs.Common.{subst}
use Rattle.std.specs.Prelude.{slice_index_or}
use Rattle.hs_peerlog.specs.Views.{HasView}
use Rattle.hs_scrub.proofs.StillLemmas.{read_err, read_ok}
use Rattle.hs_scrub.specs.Steps.{IsStill}
use Rattle.hs_taking.proofs.DiskLemmas.{seen_is, seen_there}
use Rattle.hs_taking.specs.Disks.{DiskSeen, seen_as}
use Rattle.hs_scrub.proofs.compare.read_at.Goals as goal

pub returns-clause-still : goal.returns-clause-still
returns-clause-still g c =
    let f : g.row.D.Denot → DiskSeen = λ disk. seen_as (g.D.Disk.size disk) (g.D.Disk.stands disk) (g.D.Disk.faults disk) in
    let d = c.index-disks-place.result in
    let x = c.entry.new.disk in
    let one : IsStill g.D.Disk.tells (f (slice_index_or c.args.disks.now c.args.place d)) (f x) = record { size = λ side. c.entry.ensures.same_size side; stands = λ told. c.entry.ensures.same told } in
    read_ok f g.D.Disk.tells c.args.disks.now c.args.place x d c.requires.within one c.entry.result c.entry.ensures.calm

pub returns-clause-lost : goal.returns-clause-lost
returns-clause-lost g c =
    let f : g.row.D.Denot → DiskSeen = λ disk. seen_as (g.D.Disk.size disk) (g.D.Disk.stands disk) (g.D.Disk.faults disk) in
    let d = c.index-disks-place.result in
    let x = c.entry.new.disk in
    let one : IsStill g.D.Disk.tells (f (slice_index_or c.args.disks.now c.args.place d)) (f x) = record { size = λ side. c.entry.ensures.same_size side; stands = λ told. c.entry.ensures.same told } in
    read_err f g.D.Disk.tells c.args.disks.now c.args.place x d c.requires.within one c.entry.result c.entry.ensures.calm c.entry.ensures.cause

pub returns-clause-outside : goal.returns-clause-outside
returns-clause-outside g c =
    let f : g.row.D.Denot → DiskSeen = λ disk. seen_as (g.D.Disk.size disk) (g.D.Disk.stands disk) (g.D.Disk.faults disk) in
    let d = c.index-disks-place.result in
    let x = c.entry.new.disk in
    let one : IsStill g.D.Disk.tells (f (slice_index_or c.args.disks.now c.args.place d)) (f x) = record { size = λ side. c.entry.ensures.same_size side; stands = λ told. c.entry.ensures.same told } in
    λ told list has. c.entry.ensures.refused told list (subst (λ (s : DiskSeen). HasView c.args.view.now s.stands.seen list) (seen_is f c.args.disks.now c.args.place d c.requires.within) has)

pub returns-clause-rest : goal.returns-clause-rest
returns-clause-rest g c =
    let f : g.row.D.Denot → DiskSeen = λ disk. seen_as (g.D.Disk.size disk) (g.D.Disk.stands disk) (g.D.Disk.faults disk) in
    λ peer differs. seen_there f c.args.disks.now c.args.place peer c.entry.new.disk differs
