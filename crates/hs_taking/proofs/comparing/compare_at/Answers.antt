use Rattle.std.proofs.Common.{◌<◌, arith}
use Rattle.hs_taking.proofs.PairLemmas.{pair_moved, pair_rest}
use Rattle.hs_taking.specs.Disks.{DiskSeen, seen_as}
use Rattle.hs_taking.specs.Pairs.{HasCompared}
use Rattle.hs_taking.proofs.comparing.compare_at.Goals as goal

pub returns-then-from-place-clause-compared : goal.returns-then-from-place-clause-compared
returns-then-from-place-clause-compared g c =
    let seen : g.row.D.Denot → DiskSeen = λ disk. seen_as (g.D.Disk.size disk) (g.D.Disk.stands disk) (g.D.Disk.faults disk) in
    let two = c.split_at_mut-low.ensures in
    pair_moved seen c.args.disks.now c.split_at_mut-low.result.0.now c.split_at_mut-low.result.1.now c.args.from c.args.place c.compare_lists.new.source c.compare_lists.new.disk c.index-low-from.result c.index-high-0.result
    two.value two.front_len c.if-from-place.true c.requires.place (λ a a' b b'. HasCompared g.D.Disk.tells a a' b b' c.compare_lists.result) c.compare_lists.ensures

pub returns-then-from-place-clause-rest : goal.returns-then-from-place-clause-rest
returns-then-from-place-clause-rest g c =
    let seen : g.row.D.Denot → DiskSeen = λ disk. seen_as (g.D.Disk.size disk) (g.D.Disk.stands disk) (g.D.Disk.faults disk) in
    let two = c.split_at_mut-low.ensures in
    pair_rest seen c.args.disks.now c.split_at_mut-low.result.0.now c.split_at_mut-low.result.1.now c.args.from c.args.place c.compare_lists.new.source c.compare_lists.new.disk c.index-low-from.result c.index-high-0.result
    two.value two.front_len c.if-from-place.true c.requires.place

pub returns-else-from-place-clause-compared : goal.returns-else-from-place-clause-compared
returns-else-from-place-clause-compared g c =
    let seen : g.row.D.Denot → DiskSeen = λ disk. seen_as (g.D.Disk.size disk) (g.D.Disk.stands disk) (g.D.Disk.faults disk) in
    let two = c.split_at_mut-low-else-from-place.ensures in
    let less : c.args.place < c.args.from = omega (arith, c.if-from-place.false, c.requires.apart) in
    pair_moved seen c.args.disks.now c.split_at_mut-low-else-from-place.result.0.now c.split_at_mut-low-else-from-place.result.1.now c.args.place c.args.from c.compare_lists-else-from-place.new.disk c.compare_lists-else-from-place.new.source c.index-low-place.result c.index-high-0-else-from-place.result
    two.value two.front_len less c.requires.from (λ a a' b b'. HasCompared g.D.Disk.tells b b' a a' c.compare_lists-else-from-place.result) c.compare_lists-else-from-place.ensures

pub returns-else-from-place-clause-rest : goal.returns-else-from-place-clause-rest
returns-else-from-place-clause-rest g c = λ peer not_from not_place.
    let seen : g.row.D.Denot → DiskSeen = λ disk. seen_as (g.D.Disk.size disk) (g.D.Disk.stands disk) (g.D.Disk.faults disk) in
    let two = c.split_at_mut-low-else-from-place.ensures in
    let less : c.args.place < c.args.from = omega (arith, c.if-from-place.false, c.requires.apart) in
    pair_rest seen c.args.disks.now c.split_at_mut-low-else-from-place.result.0.now c.split_at_mut-low-else-from-place.result.1.now c.args.place c.args.from c.compare_lists-else-from-place.new.disk c.compare_lists-else-from-place.new.source c.index-low-place.result c.index-high-0-else-from-place.result
    two.value two.front_len less c.requires.from peer not_place not_from
