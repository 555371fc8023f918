use Rattle.std.proofs.Common.{◌≡◌, ◌<◌, subst, None, arith}
use Rattle.hs_taking.proofs.PairLemmas.{old_i, old_j, pair_moved, pair_rest}
use Rattle.hs_peerlog.specs.Lists.{IsReady}
use Rattle.hs_peerlog.specs.Opening.{refusal_in}
use Rattle.hs_peerlog.specs.Views.{IsAsViewed}
use Rattle.hs_taking.specs.Disks.{DiskSeen, seen_as}
use Rattle.hs_taking.specs.Pairs.{HasMadeEqual}
use Rattle.hs_side.specs.Headers.{own_header}
use Rattle.hs_taking.specs.Headed.{KeepsItsHeader}
use Rattle.hs_taking.proofs.evening.even_at.Goals as goal

pub returns-then-from-place-clause-made : goal.returns-then-from-place-clause-made
returns-then-from-place-clause-made g c =
    let seen : g.row.D.Denot → DiskSeen = λ disk. seen_as (g.D.Disk.size disk) (g.D.Disk.stands disk) (g.D.Disk.faults disk) in
    let two = c.split_at_mut-low.ensures in
    pair_moved seen c.args.disks.now c.split_at_mut-low.result.0.now c.split_at_mut-low.result.1.now c.args.from c.args.place c.even_out.new.source c.even_out.new.disk c.index-low-from.result c.index-high-0.result
    two.value two.front_len c.if-from-place.true c.requires.place (λ a a' b b'. HasMadeEqual g.D.Disk.tells c.args.watch.now c.even_out.new.watch a a' b b' c.args.taken.now c.even_out.result) c.even_out.ensures.made

pub returns-then-from-place-clause-rest : goal.returns-then-from-place-clause-rest
returns-then-from-place-clause-rest g c =
    let seen : g.row.D.Denot → DiskSeen = λ disk. seen_as (g.D.Disk.size disk) (g.D.Disk.stands disk) (g.D.Disk.faults disk) in
    let two = c.split_at_mut-low.ensures in
    pair_rest seen c.args.disks.now c.split_at_mut-low.result.0.now c.split_at_mut-low.result.1.now c.args.from c.args.place c.even_out.new.source c.even_out.new.disk c.index-low-from.result c.index-high-0.result
    two.value two.front_len c.if-from-place.true c.requires.place

pub returns-else-from-place-clause-made : goal.returns-else-from-place-clause-made
returns-else-from-place-clause-made g c =
    let seen : g.row.D.Denot → DiskSeen = λ disk. seen_as (g.D.Disk.size disk) (g.D.Disk.stands disk) (g.D.Disk.faults disk) in
    let two = c.split_at_mut-low-else-from-place.ensures in
    let less : c.args.place < c.args.from = omega (arith, c.if-from-place.false, c.requires.apart) in
    pair_moved seen c.args.disks.now c.split_at_mut-low-else-from-place.result.0.now c.split_at_mut-low-else-from-place.result.1.now c.args.place c.args.from c.even_out-else-from-place.new.disk c.even_out-else-from-place.new.source c.index-low-place.result c.index-high-0-else-from-place.result
    two.value two.front_len less c.requires.from (λ a a' b b'. HasMadeEqual g.D.Disk.tells c.args.watch.now c.even_out-else-from-place.new.watch b b' a a' c.args.taken.now c.even_out-else-from-place.result) c.even_out-else-from-place.ensures.made

pub returns-else-from-place-clause-rest : goal.returns-else-from-place-clause-rest
returns-else-from-place-clause-rest g c = λ peer not_from not_place.
    let seen : g.row.D.Denot → DiskSeen = λ disk. seen_as (g.D.Disk.size disk) (g.D.Disk.stands disk) (g.D.Disk.faults disk) in
    let two = c.split_at_mut-low-else-from-place.ensures in
    let less : c.args.place < c.args.from = omega (arith, c.if-from-place.false, c.requires.apart) in
    pair_rest seen c.args.disks.now c.split_at_mut-low-else-from-place.result.0.now c.split_at_mut-low-else-from-place.result.1.now c.args.place c.args.from c.even_out-else-from-place.new.disk c.even_out-else-from-place.new.source c.index-low-place.result c.index-high-0-else-from-place.result
    two.value two.front_len less c.requires.from peer not_place not_from

pub even_out-requires-clause-viewed : goal.even_out-requires-clause-viewed
even_out-requires-clause-viewed g c =
    let seen : g.row.D.Denot → DiskSeen = λ disk. seen_as (g.D.Disk.size disk) (g.D.Disk.stands disk) (g.D.Disk.faults disk) in
    let two = c.split_at_mut-low.ensures in
    let at_i = old_i seen c.args.disks.now c.split_at_mut-low.result.0.now c.split_at_mut-low.result.1.now c.args.from c.args.place c.index-low-from.result c.index-high-0.result c.index-low-from.result c.index-high-0.result
    two.value two.front_len c.if-from-place.true c.requires.place in
    let at_j = old_j seen c.args.disks.now c.split_at_mut-low.result.0.now c.split_at_mut-low.result.1.now c.args.from c.args.place c.index-low-from.result c.index-high-0.result c.index-low-from.result c.index-high-0.result
    two.value two.front_len c.if-from-place.true c.requires.place in
    subst (λ (s : DiskSeen). IsAsViewed g.D.Disk.tells c.args.view (s.size c.args.view.log.side) s.stands) at_j c.requires.viewed

pub even_out-requires-clause-accepted : goal.even_out-requires-clause-accepted
even_out-requires-clause-accepted g c =
    let seen : g.row.D.Denot → DiskSeen = λ disk. seen_as (g.D.Disk.size disk) (g.D.Disk.stands disk) (g.D.Disk.faults disk) in
    let two = c.split_at_mut-low.ensures in
    let at_i = old_i seen c.args.disks.now c.split_at_mut-low.result.0.now c.split_at_mut-low.result.1.now c.args.from c.args.place c.index-low-from.result c.index-high-0.result c.index-low-from.result c.index-high-0.result
    two.value two.front_len c.if-from-place.true c.requires.place in
    let at_j = old_j seen c.args.disks.now c.split_at_mut-low.result.0.now c.split_at_mut-low.result.1.now c.args.from c.args.place c.index-low-from.result c.index-high-0.result c.index-low-from.result c.index-high-0.result
    two.value two.front_len c.if-from-place.true c.requires.place in
    λ told. subst (λ (s : DiskSeen). refusal_in c.args.shape c.args.peer s.stands.seen ≡ None) at_j (c.requires.accepted told)

pub even_out-requires-else-from-place-clause-taken : goal.even_out-requires-else-from-place-clause-taken
even_out-requires-else-from-place-clause-taken g c =
    let seen : g.row.D.Denot → DiskSeen = λ disk. seen_as (g.D.Disk.size disk) (g.D.Disk.stands disk) (g.D.Disk.faults disk) in
    let two = c.split_at_mut-low-else-from-place.ensures in
    let less : c.args.place < c.args.from = omega (arith, c.if-from-place.false, c.requires.apart) in
    let at_i = old_i seen c.args.disks.now c.split_at_mut-low-else-from-place.result.0.now c.split_at_mut-low-else-from-place.result.1.now c.args.place c.args.from c.index-low-place.result c.index-high-0-else-from-place.result c.index-low-place.result c.index-high-0-else-from-place.result
    two.value two.front_len less c.requires.from in
    let at_j = old_j seen c.args.disks.now c.split_at_mut-low-else-from-place.result.0.now c.split_at_mut-low-else-from-place.result.1.now c.args.place c.args.from c.index-low-place.result c.index-high-0-else-from-place.result c.index-low-place.result c.index-high-0-else-from-place.result
    two.value two.front_len less c.requires.from in
    subst (λ (s : DiskSeen). IsReady g.D.Disk.tells c.args.taken.now (s.size c.args.taken.now.log.side) s.stands) at_j c.requires.taken

pub even_out-requires-else-from-place-clause-viewed : goal.even_out-requires-else-from-place-clause-viewed
even_out-requires-else-from-place-clause-viewed g c =
    let seen : g.row.D.Denot → DiskSeen = λ disk. seen_as (g.D.Disk.size disk) (g.D.Disk.stands disk) (g.D.Disk.faults disk) in
    let two = c.split_at_mut-low-else-from-place.ensures in
    let less : c.args.place < c.args.from = omega (arith, c.if-from-place.false, c.requires.apart) in
    let at_i = old_i seen c.args.disks.now c.split_at_mut-low-else-from-place.result.0.now c.split_at_mut-low-else-from-place.result.1.now c.args.place c.args.from c.index-low-place.result c.index-high-0-else-from-place.result c.index-low-place.result c.index-high-0-else-from-place.result
    two.value two.front_len less c.requires.from in
    let at_j = old_j seen c.args.disks.now c.split_at_mut-low-else-from-place.result.0.now c.split_at_mut-low-else-from-place.result.1.now c.args.place c.args.from c.index-low-place.result c.index-high-0-else-from-place.result c.index-low-place.result c.index-high-0-else-from-place.result
    two.value two.front_len less c.requires.from in
    subst (λ (s : DiskSeen). IsAsViewed g.D.Disk.tells c.args.view (s.size c.args.view.log.side) s.stands) at_i c.requires.viewed

pub even_out-requires-else-from-place-clause-accepted : goal.even_out-requires-else-from-place-clause-accepted
even_out-requires-else-from-place-clause-accepted g c =
    let seen : g.row.D.Denot → DiskSeen = λ disk. seen_as (g.D.Disk.size disk) (g.D.Disk.stands disk) (g.D.Disk.faults disk) in
    let two = c.split_at_mut-low-else-from-place.ensures in
    let less : c.args.place < c.args.from = omega (arith, c.if-from-place.false, c.requires.apart) in
    let at_i = old_i seen c.args.disks.now c.split_at_mut-low-else-from-place.result.0.now c.split_at_mut-low-else-from-place.result.1.now c.args.place c.args.from c.index-low-place.result c.index-high-0-else-from-place.result c.index-low-place.result c.index-high-0-else-from-place.result
    two.value two.front_len less c.requires.from in
    let at_j = old_j seen c.args.disks.now c.split_at_mut-low-else-from-place.result.0.now c.split_at_mut-low-else-from-place.result.1.now c.args.place c.args.from c.index-low-place.result c.index-high-0-else-from-place.result c.index-low-place.result c.index-high-0-else-from-place.result
    two.value two.front_len less c.requires.from in
    λ told. subst (λ (s : DiskSeen). refusal_in c.args.shape c.args.peer s.stands.seen ≡ None) at_i (c.requires.accepted told)

pub returns-then-from-place-clause-headed : goal.returns-then-from-place-clause-headed
returns-then-from-place-clause-headed g c =
    let seen : g.row.D.Denot → DiskSeen = λ disk. seen_as (g.D.Disk.size disk) (g.D.Disk.stands disk) (g.D.Disk.faults disk) in
    let two = c.split_at_mut-low.ensures in
    pair_moved seen c.args.disks.now c.split_at_mut-low.result.0.now c.split_at_mut-low.result.1.now c.args.from c.args.place c.even_out.new.source c.even_out.new.disk c.index-low-from.result c.index-high-0.result
    two.value two.front_len c.if-from-place.true c.requires.place (λ a a' b b'. KeepsItsHeader g.D.Disk.tells (own_header c.args.shape c.args.peer) c.args.watch.now c.even_out.new.watch b b') c.even_out.ensures.headed

pub returns-else-from-place-clause-headed : goal.returns-else-from-place-clause-headed
returns-else-from-place-clause-headed g c =
    let seen : g.row.D.Denot → DiskSeen = λ disk. seen_as (g.D.Disk.size disk) (g.D.Disk.stands disk) (g.D.Disk.faults disk) in
    let two = c.split_at_mut-low-else-from-place.ensures in
    let less : c.args.place < c.args.from = omega (arith, c.if-from-place.false, c.requires.apart) in
    pair_moved seen c.args.disks.now c.split_at_mut-low-else-from-place.result.0.now c.split_at_mut-low-else-from-place.result.1.now c.args.place c.args.from c.even_out-else-from-place.new.disk c.even_out-else-from-place.new.source c.index-low-place.result c.index-high-0-else-from-place.result
    two.value two.front_len less c.requires.from (λ a a' b b'. KeepsItsHeader g.D.Disk.tells (own_header c.args.shape c.args.peer) c.args.watch.now c.even_out-else-from-place.new.watch a a') c.even_out-else-from-place.ensures.headed
