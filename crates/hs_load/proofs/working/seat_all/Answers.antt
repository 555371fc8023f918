use Rattle.std.proofs.Common.{◌∙◌, map, sym, subst, vec_len}
use Rattle.std.specs.Prelude.{All}
use Rattle.hs_taking.specs.Disks.{seen_as}
use Rattle.hs_load.specs.Seating.{IsSeated}
use Rattle.hs_load.proofs.JoinLemmas.{all_none, back_none}
use Rattle.hs_load.proofs.working.seat_all.Goals as goal

pub returns-clause-seated : goal.returns-clause-seated
returns-clause-seated g c = λ task count.
    c.in_ok-seat_askers.ensures c.args.logs.items (map (λ disk. seen_as (g.D.Disk.size disk) (g.D.Disk.stands disk) (g.D.Disk.faults disk)) c.args.disks.items) c.args.watch.now task count
    (c.in_ok-seat_peers.ensures.seated task
    (subst (λ xs. All (IsSeated g.D.Disk.tells g.D.Disk.size g.D.Disk.stands g.D.Disk.faults c.args.logs.items (map (λ disk. seen_as (g.D.Disk.size disk) (g.D.Disk.stands disk) (g.D.Disk.faults disk)) c.args.disks.items) c.args.watch.now task) xs)
    (sym c.new-elements.ensures.items) (all_none (IsSeated g.D.Disk.tells g.D.Disk.size g.D.Disk.stands g.D.Disk.faults c.args.logs.items (map (λ disk. seen_as (g.D.Disk.size disk) (g.D.Disk.stands disk) (g.D.Disk.faults disk)) c.args.disks.items) c.args.watch.now task))))

pub returns-clause-back : goal.returns-clause-back
returns-clause-back g c =
    c.in_ok-seat_peers.ensures.back
    (back_none g.D.Disk.tells g.D.Disk.size g.D.Disk.stands g.D.Disk.faults c.args.logs.items (map (λ disk. seen_as (g.D.Disk.size disk) (g.D.Disk.stands disk) (g.D.Disk.faults disk)) c.args.disks.items) c.len.result c.in_ok-back.back.items c.in_ok-back.ensures.items)
