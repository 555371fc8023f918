use Rattle.std.proofs.Common.{◌≤◌}
use Rattle.hs_workers.specs.Work.{bench_of}
use Rattle.hs_workers.proofs.WorkLemmas.{Goes}
use Rattle.hs_workers.proofs.peer.do_jobs.Given as goal

abbrev pub invariant-loop : goal.invariant-loop
invariant-loop g l =
    let noted = g.B.Seat.Seat.noted in
    let disk = g.D.Disk in
    record {
      goes : Goes disk.tells (noted l.fn.seat) (noted l.seat)
          (bench_of disk.size disk.stands disk.faults l.fn.log l.fn.disk) (bench_of disk.size disk.stands disk.faults l.log l.disk);
      ticks : l.fn.watch ≤ l.watch;
    }
