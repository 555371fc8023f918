use Rattle.std.proofs.Common.{◌≡◌}
use Rattle.hs_workers.proofs.peer.next_job.Given as goal

-- the slip is as it was, but for the work in hand and whether the peer is idle
abbrev pub invariant-loop : goal.invariant-loop
invariant-loop g l =
    let noted = g.B.Seat.Seat.noted in
    noted l.seat ≡ record (noted l.fn.seat) { work = (noted l.seat).work; idle = (noted l.seat).idle }
