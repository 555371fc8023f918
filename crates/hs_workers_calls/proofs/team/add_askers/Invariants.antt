use Rattle.std.proofs.Common.{All}
use Rattle.hs_workers.specs.Elements.{CanBegin}
use Rattle.hs_workers_calls.proofs.team.add_askers.Given as goal

abbrev pub invariant-loop-number : goal.invariant-loop-number
invariant-loop-number g l = All (CanBegin (λ seat. seat.slip) (λ pass. pass.token) g.D.Disk.tells g.D.Disk.size g.D.Disk.stands) l.team.items
