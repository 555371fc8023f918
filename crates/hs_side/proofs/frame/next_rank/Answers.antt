use Rattle.std.proofs.Common.{◌+◌}
use Rattle.hs_entry.specs.Entries.{view_after}
use Rattle.hs_side.proofs.FrameLemmas.{follows_above, next_read, next_refused, memory_alone, refused_above}
use Rattle.hs_side.proofs.frame.next_rank.Goals as goal

pub returns-in-Err : goal.returns-in-Err
returns-in-Err c = rw c.refused.ensures (record {
  exact = next_refused c.args.last c.args.payload.now (λ x. record { view = view_after c.args.last.view x.1; number = x.0 }) c.in-Err.fault c.in-Err.ensures;
  above = refused_above (c.args.last.number + 1) c.in-Err.fault;
  memory = memory_alone c.in-Err.fault;
})

pub returns-clause-exact : goal.returns-clause-exact
returns-clause-exact c =
    rw c.follows.ensures (next_read c.args.last c.in-Ok.rank c.args.payload.now c.in-Ok.ensures)

pub returns-clause-above : goal.returns-clause-above
returns-clause-above c = rw c.follows.ensures (follows_above (c.args.last.number + 1) c.in-Ok.rank)
