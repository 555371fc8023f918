use Rattle.std.proofs.Common.{◌-◌, ◌≤◌, vec_len}
use Rattle.hs_run.specs.Lines.{HasNoFeed, Moves}
use Rattle.hs_run.proofs.reader.gather.Given as goal

-- what was held and left at first is held and left now, and no line feed is held
abbrev pub invariant-gathering : goal.invariant-gathering
invariant-gathering g l = record {
  moves : Moves (g.S.Source.left l.fn.source) l.fn.buffer.items l.fn.budget (g.S.Source.left l.source) l.buffer.items l.budget;
  none : HasNoFeed l.buffer.items 0 (vec_len l.buffer);
  counted : g.S.Source.faults l.fn.source ≤ g.S.Source.faults l.source;
}

abbrev pub decreases-gathering : goal.decreases-gathering
decreases-gathering g l = 200001 - vec_len l.buffer
