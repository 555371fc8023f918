use Rattle.std.proofs.Common.{◌≡◌, ◌≤◌, take}
use Rattle.hs_ports.specs.Image.{shown_from}
use Rattle.hs_ports.proofs.image.shown.Given as goal

-- of the calls so far this many show
abbrev pub invariant-loop-i : goal.invariant-loop-i
invariant-loop-i l = record {
  value : l.n ≡ shown_from l.moment 0 0 (take l.i l.changes);
  bound : l.n ≤ l.i;
}
