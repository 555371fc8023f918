use Rattle.std.proofs.Common.{◌≡◌, ◌≤◌, ◌+◌, ◌-◌, ◌++◌, length, take, drop}
use Rattle.hs_ports.specs.declared.disk.Side.{Side}
use Rattle.hs_side.proofs.reading.fill.Given as goal

-- the bytes so far are those of the side
abbrev pub invariant-pieces : goal.invariant-pieces
invariant-pieces g l = record {
  bound : l.got ≤ l.n;
  len : length l.into.items ≡ length l.fn.into.items + l.got;
  front : take (length l.fn.into.items) l.into.items ≡ l.fn.into.items;
  value : g.D.Disk.tells → l.into.items ≡ l.fn.into.items ++ take l.got (drop l.at ((g.D.Disk.stands l.fn.disk).seen l.side));
  same_size : (s : Side) → g.D.Disk.size l.disk s ≡ g.D.Disk.size l.fn.disk s;
  same : g.D.Disk.tells → g.D.Disk.stands l.disk ≡ g.D.Disk.stands l.fn.disk;
  calm : g.D.Disk.faults l.disk ≡ g.D.Disk.faults l.fn.disk;
}

abbrev pub decreases-pieces : goal.decreases-pieces
decreases-pieces g l = l.n - l.got
