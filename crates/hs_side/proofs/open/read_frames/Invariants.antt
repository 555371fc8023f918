use Rattle.std.proofs.Common.{◌≡◌, ◌-◌, length}
use Rattle.hs_ports.specs.declared.disk.Side.{Side}
use Rattle.hs_side.specs.Steps.{Scanned}
use Rattle.hs_side.proofs.open.read_frames.Given as goal

-- the frames so far
abbrev pub invariant-frames : goal.invariant-frames
invariant-frames g l = record {
  size : l.size ≡ g.D.Disk.size l.disk l.side;
  same : g.D.Disk.tells → g.D.Disk.stands l.disk ≡ g.D.Disk.stands l.fn.disk;
  same_size : (s : Side) → g.D.Disk.size l.disk s ≡ g.D.Disk.size l.fn.disk s;
  calm : g.D.Disk.faults l.disk ≡ g.D.Disk.faults l.fn.disk;
  counted : l.last.number ≡ length l.places.items;
  scanned : g.D.Disk.tells → Scanned ((g.D.Disk.stands l.fn.disk).seen l.side) l.at l.last l.places.items;
}

abbrev pub decreases-frames : goal.decreases-frames
decreases-frames g l = l.size - l.at
