use Rattle.std.proofs.Common.{◌≡◌, ◌≤◌, length, map}
use Rattle.hs_limits.specs.Shape.{peer_of}
use Rattle.hs_taking.specs.Disks.{seen_as, seen_at}
use Rattle.hs_taking.specs.Evens.{log_of}
use Rattle.hs_taking.specs.Headed.{KeepTheirHeaders, OwnTheirLogs}
use Rattle.hs_taking.specs.Slots.{AreMade, IsSource, slot_at}
use Rattle.hs_taking.proofs.leveling.level_copies.Given as goal

-- the first copies were recovered or made equal
abbrev pub invariant-loop-copy : goal.invariant-loop-copy
invariant-loop-copy g l = record {
  made : AreMade g.D.Disk.tells l.shape l.shard l.from (peer_of l.shape l.shard l.copy) l.fn.watch l.watch (map (λ disk. seen_as (g.D.Disk.size disk) (g.D.Disk.stands disk) (g.D.Disk.faults disk)) l.fn.disks) (map (λ disk. seen_as (g.D.Disk.size disk) (g.D.Disk.stands disk) (g.D.Disk.faults disk)) l.disks) l.fn.slots.items l.slots.items l.fn.source l.source;
  ready : IsSource g.D.Disk.tells (seen_at (map (λ disk. seen_as (g.D.Disk.size disk) (g.D.Disk.stands disk) (g.D.Disk.faults disk)) l.disks) l.from) l.source;
  count : length l.disks ≡ length l.fn.disks;
  slots : length l.slots.items ≡ length l.fn.slots.items;
  own : OwnTheirLogs g.D.Disk.tells l.shape (λ p. log_of (slot_at l.fn.slots.items p)) → OwnTheirLogs g.D.Disk.tells l.shape (λ p. log_of (slot_at l.slots.items p));
  headed : KeepTheirHeaders g.D.Disk.tells l.shape l.fn.watch l.watch (map (λ disk. seen_as (g.D.Disk.size disk) (g.D.Disk.stands disk) (g.D.Disk.faults disk)) l.fn.disks) (map (λ disk. seen_as (g.D.Disk.size disk) (g.D.Disk.stands disk) (g.D.Disk.faults disk)) l.disks);
  ticks : l.fn.watch ≤ l.watch;
}
