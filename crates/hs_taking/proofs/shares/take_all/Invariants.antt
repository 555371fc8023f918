use Rattle.std.proofs.Common.{◌≡◌, ◌*◌, ◌≤◌, length, map}
use Rattle.std.specs.Option.{option_map}
use Rattle.hs_taking.proofs.RunLemmas.{TakesSome}
use Rattle.hs_taking.specs.Disks.{seen_as}
use Rattle.hs_taking.specs.Evens.{log_of}
use Rattle.hs_taking.specs.Headed.{KeepTheirHeaders, OwnTheirLogs}
use Rattle.hs_taking.specs.Slots.{slot_at}
use Rattle.hs_taking.proofs.shares.take_all.Given as goal

-- the first shards were taken, and the disks of the others were not called
abbrev pub invariant-loop-shard : goal.invariant-loop-shard
invariant-loop-shard g l = record {
  taken : TakesSome g.D.Disk.tells (record { name = g.A.Addresser.name l.fn.naming; limits = l.fn.limits; shape = l.fn.shape }) l.fn.watch l.watch
      (map (λ disk. seen_as (g.D.Disk.size disk) (g.D.Disk.stands disk) (g.D.Disk.faults disk)) l.fn.disks)
      (map (λ disk. seen_as (g.D.Disk.size disk) (g.D.Disk.stands disk) (g.D.Disk.faults disk)) l.disks) l.fn.views.items l.slots.items l.shares.items;
  ranks : l.ranks.items ≡ map (λ view. option_map (λ v. v.rank) view) l.fn.views.items;
  shares : length l.shares.items ≡ l.shard;
  slots : length l.slots.items ≡ l.fn.shape.shards * l.fn.shape.copies;
  count : length l.disks ≡ length l.fn.disks;
  own : OwnTheirLogs g.D.Disk.tells l.fn.shape (λ p. log_of (slot_at l.slots.items p));
  headed : KeepTheirHeaders g.D.Disk.tells l.fn.shape l.fn.watch l.watch
      (map (λ disk. seen_as (g.D.Disk.size disk) (g.D.Disk.stands disk) (g.D.Disk.faults disk)) l.fn.disks)
      (map (λ disk. seen_as (g.D.Disk.size disk) (g.D.Disk.stands disk) (g.D.Disk.faults disk)) l.disks);
  ticks : l.fn.watch ≤ l.watch;
}
