use Rattle.std.proofs.Common.{◌≡◌, ◌≤◌, [], ℕ, None, Some, take}
use Rattle.hs_fold.specs.Shards.Setting.{Numbered}
use Rattle.hs_peerlog.specs.Heads.{KeepsHeader}
use Rattle.hs_peerlog.specs.Images.{IsAny, LeavesEach}
use Rattle.hs_peerlog.specs.Lists.{HasLog, IsKept, IsReady}
use Rattle.hs_side.specs.declared.header.Header.{Header}
use Rattle.hs_taking.specs.Copies.{fronts}
use Rattle.hs_taking.specs.Disks.{seen_as}
use Rattle.hs_taking.specs.Pairs.{IsStill}
use Rattle.hs_taking.specs.Past.{PastStays}
use Rattle.hs_taking.proofs.evening.fill_log.Given as goal

-- the first entries were copied
abbrev pub invariant-entries : goal.invariant-entries
invariant-entries g l = record {
  source : IsStill g.D.Disk.tells (seen_as (g.D.Disk.size l.fn.source) (g.D.Disk.stands l.fn.source) (g.D.Disk.faults l.fn.source)) (seen_as (g.D.Disk.size l.source) (g.D.Disk.stands l.source) (g.D.Disk.faults l.source));
  source_calm : g.D.Disk.faults l.source ≡ g.D.Disk.faults l.fn.source;
  disk_calm : g.D.Disk.faults l.disk ≡ g.D.Disk.faults l.fn.disk;
  ready : IsReady g.D.Disk.tells l.copy (g.D.Disk.size l.disk l.copy.log.side) (g.D.Disk.stands l.disk);
  sealed : l.copy.waits ≡ None;
  number : l.copy.rank.number ≡ l.index;
  has : g.D.Disk.tells → (g.D.Disk.stands l.fn.disk).last ≤ l.fn.watch → (list : Numbered) → IsKept l.taken ((g.D.Disk.stands l.fn.source).seen l.taken.log.side) list None → HasLog l.fn.copy (g.D.Disk.stands l.fn.disk) [] None
      → HasLog l.copy (g.D.Disk.stands l.disk) (take l.index list) None;
  moments : g.D.Disk.tells → (g.D.Disk.stands l.fn.disk).last ≤ l.fn.watch → (list : Numbered) → IsKept l.taken ((g.D.Disk.stands l.fn.source).seen l.taken.log.side) list None → HasLog l.fn.copy (g.D.Disk.stands l.fn.disk) [] None
      → LeavesEach l.fn.watch l.watch (g.D.Disk.stands l.fn.disk) (g.D.Disk.stands l.disk) (IsAny (fronts list));
  past : g.D.Disk.tells → (g.D.Disk.stands l.fn.disk).last ≤ l.fn.watch → PastStays l.fn.watch l.watch (g.D.Disk.stands l.fn.disk) (g.D.Disk.stands l.disk);
  head : l.copy.log.head ≡ l.fn.copy.log.head;
  headed : g.D.Disk.tells → (g.D.Disk.stands l.fn.disk).last ≤ l.fn.watch → (list : Numbered) → IsKept l.taken ((g.D.Disk.stands l.fn.source).seen l.taken.log.side) list None → HasLog l.fn.copy (g.D.Disk.stands l.fn.disk) [] None
      → (head : Header × ℕ) → l.fn.copy.log.head ≡ Some head → KeepsHeader l.fn.watch (g.D.Disk.stands l.disk) head.0;
  ticks : l.fn.watch ≤ l.watch;
}
