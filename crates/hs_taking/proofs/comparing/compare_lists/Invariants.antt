use Rattle.std.proofs.Common.{◌≡◌, take}
use Rattle.hs_fold.specs.Shards.Setting.{Numbered}
use Rattle.hs_peerlog.specs.Views.{HasView}
use Rattle.hs_taking.specs.Disks.{seen_as}
use Rattle.hs_taking.specs.Pairs.{IsStill}
use Rattle.hs_taking.proofs.comparing.compare_lists.Given as goal

-- the first entries are the same, and nothing of the disks changed
abbrev pub invariant-entries : goal.invariant-entries
invariant-entries g l = record {
  source : IsStill g.D.Disk.tells (seen_as (g.D.Disk.size l.fn.source) (g.D.Disk.stands l.fn.source) (g.D.Disk.faults l.fn.source)) (seen_as (g.D.Disk.size l.source) (g.D.Disk.stands l.source) (g.D.Disk.faults l.source));
  disk : IsStill g.D.Disk.tells (seen_as (g.D.Disk.size l.fn.disk) (g.D.Disk.stands l.fn.disk) (g.D.Disk.faults l.fn.disk)) (seen_as (g.D.Disk.size l.disk) (g.D.Disk.stands l.disk) (g.D.Disk.faults l.disk));
  same : g.D.Disk.tells → (whole own : Numbered) → HasView l.view (g.D.Disk.stands l.fn.source).seen whole → HasView l.other (g.D.Disk.stands l.fn.disk).seen own → take l.index own ≡ take l.index whole;
  source_calm : g.D.Disk.faults l.source ≡ g.D.Disk.faults l.fn.source;
  disk_calm : g.D.Disk.faults l.disk ≡ g.D.Disk.faults l.fn.disk;
}
