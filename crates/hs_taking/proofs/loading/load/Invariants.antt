use Rattle.std.proofs.Common.{◌≡◌}
use Rattle.hs_peerlog.specs.Views.{HasView}
use Rattle.hs_ports.specs.declared.disk.Side.{Side}
use Rattle.hs_shard.specs.Facts.{empty_catalogue}
use Rattle.hs_taking.proofs.LoadLemmas.{IsLoading}
use Rattle.hs_taking.proofs.loading.load.Given as goal

-- the entries so far were applied
abbrev pub invariant-entries : goal.invariant-entries
invariant-entries g l = record {
  so_far : IsLoading g.D.Disk.tells (g.A.Addresser.name l.naming) (empty_catalogue l.fn.shape l.shard) (HasView l.view (g.D.Disk.stands l.fn.disk).seen) l.index l.catalogue l.rank;
  same : g.D.Disk.tells → g.D.Disk.stands l.disk ≡ g.D.Disk.stands l.fn.disk;
  same_size : (s : Side) → g.D.Disk.size l.disk s ≡ g.D.Disk.size l.fn.disk s;
  calm : g.D.Disk.faults l.disk ≡ g.D.Disk.faults l.fn.disk;
}
