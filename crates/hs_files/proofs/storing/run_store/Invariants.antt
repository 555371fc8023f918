use Rattle.std.proofs.Common.{map}
use Rattle.hs_cluster.specs.Disks.{seen_as}
use Rattle.hs_limits.specs.Limits.{greatest_limits}
use Rattle.hs_files.proofs.storing.run_store.Given as goal

abbrev pub ghosts-store_under : goal.ghosts-store_under
ghosts-store_under g a = record {
  entry = record {
    set = record { name = g.A.Addresser.name a.naming.now; limits = greatest_limits; shape = a.shape };
    moment = a.watch.now;
    disks = map (λ disk. seen_as (g.D.Disk.size disk) (g.D.Disk.stands disk) (g.D.Disk.faults disk)) a.disks.now.items;
  };
}
