use Rattle.std.proofs.Common.{map}
use Rattle.hs_cluster.specs.Disks.{seen_as}
use Rattle.hs_limits.specs.Limits.{greatest_limits}
use Rattle.hs_files.proofs.fetching.run_fetch.Given as goal

abbrev pub ghosts-fetch_under : goal.ghosts-fetch_under
ghosts-fetch_under g a = record {
  entry = record {
    set = record { name = g.A.Addresser.name a.naming.now; limits = greatest_limits; shape = a.shape };
    moment = a.watch.now;
    disks = map (λ disk. seen_as (g.D.Disk.size disk) (g.D.Disk.stands disk) (g.D.Disk.faults disk)) a.disks.now.items;
  };
}
