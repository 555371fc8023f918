use Rattle.std.proofs.Common.{drop, map, take}
use Rattle.hs_cluster.specs.Disks.{seen_as}
use Rattle.hs_limits.specs.Limits.{greatest_limits}
use Rattle.hs_files.specs.Copied.{peers_of}
use Rattle.hs_files.proofs.copying.run_copy.Given as goal

abbrev pub ghosts-copy_under-H-Handed : goal.ghosts-copy_under-H-Handed
ghosts-copy_under-H-Handed g a = record {
  entry = record {
    set = record { name = g.A.Addresser.name a.naming.now; limits = greatest_limits; shape = a.shape };
    moment = a.watch.now;
    disks = map (λ disk. seen_as (g.D.Disk.size disk) (g.D.Disk.stands disk) (g.D.Disk.faults disk)) (take (peers_of a.shape) a.disks.now.items);
  };
}

abbrev pub ghosts-copy_under-G-Handed : goal.ghosts-copy_under-G-Handed
ghosts-copy_under-G-Handed g a = record {
  entry = record {
    set = record { name = g.A.Addresser.name a.naming.now; limits = greatest_limits; shape = a.second };
    moment = a.watch.now;
    disks = map (λ disk. seen_as (g.D.Disk.size disk) (g.D.Disk.stands disk) (g.D.Disk.faults disk)) (drop (peers_of a.shape) a.disks.now.items);
  };
}
