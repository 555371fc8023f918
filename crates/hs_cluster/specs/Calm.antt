-- That a core of one copy a shard which goes on came so far without a fault of a disk.
use Rattle.std.specs.Prelude.{◌≡◌, List}
use Rattle.hs_cluster.specs.Counts.{NoneRises}
use Rattle.hs_cluster.specs.Disks.{DiskSeen}
use Rattle.hs_core_words.specs.State.{Core}
use Rattle.hs_events.specs.Sane.{IsSane}
use Rattle.hs_events.specs.Whole.{Whole}

-- its peers are good and lead alone, with some lists of theirs; and no count rose
pub record GoesCalmly (core : Core) (old new : List DiskSeen) : Type 0 where
  pub whole : Whole
  pub same : whole.core ≡ core
  pub sane : IsSane whole
  pub none : NoneRises old new
