-- The disks that are handed to a cluster.
pub use Rattle.hs_taking.specs.Disks.{AreReady, DiskSeen, IsSlotReady, log_at, seen_as, seen_at, stands_of}
