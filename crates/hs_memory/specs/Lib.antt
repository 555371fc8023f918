pub mod Forget
pub mod Whole
pub use Rattle.hs_shard.specs.Apply
pub use Rattle.hs_shard.specs.Facts
pub use Rattle.hs_fold.specs.Runs
