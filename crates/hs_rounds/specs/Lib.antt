pub mod Changes
pub mod Rounds
pub mod Steps
pub use Rattle.hs_limits.specs.Shape
