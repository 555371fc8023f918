pub mod Members
pub use Rattle.hs_limits.specs.Shape
