pub mod Names
pub mod Sizes
pub mod Refusal
pub use Rattle.hex.specs.Hex
pub use Rattle.hs_limits.specs.Block
pub use Rattle.hs_limits.specs.Reading
pub use Rattle.sha2.specs.Sha256
