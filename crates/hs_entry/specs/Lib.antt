pub mod Entries
pub mod Payload
pub mod Reading
pub use Rattle.hs_limits.specs.Block
pub use Rattle.hs_limits.specs.Fields
pub use Rattle.hs_limits.specs.Reading as BlockReading
