pub mod Block
pub mod Epoch
pub mod Fields
pub mod Key
pub mod Limits
pub mod Name
pub mod Reading
pub mod Shape
