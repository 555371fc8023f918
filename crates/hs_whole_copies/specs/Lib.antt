pub mod Copying
pub mod Opening
pub mod Whole
