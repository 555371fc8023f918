pub mod Spelled
pub mod Store
