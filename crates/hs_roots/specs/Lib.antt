pub mod ByKey
pub mod Places
pub mod Refusals
pub mod Roots
