pub mod Client
pub mod Fetched
pub mod Halting
pub mod Put
pub mod Stored
pub mod Copied
