pub mod Counts
pub mod Leaving
