pub mod Course
pub mod Rejoin
