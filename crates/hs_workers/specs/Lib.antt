pub mod Asks
pub mod Elements
pub mod Stages
pub mod Work
