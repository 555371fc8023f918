pub mod CommandLine
pub mod FileNote
pub mod SideFault
pub mod Taken
pub mod Usage
