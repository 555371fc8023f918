pub mod Along
pub mod Asked
pub mod Awaiting
pub mod Home
pub mod Numbered
pub mod Run
pub mod Shown
pub mod Stopped
