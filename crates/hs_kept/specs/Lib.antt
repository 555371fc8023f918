pub mod Answered
pub mod Entry
pub mod Kept
pub mod Pending
pub mod Stopped
pub mod Copied
pub mod Survives
