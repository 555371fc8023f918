pub mod Causes
pub mod Keeping
pub mod Settled
pub mod Turning
