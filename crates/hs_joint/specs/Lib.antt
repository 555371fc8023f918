pub mod Seen
pub mod Joined
pub mod Along
pub mod Numbers
