pub mod Between
pub mod Counted
pub mod Promised
pub mod Served
pub mod Zeros
