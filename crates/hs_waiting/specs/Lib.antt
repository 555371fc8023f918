pub mod Waits
pub mod Lists
