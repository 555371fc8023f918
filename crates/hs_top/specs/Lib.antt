pub mod Calls
pub mod Next
pub mod Rest
pub mod Status
pub mod Words
