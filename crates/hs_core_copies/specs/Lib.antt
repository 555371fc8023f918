pub mod InStep
pub mod Jobs
pub mod Knowing
pub mod Lists
pub mod Next
pub mod Opening
pub mod Runs
