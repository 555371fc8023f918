pub mod Answers
pub mod Going
pub mod Operations
pub mod Refusals
pub mod Speaking
pub mod Stops
pub mod Views
