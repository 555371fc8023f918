pub mod Book
pub mod Answers
pub mod Reports
pub mod Events
pub mod Calls
pub mod History
