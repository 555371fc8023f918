pub mod JournalState
pub mod Deeds
pub mod Events
pub mod Order
pub mod Moments
pub mod Notes
pub mod Telling
