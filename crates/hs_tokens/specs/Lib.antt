pub mod Refusals
pub mod Seats
