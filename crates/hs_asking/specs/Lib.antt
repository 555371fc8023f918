pub mod Shown
pub mod Telling
pub mod Asked
pub mod Lawful
pub mod Judged
pub mod Staying
pub mod Seats
pub mod Alone
