pub mod Answered
pub mod Lawful
pub mod Logged
pub mod Room
pub mod Taking
pub mod Telling
