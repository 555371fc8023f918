pub mod Answers
pub mod Faults
pub mod Roomy
pub mod Slips
pub mod Tokens
