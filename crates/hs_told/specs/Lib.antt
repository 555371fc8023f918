pub mod Apart
pub mod InTurn
pub mod Lines
pub mod Part
pub mod Turns
