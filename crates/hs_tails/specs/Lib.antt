pub mod Chosen
pub mod Known
pub mod Lines
pub mod Run
pub mod Stop
pub mod Tails
