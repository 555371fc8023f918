pub mod Told
pub mod Points
pub mod Bare
pub mod On
pub mod History
pub mod Lines
