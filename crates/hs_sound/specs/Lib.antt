pub mod Told
pub mod Stay
