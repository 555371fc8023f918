pub mod Caused
pub mod Heads
pub mod Images
pub mod Lists
pub mod Opening
pub mod Past
pub mod Steps
pub mod Views
