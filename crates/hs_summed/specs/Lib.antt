pub mod Fit
pub mod Store
pub mod Summed
