pub mod Asked
pub mod Judged
pub mod Standing
pub mod Telling
