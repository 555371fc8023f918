pub mod RootWords
pub mod Counted
pub mod Checked
pub mod Holding
pub mod Deeds
