-- What lists amount to for any number of shards, with roots.
pub mod Catalogue
pub mod Change
pub mod Course
pub mod Fits
pub mod Happening
pub mod History
pub mod Images
pub mod Mine
pub mod Opened
pub mod Parted
pub mod Pending
pub mod Prefix
pub mod Setting
pub mod Sound
pub mod Outstanding
