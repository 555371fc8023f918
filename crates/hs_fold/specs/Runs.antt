-- What lists amount to with all that deletion runs keep.
pub mod Catalogue
pub mod Clients
pub mod Counts
pub mod Ends
pub mod Facts
pub mod Fits
pub mod Happening
pub mod History
pub mod Opened
pub mod Own
pub mod Rounds
pub mod Sound
pub mod Told
