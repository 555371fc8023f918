pub mod Going
pub mod Indexing
pub mod Kinds
pub mod Putting
pub mod Views
pub mod Words
