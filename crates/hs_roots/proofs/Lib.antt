pub mod ByKeyLemmas
mod Examples
pub mod InsertLemmas
pub mod PlaceLemmas
pub mod RootLemmas
