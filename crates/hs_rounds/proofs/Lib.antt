mod Examples
mod ChangeLemmas
mod ComeLemmas
pub mod EachLemmas
pub mod PlaceLemmas
pub mod RunLemmas
pub mod SentLemmas
