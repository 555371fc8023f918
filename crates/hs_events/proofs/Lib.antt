pub mod AddressLemmas
mod Examples
pub mod FrameLemmas
pub mod GoingLemmas
pub mod JoiningLemmas
pub mod NotedLemmas
pub mod RangeLemmas
pub mod RunLemmas
pub mod TurnLemmas
