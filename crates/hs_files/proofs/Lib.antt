mod ClientLemmas
mod CopyLemmas
mod EndLemmas
mod StoreLemmas
mod FetchLemmas
pub mod HaltLemmas
mod IdleLemmas
mod PartLemmas
mod TwoLemmas
