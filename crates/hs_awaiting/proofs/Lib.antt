pub mod EntryLemmas
mod IndexLemmas
mod RestartLemmas
mod StoredLemmas
pub mod WalkLemmas
