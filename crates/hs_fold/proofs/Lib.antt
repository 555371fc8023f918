pub mod NumberedLemmas
pub mod OneListLemmas
pub mod PrefixLemmas
pub mod Runs
pub mod Shards
