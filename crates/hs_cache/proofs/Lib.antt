pub mod LookupLemmas
pub mod RecentLemmas
