pub mod CauseLemmas
pub mod KnownLemmas
