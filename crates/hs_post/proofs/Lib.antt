mod Examples
pub mod FirstLemmas
pub mod LeadLemmas
pub mod NumberLemmas
pub mod OrderLemmas
