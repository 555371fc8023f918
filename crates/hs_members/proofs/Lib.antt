mod Examples
pub mod LeadLemmas
