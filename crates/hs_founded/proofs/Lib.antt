pub mod AcyclicLemmas
pub mod BytesLemmas
pub mod NamedLemmas
pub mod StoreLemmas
