pub mod AskLemmas
pub mod StageLemmas
pub mod WorkLemmas
