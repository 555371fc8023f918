pub mod AscendingLemmas
pub mod ChosenLemmas
pub mod FinalLemmas
pub mod GatherLemmas
pub mod HollowLemmas
pub mod LawLemmas
mod ListExamples
pub mod MissingLemmas
pub mod RangeLemmas
pub mod ReadLemmas
pub mod RereadLemmas
pub mod ShardLemmas
pub mod TriesLemmas
mod TextExamples
