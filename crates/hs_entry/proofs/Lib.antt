pub mod EntryLemmas
mod PartLemmas
pub mod PlainLemmas
pub mod DeltaLemmas
mod GotLemmas
mod KindLemmas
mod ListLemmas
pub mod ShortLemmas
pub mod RankLemmas
mod LentLemmas
