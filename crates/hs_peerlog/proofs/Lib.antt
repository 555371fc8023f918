mod AppendedLemmas
mod CloseLemmas
mod EntryLemmas
mod FoundLemmas
mod HeaderLemmas
pub mod ImageLemmas
mod ListLemmas
mod MakeLemmas
mod NumberedLemmas
pub mod OpenLemmas
mod PlaceLemmas
mod ResetLemmas
mod ShownLemmas
mod SoleLemmas
pub mod StayLemmas
mod ViewLemmas
