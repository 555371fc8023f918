pub mod OptionLemmas
pub mod ShapeLemmas
pub mod WordsLemmas
