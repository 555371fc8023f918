pub mod ShapeLemmas
pub mod StreamLemmas
pub mod TakenLemmas
