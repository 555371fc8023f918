pub mod PlaceLemmas
pub mod ToldLemmas
pub mod KeptLemmas
pub mod WayLemmas
pub mod NamedLemmas
pub mod CountedLemmas
pub mod SoundLemmas
