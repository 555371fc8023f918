mod Examples
pub mod AdvanceLemmas
pub mod EachLemmas
pub mod EffectLemmas
pub mod FoundLemmas
pub mod KeptLemmas
pub mod ListedLemmas
pub mod OutcomeLemmas
pub mod PlainLemmas
pub mod PointerLemmas
pub mod TallyLemmas
