-- Lemmas, which crates above also cite.
pub mod AsideLemmas
pub mod ClassLemmas
pub mod EventLemmas
mod Examples
pub mod ListLemmas
pub mod LookLemmas
pub mod OnceLemmas
pub mod ReadyLemmas
pub mod RoundLemmas
pub mod SizeLemmas
pub mod StepLemmas
pub mod StillLemmas
pub mod StrokeLemmas
