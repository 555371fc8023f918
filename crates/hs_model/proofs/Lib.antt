pub mod Members
pub mod ReachLemmas
pub mod StepLemmas
pub mod PointingLemmas
pub mod SetLemmas
pub mod SweptLemmas
pub mod PeelLemmas
pub mod AcyclicLemmas
pub mod JudgeLemmas
pub mod PlaceLemmas
pub mod CountLemmas
pub mod RefusalLemmas
pub mod MapLemmas
pub mod DeedLemmas
mod DeedsExamples
