pub mod DiskListLemmas
pub mod Images
pub mod MomentLemmas
pub mod PastLemmas
pub mod PlatterLemmas
pub mod ReplayLemmas
pub mod SidesLemmas
pub mod StampLemmas
pub mod TakeLemmas
pub mod TearLemmas
mod PuttingExamples
