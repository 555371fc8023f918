pub mod AddedLemmas
pub mod AllLemmas
pub mod CopiedLemmas
mod Examples
pub mod FollowEventLemmas
pub mod FollowLemmas
pub mod LineageLemmas
pub mod OpenLemmas
pub mod PlainLemmas
pub mod RankLemmas
pub mod ReachLemmas
pub mod ReportedLemmas
pub mod StoodLemmas
