mod AimLemmas
pub mod GoingLemmas
mod JudgingLemmas
mod LeadLemmas
mod OpenLemmas
mod PlacedLemmas
mod PlainLemmas
pub mod RangeLemmas
pub mod RecordLemmas
mod SeatLemmas
mod SightLemmas
mod StatusLemmas
mod StepLemmas
mod StoredLemmas
mod ViewLemmas
mod WakeLemmas
