-- Lemmas, which crates above also cite.
pub mod BeginLemmas
pub mod BusyLemmas
pub mod BytesLemmas
pub mod CalmLemmas
pub mod DuringLemmas
pub mod LineLemmas
pub mod OpenedLemmas
pub mod OperationLemmas
pub mod OrderLemmas
pub mod SaidLemmas
pub mod SeatLemmas
pub mod StirLemmas
pub mod TurnLemmas
