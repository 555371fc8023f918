pub mod AnswerLemmas
pub mod CollisionLemmas
pub mod CoreLemmas
pub mod EarlyLemmas
mod MemoryLemmas
pub mod PlainLemmas
pub mod RefusalLemmas
mod RootLemmas
pub mod ShownLemmas
pub mod StepLemmas
pub mod TellingLemmas
