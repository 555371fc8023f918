pub mod AgreeLemmas
pub mod ClientLemmas
pub mod CountLemmas
pub mod MapLemmas
pub mod RunLemmas
pub mod WholeLemmas
