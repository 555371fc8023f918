pub mod ChooseLemmas
mod Examples
