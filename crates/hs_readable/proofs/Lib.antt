pub mod DeltaLemmas
