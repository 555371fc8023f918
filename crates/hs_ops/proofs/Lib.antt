mod BlockLemmas
mod DataLemmas
mod DeleteLemmas
mod Examples
mod RangeLemmas
mod StopLemmas
