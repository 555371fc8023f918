mod BlockLemmas
mod NamesLemmas
