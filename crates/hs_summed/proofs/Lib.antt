mod FitLemmas
mod OpensLemmas
mod SealedLemmas
mod StoreLemmas
mod SumLemmas
