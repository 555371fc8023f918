mod LeavingLemmas
mod CountLemmas
mod Examples
