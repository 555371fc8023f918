mod Examples
mod SeatLemmas
