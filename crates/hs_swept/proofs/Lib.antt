pub mod ApartLemmas
pub mod DoneLemmas
pub mod ExactLemmas
pub mod JoinLemmas
