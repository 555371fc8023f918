-- Members of a list, and what is reached along arrows: the words of hs_model's proofs.
pub use Rattle.hs_model.proofs.Members.{Member}
pub use Rattle.hs_model.proofs.ReachLemmas.{Reached}
