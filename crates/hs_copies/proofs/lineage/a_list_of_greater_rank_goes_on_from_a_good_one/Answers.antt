use Rattle.hs_copies.proofs.OpenedLemmas.{has_effects, lineage_right, one_up_to}
use Rattle.hs_copies.proofs.lineage.a_list_of_greater_rank_goes_on_from_a_good_one.Goals as goal

pub returns : goal.returns
returns c = record {
  lineage = λ s p y front other r. lineage_right s r p y front other;
  effects = λ s p y front other r. has_effects s r p y front other;
  common = λ s p q n x y r. one_up_to s r p q n x y;
}
