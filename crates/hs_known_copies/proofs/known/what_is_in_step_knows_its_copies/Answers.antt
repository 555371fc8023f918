use Rattle.hs_known_copies.proofs.KnownLemmas.{in_step_after, known, knows_along, seated}
use Rattle.hs_known_copies.proofs.known.what_is_in_step_knows_its_copies.Goals as goal

pub returns : goal.returns
returns c = record {
  seated = λ core machines w. seated core machines w;
  known = λ core machines w. known core machines w;
  event = λ core event moment machines w on. in_step_after event moment core machines w on;
  along = λ core events machines w. knows_along core events machines w;
}
