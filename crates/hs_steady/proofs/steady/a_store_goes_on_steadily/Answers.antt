use Rattle.hs_steady.proofs.RunLemmas.{are_steady, opens_steady}
use Rattle.hs_steady.proofs.steady.a_store_goes_on_steadily.Goals as goal

pub returns : goal.returns
returns c = record {
  along = λ c events machines w. are_steady c events machines w;
  opened = λ set found events may. opens_steady set found events may;
}
