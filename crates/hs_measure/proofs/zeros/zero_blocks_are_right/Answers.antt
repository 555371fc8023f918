use Rattle.hs_measure.proofs.ZeroLemmas.{zeros_behind, zeros_right}
use Rattle.hs_measure.proofs.zeros.zero_blocks_are_right.Goals as goal

pub returns : goal.returns
returns c = record {
  behind = λ set history shape fits few. zeros_behind set history shape fits few;
  of_core = λ name core cs its. zeros_right name core cs its;
}
