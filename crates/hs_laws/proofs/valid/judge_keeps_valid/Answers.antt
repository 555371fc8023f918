use Rattle.hs_model.specs.Judge.{judge}
use Rattle.hs_laws.proofs.JudgeKeeps.{judge_valid}
use Rattle.hs_laws.proofs.ValidLemmas.{valid_from_is, is_from_valid}
use Rattle.hs_laws.proofs.valid.judge_keeps_valid.Goals as goal

pub returns : goal.returns
returns c = record { kept = λ limits s o v. is_from_valid (judge limits s o).store (judge_valid limits s (valid_from_is s v) o) }
