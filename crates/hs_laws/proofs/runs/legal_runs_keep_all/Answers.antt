use Rattle.hs_model.specs.Run.{run}
use Rattle.hs_laws.proofs.JudgeKeeps.{run_valid}
use Rattle.hs_laws.proofs.OrderKeeps.{is_from_ordered}
use Rattle.hs_laws.proofs.RunLemmas.{left_valid, left_ordered, root_whole, held_whole}
use Rattle.hs_laws.proofs.ValidLemmas.{valid_from_is, is_from_valid}
use Rattle.hs_laws.proofs.runs.legal_runs_keep_all.Goals as goal

pub returns-clause-kept : goal.returns-clause-kept
returns-clause-kept c = λ limits s events v t. is_from_valid (run limits s events) (run_valid limits s (valid_from_is s v) events t)

pub returns-clause-valid : goal.returns-clause-valid
returns-clause-valid c = λ limits s i. is_from_valid s (left_valid limits s i)

pub returns-clause-ordered : goal.returns-clause-ordered
returns-clause-ordered c = λ limits s i. is_from_ordered s (left_ordered limits s i)

pub returns-clause-rooted : goal.returns-clause-rooted
returns-clause-rooted c = λ limits s root i m e. root_whole s (left_valid limits s i) root m e

pub returns-clause-held : goal.returns-clause-held
returns-clause-held c = λ limits s held i h f. held_whole s (left_valid limits s i) held h f
