use Rattle.hs_laws.proofs.ValidLemmas.{is_from_valid}
use Rattle.hs_fold.specs.Runs.History.{follow_all, no_entries}
use Rattle.hs_fold.specs.Runs.Opened.{store_of}
use Rattle.hs_waiting.proofs.HistoryLemmas.{history_runs}
use Rattle.hs_waiting.proofs.waiting.what_waits_may_come_still.Goals as goal

pub returns-clause-fits : goal.returns-clause-fits
returns-clause-fits c = λ set history deeds front shape fit records waits more. (history_runs set history deeds front shape fit records waits more).fits

pub returns-clause-parts : goal.returns-clause-parts
returns-clause-parts c = λ set history deeds front shape fit records waits more. (history_runs set history deeds front shape fit records waits more).parts

pub returns-clause-valid : goal.returns-clause-valid
returns-clause-valid c = λ set history deeds front shape fit records waits more. is_from_valid (store_of (follow_all set (follow_all set (no_entries set) history) deeds)) (history_runs set history deeds front shape fit records waits more).valid
