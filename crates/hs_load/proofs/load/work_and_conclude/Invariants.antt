-- The book is one of this call's core.
use Rattle.hs_load.proofs.load.work_and_conclude.Given as goal

abbrev pub ghosts-work_and_join : goal.ghosts-work_and_join
ghosts-work_and_join g a = record { start = a.core }
