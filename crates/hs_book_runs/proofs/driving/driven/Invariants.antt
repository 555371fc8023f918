-- The book is one of this call's core.
use Rattle.hs_book_runs.proofs.driving.driven.Given as goal

abbrev pub ghosts-drive : goal.ghosts-drive
ghosts-drive g a = record { start = a.core }
