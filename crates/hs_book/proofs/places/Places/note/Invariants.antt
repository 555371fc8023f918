use Rattle.std.proofs.Common.{take}
use Rattle.hs_book.specs.Answers.{Indexes}
use Rattle.hs_book.proofs.places.Places.note.Given as goal

abbrev pub invariant-loop-place : goal.invariant-loop-place
invariant-loop-place l = Indexes (take l.place l.journal) l.self
