use Rattle.std.proofs.Common.{◌≡◌, length, take}
use Rattle.hs_asker.proofs.ScanLemmas.{Scans}
use Rattle.hs_asker.proofs.answer.place_of.Given as goal

abbrev pub invariant-loop-place : goal.invariant-loop-place
invariant-loop-place l = Scans (take l.place l.entries) l.line l.found × (l.place-end ≡ length l.entries)
