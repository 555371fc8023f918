use Rattle.std.proofs.Common.{◌≡◌, replicate, []}
use Rattle.hs_book.proofs.keeper.no_reports.Given as goal

abbrev pub invariant-loop-peer : goal.invariant-loop-peer
invariant-loop-peer l = l.reported.items ≡ replicate l._peer []
