-- So far both are the same.
use Rattle.std.proofs.Common.{◌≡◌, ◌≤◌, length, take}
use Rattle.hs_load.proofs.comparing.first_apart.Given as goal

abbrev pub invariant-loop-place : goal.invariant-loop-place
invariant-loop-place l = record {
  within : l.place ≤ length l.one;
  long : l.place ≤ length l.other;
  same : take l.place l.one ≡ take l.place l.other;
}
