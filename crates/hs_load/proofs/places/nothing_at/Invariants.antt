use Rattle.std.proofs.Common.{◌≡◌, None, replicate, vec_len}
use Rattle.hs_load.proofs.places.nothing_at.Given as goal

abbrev pub invariant-loop-place : goal.invariant-loop-place
invariant-loop-place g l = record {
  items : l.places.items ≡ replicate l._place None;
  count : vec_len l.places ≡ l._place;
}
