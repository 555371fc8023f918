-- The leaves so far, and those that are left to draw.
use Rattle.std.proofs.Common.{◌≡◌, ◌++◌, ◌-◌, ◌%◌, ◌≤◌, map}
use Rattle.rand_core.specs.Steps.{stream_of, steps_u64_high}
use Rattle.rand_xoshiro.specs.Xoshiro256.{plus_plus}
use Rattle.hs_script.specs.Plans.{drawn_words}
use Rattle.hs_script.proofs.plan.draw_leaves.Given as goal

abbrev pub invariant-loop : goal.invariant-loop
invariant-loop l = record {
  within : l.counter ≤ l.count;
  drawn : l.leaves ++ map (λ word. word % 4096) (drawn_words (l.count - l.counter) (stream_of (steps_u64_high plus_plus) l.rng))
      ≡ map (λ word. word % 4096) (drawn_words l.count (stream_of (steps_u64_high plus_plus) l.fn.rng));
}
