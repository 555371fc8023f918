use Rattle.std.proofs.Common.{◌≡◌, map}
use Rattle.std.specs.List.{range_with_len}
use Rattle.hs_rounds.specs.Rounds.{body_for}
use Rattle.hs_rounds.proofs.sending.bodies_for.Given as goal

abbrev pub invariant-loop-to : goal.invariant-loop-to
invariant-loop-to l = l.bodies ≡ map (body_for l.shape.shards l.total l.deltas) (range_with_len 0 l.to)
