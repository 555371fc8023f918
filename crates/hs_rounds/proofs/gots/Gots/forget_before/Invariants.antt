use Rattle.std.proofs.Common.{◌≡◌, length}
use Rattle.hs_rounds.specs.Rounds.{from_round}
use Rattle.hs_rounds.proofs.gots.Gots.forget_before.Given as goal

abbrev pub invariant-loop-self : goal.invariant-loop-self
invariant-loop-self l = from_round l.epoch l.round l.self ≡ from_round l.epoch l.round l.initial.self

abbrev pub decreases-loop-self : goal.decreases-loop-self
decreases-loop-self l = length l.self
