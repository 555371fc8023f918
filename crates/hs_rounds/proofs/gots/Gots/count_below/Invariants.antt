use Rattle.std.proofs.Common.{◌≡◌, length}
use Rattle.hs_rounds.specs.Rounds.{changes_of}
use Rattle.hs_rounds.proofs.gots.Gots.count_below.Given as goal

abbrev pub invariant-loop-from : goal.invariant-loop-from
invariant-loop-from l = l.count ≡ length (changes_of l.from l.place.epoch l.place.round l.self)
