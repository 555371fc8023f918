use Rattle.std.proofs.Common.{◌≡◌}
use Rattle.hs_rounds.specs.Rounds.{changes_of}
use Rattle.hs_rounds.proofs.gots.Gots.changes.Given as goal

abbrev pub invariant-loop-from : goal.invariant-loop-from
invariant-loop-from l = l.changes.items ≡ changes_of l.from l.epoch l.round l.self
