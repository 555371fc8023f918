use Rattle.std.proofs.Common.{◌≡◌, ◌++◌}
use Rattle.hs_shard.specs.Rounds.{messages}
use Rattle.hs_shard.proofs.catalogue.Catalogue.send.Given as goal

abbrev pub invariant-loop-to : goal.invariant-loop-to
invariant-loop-to l = l.sends ≡ l.initial.sends ++ messages l.to l.epoch l.round l.self.run
