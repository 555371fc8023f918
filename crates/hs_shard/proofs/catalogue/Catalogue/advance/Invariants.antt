-- So many turns are left, more than there are Gots.
use Rattle.std.proofs.Common.{◌≡◌, ◌<◌, ℕ, length}
use Rattle.hs_shard.specs.Clients.{applied}
use Rattle.hs_shard.specs.Rounds.{advance, advanced}
use Rattle.hs_shard.proofs.catalogue.Catalogue.advance.Given as goal

abbrev pub invariant-loop-self : goal.invariant-loop-self
invariant-loop-self l = (turns : ℕ) × (length l.self.run.gots < turns) × (advance turns (applied l.self l.effect) ≡ advanced (applied l.initial.self l.initial.effect))

abbrev pub decreases-loop-self : goal.decreases-loop-self
decreases-loop-self l = length l.self.run.gots
