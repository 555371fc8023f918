use Rattle.std.proofs.Common.{sym, subst}
use Rattle.hs_shard.specs.Listed.{AreKept}
use Rattle.hs_shard.proofs.KeptLemmas.{kept_given}
use Rattle.hs_shard.proofs.blocks.Blocks.give.Goals as goal

pub invariant_of-self : goal.invariant_of-self
invariant_of-self c =
    subst (λ es. AreKept es c.self.inside.numbers.entries c.self.inside.listed) (sym c.give.ensures)
    (kept_given c.args.address.now c.args.epoch c.self.inside.known.entries c.self.inside.numbers.entries c.self.inside.listed c.self.invariant)
