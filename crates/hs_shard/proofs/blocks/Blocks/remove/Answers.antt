use Rattle.std.proofs.Common.{sym, subst, arith}
use Rattle.hs_shard.specs.Listed.{AreKept, kind_of}
use Rattle.hs_shard.proofs.KeptLemmas.{Unlists, kept_removed}
use Rattle.hs_shard.proofs.blocks.Blocks.remove.Goals as goal

pub invariant_of-self-2 : goal.invariant_of-self-2
invariant_of-self-2 c =
    let unlists : Unlists c.self.inside.listed c.unlist.new.self c.args.address.now (kind_of c.in-Some.facts) =
    subst (λ kind. Unlists c.self.inside.listed c.unlist.new.self c.args.address.now kind) c.kind_as-kind.ensures c.unlist.ensures in
    kept_removed c.args.address.now c.in-Some.facts c.self.inside.known.entries c.remove.new.self.entries c.self.inside.numbers.entries c.remove-2.new.self.entries c.self.inside.listed c.unlist.new.self c.self.invariant
    (sym c.in-Some.ensures.value) c.in-Some.ensures.updates.0 c.remove-2.ensures.updates.0 unlists (omega (arith, c.in-Some.ensures.len)) c.in-Some.ensures.ordered

pub invariant_of-self : goal.invariant_of-self
invariant_of-self c = subst (λ es. AreKept es c.self.inside.numbers.entries c.self.inside.listed) (sym c.in_default.ensures.unchanged) c.self.invariant
