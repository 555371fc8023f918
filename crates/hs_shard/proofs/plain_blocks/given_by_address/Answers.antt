use Rattle.std.proofs.Common.{List, sym, subst}
use Rattle.hs_limits.specs.declared.address.Held.{Held}
use Rattle.hs_shard.specs.Adding.{AscendGiven}
use Rattle.hs_shard.proofs.PlainLemmas.{given_taken}
use Rattle.hs_shard.proofs.plain_blocks.given_by_address.Goals as goal

pub loop-held-preserved : goal.loop-held-preserved
loop-held-preserved c =
    given_taken c.into_vec-rest.result.items c.loop-held.rest.items c.pop.new.self.items c.in-Some.held c.loop-held.epochs.entries c.insert.new.self.entries
    (subst (λ (z : List Held). AscendGiven z) (sym c.into_vec-rest.ensures) c.requires) c.in-Some.ensures.items c.loop-held.invariant c.in_ok-insert.ensures.entries
