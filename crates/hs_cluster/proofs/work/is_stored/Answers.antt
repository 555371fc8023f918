use Rattle.std.proofs.Common.{◌∙◌, sym}
use Rattle.hs_cluster.proofs.FindLemmas.{stored_here}
use Rattle.hs_cluster.proofs.work.is_stored.Goals as goal

pub returns-then-facts-number : goal.returns-then-facts-number
returns-then-facts-number c =
    sym (stored_here c.args.number c.loop-place.place c.args.catalogue.now.blocks c.in-Some.facts c.loop-place.invariant (sym c.facts.ensures ∙ c.in-Some.is) c.if-facts-number.true)
