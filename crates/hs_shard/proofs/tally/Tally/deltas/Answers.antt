use Rattle.std.proofs.Common.{sym, subst}
use Rattle.hs_rounds.specs.Changes.{AreChanges}
use Rattle.hs_shard.proofs.OutcomeLemmas.{if_ok_map}
use Rattle.hs_shard.proofs.TallyLemmas.{are_changes}
use Rattle.hs_shard.proofs.tally.Tally.deltas.Goals as goal

pub returns-clause-changes : goal.returns-clause-changes
returns-clause-changes c =
    if_ok_map c.deltas_of.result _ (λ d. AreChanges d.items) (λ d e. subst AreChanges (sym e) (are_changes c.self.inside.counts.entries c.self.invariant.ordered c.self.invariant.some)) c.deltas_of.ensures
