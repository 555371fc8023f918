use Rattle.hs_effects.proofs.SweepLemmas.{quiet, swept}
use Rattle.hs_effects.proofs.shards.a_got_is_silent_or_a_sweep.Goals as goal

pub returns-clause-sweeps : goal.returns-clause-sweeps
returns-clause-sweeps c = λ name cs core shard sender epoch round total deltas its may comes.
    swept c.views_show_the_store.ensures.shown name cs core shard sender epoch round total deltas its may comes

pub returns-clause-silent : goal.returns-clause-silent
returns-clause-silent c = λ name cs core shard sender epoch round total deltas its may stays.
    quiet c.views_show_the_store.ensures.shown name cs core shard sender epoch round total deltas its may stays
