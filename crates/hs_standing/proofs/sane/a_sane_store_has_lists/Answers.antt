use Rattle.hs_standing.proofs.SaneLemmas.{front_sealed, front_within, good_counts, good_counts_after, reach_numbered, waits_in_core}
use Rattle.hs_standing.proofs.sane.a_sane_store_has_lists.Goals as goal

pub returns-clause-counted : goal.returns-clause-counted
returns-clause-counted c = λ whole sane. good_counts whole sane

pub returns-clause-after : goal.returns-clause-after
returns-clause-after c = λ whole event moment. good_counts_after whole event moment

pub returns-clause-sealed : goal.returns-clause-sealed
returns-clause-sealed c = λ whole peer sane good. front_sealed whole peer sane good

pub returns-clause-numbered : goal.returns-clause-numbered
returns-clause-numbered c = λ whole shard sane low. reach_numbered whole shard sane low

pub returns-clause-within : goal.returns-clause-within
returns-clause-within c = λ whole shard sane low. front_within whole shard sane low

pub returns-clause-waits : goal.returns-clause-waits
returns-clause-waits c = λ whole shard sane low. waits_in_core whole shard sane low
