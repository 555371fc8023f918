use Rattle.hs_deletion.proofs.PromiseLemmas.{fresh_is_reached}
use Rattle.hs_deletion.proofs.history.what_may_be_used_is_backed.Goals as goal

pub returns : goal.returns
returns c = record { backed = fresh_is_reached }
