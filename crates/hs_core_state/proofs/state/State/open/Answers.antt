use Rattle.hs_core_state.proofs.OpenLemmas.{none_joins}
use Rattle.hs_core_state.proofs.state.State.open.Goals as goal

pub open_lists-requires-clause-joins : goal.open_lists-requires-clause-joins
open_lists-requires-clause-joins c peer = rw c.in-Ok.ensures.members (none_joins c.as_slice-2.result.now peer)
