use Rattle.hs_core_state.proofs.state.State.next_coming.Goals as goal

pub returns : goal.returns
returns c = rw c.group.ensures at c.first_block.ensures
