use Rattle.hs_replica.proofs.group.Group.first_block.Goals as goal

pub returns : goal.returns
returns c = rw (← c.self.view_is) c.first_block.ensures
