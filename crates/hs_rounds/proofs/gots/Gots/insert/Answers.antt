use Rattle.hs_rounds.proofs.gots.Gots.insert.Goals as goal

pub returns-in-Ok-clause-found : goal.returns-in-Ok-clause-found
returns-in-Ok-clause-found c = rw (← c.self.view_is) c.in-Ok.ensures.updates.0
