use Rattle.hs_asker.proofs.KnownLemmas.{held_so}
use Rattle.hs_asker.proofs.asker.ClusterAskerAsker.held.Goals as goal

pub returns : goal.returns
returns g c = λ told. held_so g.D.Disk.tells _ g.H.Handed.entry _ c.self.invariant.1 told c.args.self.now c.self.view_is c.requires c.args.session.now c.args.handle c.held.result c.held.ensures
