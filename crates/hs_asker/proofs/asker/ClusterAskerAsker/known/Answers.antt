use Rattle.hs_asker.proofs.KnownLemmas.{known_so}
use Rattle.hs_asker.proofs.asker.ClusterAskerAsker.known.Goals as goal

pub returns : goal.returns
returns g c = λ told. known_so g.D.Disk.tells _ g.H.Handed.entry _ c.self.invariant.1 told c.args.self.now c.self.view_is
