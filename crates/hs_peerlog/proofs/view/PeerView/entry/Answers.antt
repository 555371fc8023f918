use Rattle.std.proofs.Common.{◌≡◌, ap}
use Rattle.hs_peerlog.specs.Views.{Viewing}
use Rattle.hs_peerlog.proofs.view.PeerView.entry.Goals as goal

pub returns-clause-found : goal.returns-clause-found
returns-clause-found g c = λ told list has.
    let view : c.self.inside.log ≡ c.args.self.now.log = ap (λ (k : Viewing). k.log) c.self.view_is in
    c.entry_of.ensures.found told list (rw view has.frames) has.numbered

pub returns-clause-refused : goal.returns-clause-refused
returns-clause-refused g c = λ told list has.
    let view : c.self.inside.log ≡ c.args.self.now.log = ap (λ (k : Viewing). k.log) c.self.view_is in
    c.entry_of.ensures.refused told list (rw view has.frames) has.numbered
