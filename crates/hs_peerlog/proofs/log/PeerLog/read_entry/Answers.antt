use Rattle.std.proofs.Common.{◌≡◌, ap, inl}
use Rattle.hs_peerlog.specs.Lists.{Keeping}
use Rattle.hs_peerlog.proofs.log.PeerLog.read_entry.Goals as goal

pub returns-clause-found : goal.returns-clause-found
returns-clause-found g c = λ told list waiting kept.
    let view : c.self.inside.log ≡ c.args.self.now.log = ap (λ (k : Keeping). k.log) c.self.view_is in
    c.entry_of.ensures.found told list (rw view (inl kept.listed)) kept.numbered

pub returns-clause-refused : goal.returns-clause-refused
returns-clause-refused g c = λ told.
    let view : c.self.inside.log ≡ c.args.self.now.log = ap (λ (k : Keeping). k.log) c.self.view_is in
    let some = c.requires.ready.told told in
    c.entry_of.ensures.refused told some.list (rw view (inl some.kept.listed)) some.kept.numbered
