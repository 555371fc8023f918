use Rattle.hs_tree.proofs.EndLemmas.{begin_stops, begin_unwritten, begins}
use Rattle.hs_tree.proofs.store.begin.Goals as goal

pub returns-clause-ok : goal.returns-clause-ok
returns-clause-ok g c = begins c.open.result _ _ _ _ c.requires.ours c.requires.idle c.known.ensures c.open.ensures.ok

pub returns-clause-err : goal.returns-clause-err
returns-clause-err g c = begin_stops c.open.result _ _ _ _ c.requires.ours c.requires.going c.requires.idle c.known.ensures c.open.ensures.err

pub returns-clause-unwritten : goal.returns-clause-unwritten
returns-clause-unwritten g c = begin_unwritten c.open.result _ _ _ _ c.requires.ours c.requires.idle c.known.ensures c.open.ensures.err
