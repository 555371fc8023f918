-- A root more in a catalogue.
use Rattle.std.proofs.Common.{◌≡◌, ◌+◌, List, length}
use Rattle.hs_roots.specs.ByKey.{is_upto}
use Rattle.hs_roots.proofs.InsertLemmas.{longer}
use Rattle.hs_fold.specs.Runs.Clients.{insert_root}
use Rattle.hs_fold.specs.Runs.Facts.{RootFacts}

pub length-insert_root : (roots : List RootFacts) (new : RootFacts) → length (insert_root new roots) ≡ length roots + 1
length-insert_root roots new = longer (λ (r : RootFacts). is_upto r.root.key new.root.key) roots new
