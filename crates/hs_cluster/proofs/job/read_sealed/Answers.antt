use Rattle.std.proofs.Common.{◌≡◌, ◌∙◌, None, Some, sym}
use Rattle.hs_cluster.proofs.job.read_sealed.Goals as goal

-- an entry that is kept is found
pub returns-in-None-clause-refused : goal.returns-in-None-clause-refused
returns-in-None-clause-refused g c = λ told list waiting entry kept found.
    let wrong : None ≡ Some entry = sym (sym (c.in_ok-entry.ensures.found told list waiting kept) ∙ c.in-None.is) ∙ found in absurd (cc wrong)
