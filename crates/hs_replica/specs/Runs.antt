-- The views of a list's entries, kept as runs of one view.
use Rattle.std.specs.Prelude.{ℕ, ◌-◌, ◌<◌, List, [], ◌∷◌, ◌++◌, replicate}
use Rattle.hs_replica.specs.declared.stamps.Run.{Run}

-- the views of the entries behind the first n, of which each run says up to which number its view goes
abbrev pub expand : ℕ → List Run → List ℕ
expand n [] = []
expand n (run ∷ runs) = replicate (run.end - n) run.view ++ expand run.end runs

-- where the last run ends
abbrev pub end_of : ℕ → List Run → ℕ
end_of n [] = n
end_of n (run ∷ runs) = end_of run.end runs

-- each run ends behind the one before
abbrev pub AreRuns : ℕ → List Run → Type 0
AreRuns n [] = Unit
AreRuns n (run ∷ runs) = (n < run.end) × AreRuns run.end runs
