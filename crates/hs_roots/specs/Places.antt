-- Where the retained roots stand among the records, for private clauses.
use Rattle.std.specs.Prelude.{◌≡◌, ℕ, List, Option, is_none}
use Rattle.std.specs.List.{position_from}
use Rattle.hs_roots.specs.declared.root.RootRecord.{RootRecord}
use Rattle.hs_roots.specs.ByKey.{StandByKey}
use Rattle.hs_roots.specs.Roots.{retains, retained_count}

-- the place of the root that is retained under a key
abbrev pub place_of : List ℕ → List RootRecord → Option ℕ
place_of key roots = position_from (retains key) 0 roots

-- the records stand by key, and a retained one is the last of its key
abbrev pub AreByKey : List RootRecord → Type 0
AreByKey roots = StandByKey (λ (root : RootRecord). root.key) (λ (root : RootRecord). is_none root.dropped) roots

-- that, and so many are retained
pub record AreKept (roots : List RootRecord) (retained : ℕ) : Type 0 where
  pub ordered : AreByKey roots
  pub counted : retained ≡ retained_count roots
