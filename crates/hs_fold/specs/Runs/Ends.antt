-- What the end of a round may do where it is to agree with the plain store.
use Rattle.std.specs.Prelude.{◌≡◌, ℕ, true, false, Contains}
use Rattle.std.specs.Prelude.{List}
use Rattle.hs_limits.specs.declared.address.Address.{Address}
use Rattle.hs_model.specs.Inner.{stays}
use Rattle.hs_model.specs.Reach.{is_swept}
use Rattle.hs_fold.specs.Runs.Facts.{Facts, RootFacts, Catalogue}
use Rattle.hs_fold.specs.Runs.Fits.{catalogue_at}
use Rattle.hs_fold.specs.Runs.Opened.{store_of}
use Rattle.hs_fold.specs.Runs.Rounds.{is_released, is_gone}

-- each root that the end of a shard's open round releases counts in no epoch any more
abbrev pub ReleasesLate : List Catalogue → ℕ → Type 0
ReleasesLate cs shard =
    (r : RootFacts) → Contains (catalogue_at cs shard).roots r → is_released (catalogue_at cs shard) r ≡ true → stays (store_of cs) r.root ≡ false

-- the zero blocks that go where it is a last one are those that the plain store's sweep takes
abbrev pub TakesTheUnreached : List Catalogue → ℕ → Type 0
TakesTheUnreached cs shard =
    (e : Address × Facts) → Contains (catalogue_at cs shard).blocks e
    → is_gone (catalogue_at cs shard).epoch e.1 ≡ is_swept (store_of cs) (catalogue_at cs shard).epoch shard (e.0, e.1.present.stored)
