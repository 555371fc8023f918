-- What entries do along a history.
use Rattle.std.specs.Prelude.{◌≡◌, ◌≤◌, List, [], ◌∷◌, length, All, Option, Some, None}
use Rattle.hs_model.specs.Store.{Store}
use Rattle.hs_laws.specs.Valid.{IsValid}
use Rattle.hs_fold.specs.Lawful.{Deed}
use Rattle.hs_fold.specs.Shards.Happening.{Happening, MayHappen, happen_by}
use Rattle.hs_fold.specs.Shards.Setting.{Setting, shard_in}
use Rattle.hs_fold.specs.Shards.Sound.{most_records}
use Rattle.hs_fold.specs.Runs.Facts.{Catalogue}
use Rattle.hs_fold.specs.Runs.Fits.{catalogue_at}
use Rattle.hs_fold.specs.Runs.Happening.{happening_of}
use Rattle.hs_fold.specs.Runs.History.{follow}
use Rattle.hs_fold.specs.Runs.Opened.{store_of}

-- no shard has more root records than it takes
abbrev pub HaveFewRecords : List Catalogue → Type 0
HaveFewRecords cs = All (λ c. length c.roots ≤ most_records) cs

-- nor behind any of some entries
abbrev pub KeepFewRecords : Setting → List Catalogue → List Deed → Type 0
KeepFewRecords set cs [] = Unit {0}
KeepFewRecords set cs (deed ∷ deeds) = HaveFewRecords (follow set cs deed) × KeepFewRecords set (follow set cs deed) deeds

-- what happens by an entry
abbrev pub happening_by : Setting → List Catalogue → Deed → Option Happening
happening_by set cs deed = happening_of (shard_in set deed.shard) (catalogue_at cs deed.shard) deed.entry

-- it may come, where something happens
abbrev pub MayHappenBy : Store → Option Happening → Type 0
MayHappenBy s None = Unit {0}
MayHappenBy s (Some one) = MayHappen s one

-- an entry does to the plain store what it says, which is allowed there, and leaves it valid
pub record DoesItsPart (set : Setting) (cs : List Catalogue) (deed : Deed) : Type 0 where
  pub store : store_of (follow set cs deed) ≡ happen_by (store_of cs) (happening_by set cs deed)
  pub allowed : MayHappenBy (store_of cs) (happening_by set cs deed)
  pub valid : IsValid (store_of (follow set cs deed))

-- so does each of some, one after another
abbrev pub EachDoesItsPart : Setting → List Catalogue → List Deed → Type 0
EachDoesItsPart set cs [] = Unit {0}
EachDoesItsPart set cs (deed ∷ deeds) = DoesItsPart set cs deed × EachDoesItsPart set (follow set cs deed) deeds
