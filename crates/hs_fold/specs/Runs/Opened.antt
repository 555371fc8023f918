-- The plain store of some catalogues, one for each shard, and that at which lists open.
use Rattle.std.specs.Prelude.{ℕ, ◌+◌, List, [], ◌∷◌, map, filter}
use Rattle.hs_model.specs.Inner.{stays}
use Rattle.hs_model.specs.Store.{Store}
use Rattle.hs_fold.specs.Opened.{chosen_each}
use Rattle.hs_fold.specs.Shards.Opened.{store_of as listed}
use Rattle.hs_fold.specs.Shards.Setting.{Numbered, Setting, shard_in}
use Rattle.hs_fold.specs.Runs.Catalogue.{catalogue_of}
use Rattle.hs_fold.specs.Runs.Facts.{Catalogue, plain}

-- the store without the roots that count in no epoch any more, as an enter leaves it
abbrev pub pruned : Store → Store
pruned s = record s { roots = filter (stays s) s.roots }

abbrev pub store_of : List Catalogue → Store
store_of cs = pruned (listed (map plain cs))

-- the catalogues of the lists that count, from a shard on
abbrev pub catalogues : Setting → ℕ → List Numbered → List Catalogue
catalogues set shard [] = []
catalogues set shard (list ∷ lists) = catalogue_of (shard_in set shard) list ∷ catalogues set (shard + 1) lists

-- the store at which the lists of the peers open
abbrev pub opened : Setting → List Numbered → Store
opened set lists = store_of (catalogues set 0 (chosen_each set.shape.shards set.shape.copies lists))
