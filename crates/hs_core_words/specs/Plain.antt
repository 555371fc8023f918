-- The plain store of a core: what its catalogues have.
use Rattle.std.specs.Prelude.{List, [], ◌∷◌, length}
use Rattle.hs_core_words.specs.State.{Core}
use Rattle.hs_fold.specs.Runs.Opened.{pruned}
use Rattle.hs_model.specs.Store.{Store, empty_store}
use Rattle.hs_shard.specs.Facts.{Catalogue}
use Rattle.hs_shard.specs.Plain.{add_shard}

-- some shards put into a plain store, one after another
abbrev pub add_shards : List Catalogue → Store → Store
add_shards [] s = s
add_shards (c ∷ cs) s = add_shards cs (add_shard c s)

-- what all shards have, put into the empty store, without the roots that count in no epoch any more
abbrev pub plain_store : Core → Store
plain_store core = pruned (add_shards core.catalogues (empty_store (length core.catalogues)))
