-- The plain store of some catalogues, one for each shard, and that at which lists open.
use Rattle.std.specs.Prelude.{ℕ, List, [], ◌∷◌, ◌+◌, map}
use Rattle.hs_limits.specs.declared.address.Address.{Address}
use Rattle.hs_model.specs.Store.{Root, Store, place_root}
use Rattle.hs_fold.specs.Catalogue.{Present}
use Rattle.hs_fold.specs.Opened.{both}
use Rattle.hs_fold.specs.Shards.Catalogue.{Catalogue, catalogue_of}
use Rattle.hs_fold.specs.Shards.Setting.{Numbered, Setting, shard_in}

-- the blocks of all shards by address
abbrev pub all_present : List Catalogue → List (Address × Present)
all_present [] = []
all_present (c ∷ cs) = both c.blocks (all_present cs)

-- the roots of two shards in the order of the plain store
abbrev pub both_roots : List Root → List Root → List Root
both_roots [] others = others
both_roots (r ∷ rs) others = place_root r (both_roots rs others)

-- the roots of all shards
abbrev pub all_roots : List Catalogue → List Root
all_roots [] = []
all_roots (c ∷ cs) = both_roots c.roots (all_roots cs)

-- the plain store, in which no session is open
abbrev pub store_of : List Catalogue → Store
store_of cs = record {
  blocks = map (λ e. (e.0, e.1.stored)) (all_present cs);
  given = map (λ e. (e.0, e.1.mark)) (all_present cs);
  roots = all_roots cs;
  epochs = map (λ c. c.epoch) cs;
  swept = map (λ c. c.swept) cs;
  sessions = [];
}

-- the catalogues of the lists that count, from a shard on
abbrev pub catalogues : Setting → ℕ → List Numbered → List Catalogue
catalogues set shard [] = []
catalogues set shard (list ∷ lists) = catalogue_of (shard_in set shard) list ∷ catalogues set (shard + 1) lists
