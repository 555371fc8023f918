-- What a shard has in the plain store: its blocks without their data, what was given, its roots and its epochs, each in its place.
use Rattle.std.specs.Prelude.{ℕ, List, [], ◌∷◌, slice_set}
use Rattle.std.specs.BTreeMap.{insert_entry}
use Rattle.hs_limits.specs.declared.address.Address.{Address}
use Rattle.hs_model.specs.declared.store.StoredBlock.{StoredBlock}
use Rattle.hs_model.specs.Store.{Root, Store, address_cmp, place_root}
use Rattle.hs_roots.specs.declared.root.RootRecord.{RootRecord}
use Rattle.hs_shard.specs.declared.facts.Facts.{Facts}
use Rattle.hs_shard.specs.Facts.{BlockList, Catalogue}

-- a block without its data
abbrev pub plain_block : Facts → StoredBlock
plain_block f = record { pointers = f.pointers; bytes = []; born = f.born }

-- some blocks more, each at its address
abbrev pub add_blocks : BlockList → List (Address × StoredBlock) → List (Address × StoredBlock)
add_blocks [] blocks = blocks
add_blocks (e ∷ es) blocks = add_blocks es (insert_entry address_cmp blocks e.0 (plain_block e.1))

-- and the epoch in which a write gave each last
abbrev pub add_given : BlockList → List (Address × ℕ) → List (Address × ℕ)
add_given [] given = given
add_given (e ∷ es) given = add_given es (insert_entry address_cmp given e.0 e.1.mark)

-- a root without what deletion runs know of it
abbrev pub plain_root : RootRecord → Root
plain_root r = record { key = r.key; address = r.address; dropped = r.dropped }

-- some roots more, each in its place
abbrev pub add_roots : List RootRecord → List Root → List Root
add_roots [] roots = roots
add_roots (r ∷ rs) roots = add_roots rs (place_root (plain_root r) roots)

-- a plain store with what a shard has
abbrev pub add_shard : Catalogue → Store → Store
add_shard c s = record s {
  blocks = add_blocks c.blocks s.blocks;
  given = add_given c.blocks s.given;
  roots = add_roots c.roots s.roots;
  epochs = slice_set s.epochs c.shard c.epoch;
  swept = slice_set s.swept c.shard c.swept;
}
