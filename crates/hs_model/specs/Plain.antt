-- A store without data, sessions and what they hold, as the plain store.
use Rattle.std.specs.Prelude.{◌≡◌, false, [], length, map, AllPairs}
use Rattle.std.specs.List.Sorted.{IsStrictlySortedBy}
use Rattle.std.specs.Map.{keys_of}
use Rattle.std.specs.Ordering.{is_gt}
use Rattle.hs_limits.specs.declared.address.Address.{Address}
use Rattle.hs_limits.specs.Shape.{IsShape}
use Rattle.hs_model.specs.declared.plain.PlainBlock.{PlainBlock}
use Rattle.hs_model.specs.declared.plain.PlainRoot.{PlainRoot}
use Rattle.hs_model.specs.declared.plain.PlainStore.{PlainStore}
use Rattle.hs_model.specs.declared.store.StoredBlock.{StoredBlock}
use Rattle.hs_model.specs.Store.{Store, Root, address_cmp, root_cmp}

-- a block without bytes, by its address
abbrev pub entry_of : PlainBlock → Address × StoredBlock
entry_of block = (block.address, record { pointers = block.pointers; bytes = []; born = block.born })

-- a root
abbrev pub root_of : PlainRoot → Root
root_of root = record { key = root.key; address = root.address; dropped = root.dropped }

-- the store that it is, with no data and no session
abbrev pub plain_of : PlainStore → Store
plain_of store = record {
  blocks = map entry_of store.blocks;
  given = map (λ held. (held.address, held.epoch)) store.given;
  roots = map root_of store.roots;
  epochs = store.epochs;
  swept = store.swept;
  sessions = [];
}

-- its shape is one, it has both numbers for each shard, and its lists are in the order of a store's
pub record IsPlain (store : PlainStore) : Type 0 where
  pub shape : IsShape store.shape
  pub epochs : length store.epochs ≡ store.shape.shards
  pub swept : length store.swept ≡ store.shape.shards
  pub blocks : IsStrictlySortedBy address_cmp (keys_of (plain_of store).blocks)
  pub given : IsStrictlySortedBy address_cmp (keys_of (plain_of store).given)
  pub roots : AllPairs (λ first later. is_gt (root_cmp first later) ≡ false) (plain_of store).roots
