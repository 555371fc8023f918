-- What an operation does to the plain store that no session asks for any more.
use Rattle.std.specs.Prelude.{ℕ, ◌+◌, Bool, ◌&&◌, if◌then◌else◌, List, None, is_none, nat_le}
use Rattle.std.specs.BTreeMap.{insert_entry}
use Rattle.hs_limits.specs.declared.address.Address.{Address}
use Rattle.hs_limits.specs.Block.{Block}
use Rattle.hs_limits.specs.Limits.{greatest_limits}
use Rattle.hs_model.specs.Judge.{drop_root, roots_with}
use Rattle.hs_model.specs.Refusals.{shard_full, key_taken, roots_full}
use Rattle.hs_model.specs.Store.{Store, address_cmp, epoch_at, root_epoch, retained_at, with_block, with_roots}

-- a block is stored, or given again; a root is put, or dropped: with the least epoch in which what it rests on was given
pub data Change : Type 0 where
  stores : ℕ → Address → Block → Change
  gives : ℕ → Address → Change
  keeps : ℕ → Address → List ℕ → Change
  drops : List ℕ → Change

-- pointers that were given in an epoch may still be used in a block of this address
abbrev pub is_usable : Store → ℕ → Address → Bool
is_usable s least a = nat_le (epoch_at s a) (least + 1)

-- what was held in an epoch may still be used under this key
abbrev pub is_usable_key : Store → ℕ → List ℕ → Bool
is_usable_key s held key = nat_le (root_epoch s key) (held + 1)

-- a block is not refused: as stale, or since its shard is full
abbrev pub may_store : Store → ℕ → Address → Bool
may_store s least a = is_usable s least a && is_none (shard_full greatest_limits s a)

-- nor is a root: as stale, since its key retains another address, or since its shard is full
abbrev pub may_keep : Store → ℕ → Address → List ℕ → Bool
may_keep s held a key = (is_usable_key s held key && is_none (key_taken s key a)) && is_none (roots_full greatest_limits s key)

-- the store after it; one that is refused leaves it
abbrev pub change : Store → Change → Store
change s (stores least a block) = if may_store s least a then with_block s a block else s
change s (gives least a) = if is_usable s least a then record s { given = insert_entry address_cmp s.given a (epoch_at s a) } else s
change s (keeps held a key) = if may_keep s held a key then with_roots s (roots_with (retained_at s key) s.roots (record { key = key; address = a; dropped = None })) else s
change s (drops key) = with_roots s (drop_root (retained_at s key) s.roots key (root_epoch s key))
