-- The retention roots of a shard by key, and of one key in the order in which they were put, and how they change.
use Rattle.std.specs.Prelude.{ℕ, ◌+◌, Bool, false, not, ◌&&◌, ◌||◌, if◌then◌else◌, List, Option, Some, None, is_some, is_none, map, filter, find, count_by, bytes_eq, nat_le, nat_lt}
use Rattle.std.specs.Option.{option_map_or}
use Rattle.hs_limits.specs.declared.address.Address.{Address}
use Rattle.hs_roots.specs.declared.root.RootRecord.{RootRecord}
use Rattle.hs_roots.specs.ByKey.{insert_by_key}

-- the roots, and how many may be retained
pub record Retention : Type 0 where
  pub roots : List RootRecord
  pub limit : ℕ

-- ---- what is looked up

-- whether a root is retained under a key
abbrev pub retains : List ℕ → RootRecord → Bool
retains key root = is_none root.dropped && bytes_eq root.key key

-- the root that is retained under a key
abbrev pub retained_of : List ℕ → List RootRecord → Option RootRecord
retained_of key roots = find (retains key) roots

-- how many are retained
abbrev pub retained_count : List RootRecord → ℕ
retained_count roots = count_by (λ root. is_none root.dropped) roots

-- ---- keys

-- a root that is put in an epoch
abbrev pub new_root : List ℕ → Address → ℕ → RootRecord
new_root key a epoch = record { key = key; address = a; created = epoch; counted = false; dropped = None }

-- the roots with one more
abbrev pub insert_root : RootRecord → List RootRecord → List RootRecord
insert_root new roots = insert_by_key (λ (root : RootRecord). root.key) new roots

-- the key retains the address from this epoch on; one that is retained already stays as it is
abbrev pub put_root : List ℕ → Address → ℕ → List RootRecord → List RootRecord
put_root key a epoch roots = if is_some (retained_of key roots) then roots else insert_root (new_root key a epoch) roots

-- a root that is retained under the key becomes one that was dropped in this epoch
abbrev pub dropping : List ℕ → ℕ → RootRecord → RootRecord
dropping key epoch root = if retains key root then record root { dropped = Some epoch } else root

-- the key is not retained any more
abbrev pub drop_root : List ℕ → ℕ → List RootRecord → List RootRecord
drop_root key epoch roots = map (dropping key epoch) roots

-- ---- a deletion run

-- a run counts the roots that were put before its epoch and that no run has counted
abbrev pub is_new : ℕ → RootRecord → Bool
is_new epoch root = not root.counted && nat_lt root.created epoch

abbrev pub counting : ℕ → RootRecord → RootRecord
counting epoch root = record root { counted = root.counted || nat_lt root.created epoch }

abbrev pub count_new : ℕ → List RootRecord → List RootRecord
count_new epoch roots = map (counting epoch) roots

-- a run forgets the counted roots that were dropped in the second epoch before its own, or earlier
abbrev pub is_released : ℕ → RootRecord → Bool
is_released epoch root = root.counted && option_map_or (λ dropped. nat_le (dropped + 2) epoch) root.dropped false

abbrev pub release : ℕ → List RootRecord → List RootRecord
release epoch roots = filter (λ root. not (is_released epoch root)) roots

-- how many it forgets
abbrev pub released_count : ℕ → List RootRecord → ℕ
released_count epoch roots = count_by (is_released epoch) roots

-- the addresses that roots of a kind keep, in their order
abbrev pub kept_by : (RootRecord → Bool) → List RootRecord → List Address
kept_by kind roots = map (λ root. root.address) (filter kind roots)
