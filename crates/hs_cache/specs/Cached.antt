-- What a contract sees of a cache.
use Rattle.std.specs.Prelude.{ℕ, ◌==◌, ◌&&◌, Bool, Contains, List, [], None, Option, Some}
use Rattle.lru.specs.LruCache.{LruCache, lru_cache, promoted, put_entries}

-- a shard, and a number of an entry of it
abbrev pub Key : Type 0
Key = ℕ × ℕ

abbrev pub Pairs : Type 0
Pairs = List (Key × List ℕ)

-- what is kept, the last used first, and how much there may be
abbrev pub Cached : Type 0
Cached = LruCache Key (List ℕ)

abbrev pub cached : Pairs → ℕ → Cached
cached pairs most = lru_cache pairs most

-- whether two keys are the same
abbrev pub is_same : Key → Key → Bool
is_same a b = a.0 == b.0 && a.1 == b.1

abbrev pub is_key : ℕ → ℕ → Key → Bool
is_key shard number = is_same (shard, number)

-- what is kept, with that of a number in front, where it is there
abbrev pub promoted_at : ℕ → ℕ → Pairs → Pairs
promoted_at shard number pairs = promoted (is_key shard number) pairs

-- with these bytes in front; where there is no such number the last one of a full cache goes
abbrev pub put_at : ℕ → ℕ → List ℕ → Cached → Pairs
put_at shard number bytes cache = put_entries is_same cache (shard, number) bytes

-- the cache behind that
abbrev pub with_pair : ℕ → ℕ → List ℕ → Cached → Cached
with_pair shard number bytes cache = cached (put_at shard number bytes cache) cache.cap

-- ---- a cache, or none

-- what is kept: nothing where there is none
abbrev pub pairs_of : Option Cached → Pairs
pairs_of None = []
pairs_of (Some cache) = cache.entries

-- nothing is kept that was not
abbrev pub HasNoMore : Option Cached → Option Cached → Type 0
HasNoMore old new = (pair : Key × List ℕ) → Contains (pairs_of new) pair → Contains (pairs_of old) pair
