-- How many root records a shard takes.
use Rattle.std.specs.Prelude.{ℕ, ◌+◌, ◌≤◌, Bool, Option, count_by, find, length, nat_lt}
use Rattle.hs_core_words.specs.Looking.{catalogue_of, group_of, shards_of}
use Rattle.hs_core_words.specs.State.{Core}
use Rattle.hs_replica.specs.Kinds.{is_root}

-- the most root records of a shard, retained and dropped, with the Roots that wait
abbrev pub most_records : ℕ
most_records = 16777216

-- the root records of a shard, and the Roots of its lead's list that have not taken effect
abbrev pub records_in : ℕ → Core → ℕ
records_in shard core = length (catalogue_of shard core).roots + count_by is_root (group_of shard core).waiting

-- each shard has no more of them than it takes
abbrev pub HasRecordRoom : Core → Type 0
HasRecordRoom core = (shard : ℕ) → records_in shard core ≤ most_records

-- a shard has more
abbrev pub is_overfull : ℕ → Core → Bool
is_overfull shard core = nat_lt most_records (records_in shard core)

-- the first shard that has more
abbrev pub overfull_shard : Core → Option ℕ
overfull_shard core = find (λ shard. is_overfull shard core) (shards_of core)
