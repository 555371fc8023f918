-- What a round says, and what a row of rounds says of an address.
use Rattle.std.specs.Prelude.{ℕ, ◌+◌, Bool, List, [], ◌++◌, filter, flat_map, count_by}
use Rattle.hs_limits.specs.declared.address.Address.{Address}
use Rattle.hs_model.specs.Reach.{is_same}
use Rattle.hs_deletion.specs.Records.{BlockRecord, RootRecord, begins, root_begins, is_found, is_released}
use Rattle.hs_deletion.specs.Machine.{Layout, Round, ShardState, sum_below}

-- how often an address stands in a list
unfoldable pub times : Address → List Address → ℕ
times a addresses = count_by (is_same a) addresses

-- the pointers of the blocks that pass a test
unfoldable pub pointers_where : (BlockRecord → Bool) → List BlockRecord → List Address
pointers_where test blocks = flat_map (λ b. b.pointers) (filter test blocks)

-- the addresses of the roots that do
unfoldable pub addresses_where : (RootRecord → Bool) → List RootRecord → List Address
addresses_where test roots = flat_map (λ r. r.addresses) (filter test roots)

-- ---- what a shard sends

-- round 0 of a run raises what begins to count
abbrev pub first_round : ℕ → List BlockRecord → List RootRecord → Round
first_round epoch blocks roots = record {
  raises = pointers_where (begins epoch) blocks ++ addresses_where (root_begins epoch) roots;
  lowers = [];
  total = 0;
}

-- each later round lowers what the new zero blocks and the released roots name
abbrev pub next_round : ℕ → ℕ → List BlockRecord → List RootRecord → Round
next_round round epoch blocks roots = record {
  raises = [];
  lowers = pointers_where (is_found epoch) blocks ++ addresses_where (is_released round epoch) roots;
  total = count_by (is_found epoch) blocks + count_by (is_released round epoch) roots;
}

-- ---- rows

-- how often the rounds of a row raise an address
unfoldable pub raised_in : Layout → (ℕ → ShardState) → ℕ → Address → ℕ
raised_in layout states n a = sum_below layout.shards (λ shard. times a ((states shard).rounds n).raises)

-- how often they lower it
unfoldable pub lowered_in : Layout → (ℕ → ShardState) → ℕ → Address → ℕ
lowered_in layout states n a = sum_below layout.shards (λ shard. times a ((states shard).rounds n).lowers)

-- the sum of their totals
unfoldable pub total_in : Layout → (ℕ → ShardState) → ℕ → ℕ
total_in layout states n = sum_below layout.shards (λ shard. ((states shard).rounds n).total)
