-- The counts: how often an address is named by what counts, and what is on its way to it.
use Rattle.std.specs.Prelude.{◌≡◌, ℕ, ◌+◌, not, ◌&&◌, if◌then◌else◌, sum_by}
use Rattle.hs_limits.specs.declared.address.Address.{Address}
use Rattle.hs_deletion.specs.Reached.{Member}
use Rattle.hs_deletion.specs.Records.{BlockRecord, RootRecord}
use Rattle.hs_deletion.specs.Machine.{Layout, Machine}
use Rattle.hs_deletion.specs.Rounds.{times, raised_in, lowered_in}
use Rattle.hs_deletion.specs.Anchors.{IsThere}

-- how often a block names an address: it counts where it is counted and no zero block
unfoldable pub block_weight : Address → BlockRecord → ℕ
block_weight a b = if b.counted && not b.zero then times a b.pointers else 0

-- how often a root does, where it is counted
unfoldable pub root_weight : Address → RootRecord → ℕ
root_weight a r = if r.counted then times a r.addresses else 0

-- how often an address is named by all of them
unfoldable pub indegree : Machine → Address → ℕ
indegree m a = sum_by (block_weight a) m.blocks + sum_by (root_weight a) m.roots

-- how often an address is raised on its way: by the two rows that its shard completes next; nothing is sent after them
abbrev pub raised_on_way : Layout → Machine → Address → ℕ
raised_on_way layout m a =
    let next : ℕ = (m.states (layout.home a)).completed in
    raised_in layout m.states next a + raised_in layout m.states (next + 1) a

-- how often it is lowered on its way
abbrev pub lowered_on_way : Layout → Machine → Address → ℕ
lowered_on_way layout m a =
    let next : ℕ = (m.states (layout.home a)).completed in
    lowered_in layout m.states next a + lowered_in layout m.states (next + 1) a

-- a count and what is yet to raise it make up how often the address is named and what is yet to lower it
abbrev pub IsCount : Layout → Machine → Address → ℕ → Type 0
IsCount layout m a count = count + raised_on_way layout m a ≡ indegree m a + lowered_on_way layout m a

-- so it is for the count of each present block, and for 0 where none is present
pub record AreCountsRight (layout : Layout) (m : Machine) : Type 0 where
  pub present : (b : BlockRecord) → Member b m.blocks → IsCount layout m b.address b.count
  pub absent : (a : Address) → ¬ IsThere m.blocks a → IsCount layout m a 0
