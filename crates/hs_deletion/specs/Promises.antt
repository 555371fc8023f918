-- What is promised of a machine that a lawful history makes.
use Rattle.std.specs.Prelude.{◌≡◌, ◌⊎◌, ℕ, ◌+◌, ◌<◌, ◌≤◌, true, false, not, List, length, count_by}
use Rattle.hs_limits.specs.declared.address.Address.{Address}
use Rattle.hs_deletion.specs.Reached.{Member}
use Rattle.hs_deletion.specs.Records.{BlockRecord}
use Rattle.hs_deletion.specs.Machine.{Layout, Machine, empty_round}
use Rattle.hs_deletion.specs.Rounds.{total_in}
use Rattle.hs_deletion.specs.Anchors.{IsThere, IsReachedIn}
use Rattle.hs_deletion.specs.Counts.{indegree, raised_on_way, lowered_on_way}
use Rattle.hs_deletion.specs.History.{is_last, after_effect, MayEnter, MayComplete}
use Rattle.hs_deletion.specs.History.Effect.{Completes}

-- a zero block that the run of its shard's epoch reaches was given in that epoch
abbrev pub HasNoWrongZero : Layout → Machine → Type 0
HasNoWrongZero layout m = (b : BlockRecord) → Member b m.blocks →
    let epoch : ℕ = (m.states (layout.home b.address)).epoch in
    b.zero ≡ true → IsReachedIn m epoch b.address → b.mark ≡ epoch

-- all have sent the row that a shard completes next, and it is the last of its run
pub record IsAtTheLast (layout : Layout) (m : Machine) (shard : ℕ) : Type 0 where
  pub within : shard < layout.shards
  pub late : 1 ≤ (m.states shard).round
  pub sent : (other : ℕ) → other < layout.shards → (m.states shard).completed < (m.states other).sent
  pub none : total_in layout m.states (m.states shard).completed ≡ 0

-- a block is of the shard, was born before its epoch, and no anchor of that run reaches it
pub record IsOutOfReach (layout : Layout) (m : Machine) (shard : ℕ) (b : BlockRecord) : Type 0 where
  pub of_shard : layout.home b.address ≡ shard
  pub older : b.born < (m.states shard).epoch
  pub unreached : ¬ IsReachedIn m (m.states shard).epoch b.address

-- there each block that is out of reach is a zero block that no write gave in the epoch
abbrev pub HasEachZero : Layout → Machine → Type 0
HasEachZero layout m = (shard : ℕ) → IsAtTheLast layout m shard →
    (b : BlockRecord) → Member b m.blocks → IsOutOfReach layout m shard b → (b.zero ≡ true) × (b.mark < (m.states shard).epoch)

-- two blocks are one, but for what runs know of it
pub record IsSameBlock (b c : BlockRecord) : Type 0 where
  pub address : b.address ≡ c.address
  pub pointers : b.pointers ≡ c.pointers
  pub born : b.born ≡ c.born
  pub mark : b.mark ≡ c.mark

-- of the old blocks exactly those that are out of reach are gone, and no other is there
pub record RemovesExactly (layout : Layout) (old : Machine) (shard : ℕ) (new : List BlockRecord) : Type 0 where
  pub removed : (b : BlockRecord) → Member b old.blocks → IsOutOfReach layout old shard b → ¬ IsThere new b.address
  pub kept : (b : BlockRecord) → Member b old.blocks → ¬ IsOutOfReach layout old shard b
      → (c : BlockRecord) × Member c new × IsSameBlock b c
  pub only : (c : BlockRecord) → Member c new → (b : BlockRecord) × Member b old.blocks × IsSameBlock b c

-- nothing that counts names the address, and nothing on its way does
pub record IsUnnamed (layout : Layout) (m : Machine) (a : Address) : Type 0 where
  pub indegree : indegree m a ≡ 0
  pub raised : raised_on_way layout m a ≡ 0
  pub lowered : lowered_on_way layout m a ≡ 0

-- ---- sweeps

-- each sweep of a machine removes exactly what is out of reach
abbrev pub SweepsExactly : Layout → Machine → Type 0
SweepsExactly layout m = (shard : ℕ) → MayComplete layout m shard → is_last layout shard m ≡ true
    → RemovesExactly layout m shard (after_effect layout (Completes shard) m).blocks

-- ---- the course of runs

-- epochs differ by at most one; no shard has sent more than two rounds that another has not completed; and what a shard has not sent
-- says nothing
pub record AreInStep (layout : Layout) (m : Machine) : Type 0 where
  pub epochs : (shard other : ℕ) → shard < layout.shards → other < layout.shards → (m.states shard).epoch ≤ (m.states other).epoch + 1
  pub sent : (shard other : ℕ) → shard < layout.shards → other < layout.shards → (m.states other).sent ≤ (m.states shard).completed + 2
  pub silent : (shard n : ℕ) → shard < layout.shards → (m.states shard).sent ≤ n → (m.states shard).rounds n ≡ empty_round

-- a shard can go on with the run that another is in: it may complete a row, or it may enter that run
abbrev pub CanGoOn : Layout → Machine → ℕ → ℕ → Type 0
CanGoOn layout m other shard =
    MayComplete layout m shard ⊎ MayEnter layout m shard × ((m.states other).epoch ≡ (m.states shard).epoch + 1)

-- while a shard is in a run, some shard can go on with it
abbrev pub GoesOn : Layout → Machine → Type 0
GoesOn layout m = (shard : ℕ) → shard < layout.shards → (m.states shard).swept < (m.states shard).epoch
    → (other : ℕ) × CanGoOn layout m shard other

-- what a run may still find: the blocks that are no zero blocks, and the roots
unfoldable pub remaining : Machine → ℕ
remaining m = count_by (λ b. not b.zero) m.blocks + length m.roots

-- a search leaves exactly so many fewer as the round that it sends tells
abbrev pub LowersRemaining : Layout → Machine → Type 0
LowersRemaining layout m = (shard : ℕ) → is_last layout shard m ≡ false →
    let next : Machine = after_effect layout (Completes shard) m in
    remaining next + ((next.states shard).rounds (m.states shard).sent).total ≡ remaining m
