-- What holds of the machine along every lawful history.
use Rattle.std.specs.Prelude.{◌≡◌, ◌≢◌, ◌⊎◌, ℕ, ◌+◌, ◌-◌, ◌≤◌, ◌<◌, true, false}
use Rattle.hs_limits.specs.declared.address.Address.{Address}
use Rattle.hs_deletion.specs.Reached.{Member}
use Rattle.hs_deletion.specs.Records.{BlockRecord, RootRecord}
use Rattle.hs_deletion.specs.Machine.{Layout, ShardState, Machine}
use Rattle.hs_deletion.specs.Anchors.{IsThere, PointsTo, IsGivenSince, NotBefore, IsReachedIn}
use Rattle.hs_deletion.specs.Counts.{AreCountsRight}
use Rattle.hs_deletion.specs.Clocks.{label_of, AreClocksRight}
use Rattle.hs_deletion.specs.Promises.{HasNoWrongZero, HasEachZero}

-- a zero block of a shard is counted and has count 0; the shard is in round 1 or later of a run, and the block was given in its
-- epoch, or not since two epochs before
pub record IsZeroRight (s : ShardState) (b : BlockRecord) : Type 0 where
  pub counted : b.counted ≡ true
  pub none : b.count ≡ 0
  pub running : s.swept < s.epoch
  pub late : 1 ≤ s.round
  pub mark : (b.mark + 2 ≤ s.epoch) ⊎ (b.mark ≡ s.epoch)

-- a block of a shard was given between its birth and now; it is uncounted only where it was given in this epoch, counted only
-- where it is older, and in a run each older one is counted
pub record IsBlockRight (s : ShardState) (b : BlockRecord) : Type 0 where
  pub born : b.born ≤ b.mark
  pub mark : b.mark ≤ s.epoch
  pub uncounted : (b.counted ≡ true) ⊎ (b.mark ≡ s.epoch)
  pub counted : b.counted ≡ true → b.born < s.epoch
  pub running : s.swept < s.epoch → b.born < s.epoch → b.counted ≡ true
  pub is_zero : b.zero ≡ true → IsZeroRight s b

-- a root of a shard likewise; where it still counts in round 1 or later, it was not dropped before the epoch before
pub record IsRootRight (s : ShardState) (r : RootRecord) : Type 0 where
  pub created : r.created ≤ s.epoch
  pub dropped : NotBefore r.created r.dropped
  pub uncounted : (r.counted ≡ true) ⊎ (r.created ≡ s.epoch)
  pub counted : r.counted ≡ true → r.created < s.epoch
  pub running : s.swept < s.epoch → r.created < s.epoch → r.counted ≡ true
  pub released : s.swept < s.epoch → 1 ≤ s.round → r.counted ≡ true → NotBefore (s.epoch - 1) r.dropped

-- what a round raises is reached in the run of its row, until the address's shard completes the row
abbrev pub AreRaisedReached : Layout → Machine → Type 0
AreRaisedReached layout m = (shard row : ℕ) (a : Address) →
    shard < layout.shards → Member a ((m.states shard).rounds row).raises → (m.states (layout.home a)).completed ≤ row
    → IsReachedIn m (label_of layout m.states row).epoch a

-- a run is near where no shard is more than one epoch before it, and some shard is in it or before
pub record IsNear (layout : Layout) (m : Machine) (run : ℕ) : Type 0 where
  pub near : (shard : ℕ) → shard < layout.shards → run ≤ (m.states shard).epoch + 1
  pub some : ℕ
  pub within : some < layout.shards
  pub low : (m.states some).epoch ≤ run

-- a root that counts in the run and is older keeps the address
pub record IsRootedBefore (m : Machine) (run : ℕ) (a : Address) : Type 0 where
  pub root : RootRecord
  pub kept : Member root m.roots
  pub to : Member a root.addresses
  pub counts : NotBefore (run - 1) root.dropped
  pub old : root.created < run

-- a reached block that is older than the run, and no zero block of a shard in its epoch, points to the address
pub record IsNamedBefore (layout : Layout) (m : Machine) (run : ℕ) (a : Address) : Type 0 where
  pub block : BlockRecord
  pub stands : Member block m.blocks
  pub pointer : Member a block.pointers
  pub is_reached : IsReachedIn m run block.address
  pub born : block.born < run
  pub solid : block.zero ≡ true → (m.states (layout.home block.address)).epoch ≢ run

-- an address has support in a run: it was given since the epoch before, or an older root or block names it
abbrev pub HasSupport : Layout → Machine → ℕ → Address → Type 0
HasSupport layout m run a = IsGivenSince m.blocks (run - 1) a ⊎ IsRootedBefore m run a ⊎ IsNamedBefore layout m run a

-- all that a near run reaches has support
abbrev pub AreReachedSupported : Layout → Machine → Type 0
AreReachedSupported layout m =
    (run : ℕ) → IsNear layout m run → (a : Address) → IsReachedIn m run a → HasSupport layout m run a

-- what is reached in the run of some shard's epoch is present
abbrev pub AreReachedPresent : Layout → Machine → Type 0
AreReachedPresent layout m =
    (shard : ℕ) (a : Address) → shard < layout.shards → IsReachedIn m (m.states shard).epoch a → IsThere m.blocks a

-- each way back along arrows from a place ends
pub data IsFounded {A : Type 0} (Arrow : A → A → Type 0) : A → Type 0 where
  founded : {a : A} → ((c : A) → Arrow c a → IsFounded Arrow c) → IsFounded Arrow a

-- in round 1 or later of a run each counted block that is old, but for zero blocks, has a count
abbrev pub HasNoMissedZero : Layout → Machine → Type 0
HasNoMissedZero layout m = (b : BlockRecord) → Member b m.blocks →
    let s : ShardState = m.states (layout.home b.address) in
    s.swept < s.epoch → 1 ≤ s.round → b.counted ≡ true → b.zero ≡ false → b.mark + 2 ≤ s.epoch
    → 1 ≤ b.count

-- a machine along a lawful history
pub record IsRight (layout : Layout) (m : Machine) : Type 0 where
  -- rounds run in step
  pub clocks : AreClocksRight layout m.states
  -- one block an address
  pub distinct : (b c : BlockRecord) → Member b m.blocks → Member c m.blocks → b.address ≡ c.address → b ≡ c
  -- each block is right at its shard
  pub blocks : (b : BlockRecord) → Member b m.blocks → IsBlockRight (m.states (layout.home b.address)) b
  -- each root is of a shard
  pub homes : (r : RootRecord) → Member r m.roots → r.home < layout.shards
  -- and right there
  pub roots : (r : RootRecord) → Member r m.roots → IsRootRight (m.states r.home) r
  -- each count is right, but for what is on its way
  pub counts : AreCountsRight layout m
  -- what is raised is reached
  pub raised : AreRaisedReached layout m
  -- what is reached is supported
  pub supported : AreReachedSupported layout m
  -- no reached block is a zero block, but where it was given in the run
  pub no_wrong_zero : HasNoWrongZero layout m
  -- what is reached is present
  pub anchored : AreReachedPresent layout m
  -- no block leads back to itself
  pub founded : (a : Address) → IsFounded (PointsTo m.blocks) a
  -- after a search no zero block was missed
  pub searched : HasNoMissedZero layout m
  -- at the last row what is old and not reached is a zero block
  pub exact_zero : HasEachZero layout m
