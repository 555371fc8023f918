-- Entries that took effect, one after another, and which lists of them are lawful.
use Rattle.std.specs.Prelude.{◌≡◌, ℕ, ◌≤◌, ◌<◌, Bool, ◌==◌, ◌&&◌, if◌then◌else◌, List, [], ◌∷◌, nat_le}
use Rattle.hs_limits.specs.declared.address.Address.{Address}
use Rattle.hs_deletion.specs.Reached.{Member}
use Rattle.hs_deletion.specs.Records.{BlockRecord}
use Rattle.hs_deletion.specs.Machine.{Layout, Machine, empty_machine}
use Rattle.hs_deletion.specs.Rounds.{total_in}
use Rattle.hs_deletion.specs.Anchors.{IsThere, IsReachedIn}
use Rattle.hs_deletion.specs.Steps.{after_store, after_mark, after_root, after_drop, after_enter, after_search, after_sweep}

-- what an entry does: a write stores an absent block or gives a present one, a root is put or dropped, a shard enters its next
-- epoch, or it completes a row of rounds
pub data Effect : Type 0 where
  Stores : (address : Address) → (pointers : List Address) → Effect
  Gives : (address : Address) → Effect
  Puts : (shard : ℕ) → (key : List ℕ) → (addresses : List Address) → Effect
  Drops : (shard : ℕ) → (key : List ℕ) → Effect
  Enters : (shard : ℕ) → Effect
  Completes : (shard : ℕ) → Effect

-- whether the row that a shard completes next is the last of its run
abbrev pub is_last : Layout → ℕ → Machine → Bool
is_last layout shard m = nat_le 1 (m.states shard).round && total_in layout m.states (m.states shard).completed == 0

-- the machine after an entry
abbrev pub after_effect : Layout → Effect → Machine → Machine
after_effect layout (Stores a pointers) m = after_store layout a pointers m
after_effect layout (Gives a) m = after_mark layout a m
after_effect layout (Puts shard key addresses) m = after_root shard key addresses m
after_effect layout (Drops shard key) m = after_drop shard key m
after_effect layout (Enters shard) m = after_enter layout shard m
after_effect layout (Completes shard) m = if is_last layout shard m then after_sweep layout shard m else after_search layout shard m

-- an address is backed at a shard where the run of the shard's epoch reaches it
abbrev pub IsBacked : Machine → ℕ → Address → Type 0
IsBacked m shard a = IsReachedIn m (m.states shard).epoch a

-- an absent block may be stored where its pointers are backed
pub record MayStore (layout : Layout) (m : Machine) (a : Address) (pointers : List Address) : Type 0 where
  pub absent : ¬ IsThere m.blocks a
  pub backed : (p : Address) → Member p pointers → IsBacked m (layout.home a) p

-- a present one may be given where its pointers are
abbrev pub MayGive : Layout → Machine → Address → Type 0
MayGive layout m a =
    (b : BlockRecord) → Member b m.blocks → b.address ≡ a → (p : Address) → Member p b.pointers → IsBacked m (layout.home a) p

-- a shard may enter where it has swept its epoch and no shard is below it
pub record MayEnter (layout : Layout) (m : Machine) (shard : ℕ) : Type 0 where
  pub within : shard < layout.shards
  pub is_swept : (m.states shard).epoch ≡ (m.states shard).swept
  pub lowest : (other : ℕ) → other < layout.shards → (m.states shard).epoch ≤ (m.states other).epoch

-- a shard may complete a row that every shard has sent
pub record MayComplete (layout : Layout) (m : Machine) (shard : ℕ) : Type 0 where
  pub within : shard < layout.shards
  pub sent : (other : ℕ) → other < layout.shards → (m.states shard).completed < (m.states other).sent

-- whether an entry may take effect
abbrev pub MayHappen : Layout → Effect → Machine → Type 0
MayHappen layout (Stores a pointers) m = MayStore layout m a pointers
MayHappen layout (Gives a) m = MayGive layout m a
MayHappen layout (Puts shard key addresses) m =
    (shard < layout.shards) × ((a : Address) → Member a addresses → IsBacked m shard a)
MayHappen layout (Drops shard key) m = shard < layout.shards
MayHappen layout (Enters shard) m = MayEnter layout m shard
MayHappen layout (Completes shard) m = MayComplete layout m shard

-- the machine after some entries
abbrev pub history : Layout → List Effect → Machine → Machine
history layout [] m = m
history layout (effect ∷ effects) m = history layout effects (after_effect layout effect m)

-- each of them might take effect when it did
abbrev pub IsLawful : Layout → List Effect → Machine → Type 0
IsLawful layout [] m = Unit {0}
IsLawful layout (effect ∷ effects) m = MayHappen layout effect m × IsLawful layout effects (after_effect layout effect m)

-- some lawful history makes the machine from nothing
pub record IsMade (layout : Layout) (m : Machine) : Type 0 where
  pub effects : List Effect
  pub lawful : IsLawful layout effects empty_machine
  pub makes : history layout effects empty_machine ≡ m
