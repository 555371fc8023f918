-- The catalogues of all shards follow the machine.
use Rattle.std.specs.Prelude.{true, false, ◌≡◌, ℕ, ◌+◌, ◌<◌, ◌&&◌, if◌then◌else◌, List, [], ◌∷◌, ◌++◌, Some, sum_by}
use Rattle.hs_limits.specs.declared.address.Address.{Address}
use Rattle.hs_deletion.specs.Reached.{Member}
use Rattle.hs_deletion.specs.Records.{BlockRecord}
use Rattle.hs_deletion.specs.Machine.{Layout, Round, ShardState, Machine, set_at, sum_below}
use Rattle.hs_deletion.specs.Rounds.{times}
use Rattle.hs_deletion.specs.Clocks.{label_of}
use Rattle.hs_deletion.specs.Steps.{blocks_at, roots_at}
use Rattle.hs_deletion.specs.Counts.{block_weight, root_weight, raised_on_way, lowered_on_way}
use Rattle.hs_deletion.specs.History.{Effect, after_effect, IsBacked, MayStore, MayGive, MayEnter, history, IsLawful, IsMade}
use Rattle.hs_deletion.specs.History.Effect.{Stores, Gives, Puts, Drops, Enters, Completes}
use Rattle.hs_deletion.specs.Catalogue.{ShardCatalogue, sends_first, is_accepted, with_got, is_complete, is_open_last, sends_next, ShardEntry, catalogue_after}
use Rattle.hs_deletion.specs.Catalogue.ShardEntry.{BlockEntry, MarkEntry, RootEntry, DropEntry, EnterEntry, GotEntry}

-- two lists have the same, in any order: each member of one is one of the other, and all sums are equal
pub record HasSame {X : Type 0} (xs ys : List X) : Type 0 where
  pub into : (x : X) → Member x xs → Member x ys
  pub back : (x : X) → Member x ys → Member x xs
  pub sums : (w : X → ℕ) → sum_by w xs ≡ sum_by w ys

-- a round is what its sender sent to a shard under an epoch and a round; of other shards' addresses nothing is asked
pub record IsSent (layout : Layout) (states : ℕ → ShardState) (to sender epoch round : ℕ) (body : Round) : Type 0 where
  pub within : sender < layout.shards
  pub row : ℕ
  pub sent : row < (states sender).sent
  pub of_epoch : (label_of layout states row).epoch ≡ epoch
  pub of_round : (label_of layout states row).round ≡ round
  pub raises : (a : Address) → layout.home a ≡ to → times a body.raises ≡ times a ((states sender).rounds row).raises
  pub lowers : (a : Address) → layout.home a ≡ to → times a body.lowers ≡ times a ((states sender).rounds row).lowers
  pub total : body.total ≡ ((states sender).rounds row).total

-- a catalogue has the blocks and roots of its shard, its numbers, and only rounds that were sent to it
pub record IsFollowing (layout : Layout) (m : Machine) (shard : ℕ) (c : ShardCatalogue) : Type 0 where
  pub blocks : HasSame c.blocks (blocks_at layout shard m.blocks)
  pub roots : HasSame c.roots (roots_at shard m.roots)
  pub epoch : c.epoch ≡ (m.states shard).epoch
  pub swept : c.swept ≡ (m.states shard).swept
  pub round : (m.states shard).swept < (m.states shard).epoch → c.round ≡ (m.states shard).round
  pub got : (sender epoch round : ℕ) (body : Round) → c.got sender epoch round ≡ Some body
      → IsSent layout m.states shard sender epoch round body

-- each shard's catalogue follows the machine
abbrev pub AreFollowing : Layout → Machine → (ℕ → ShardCatalogue) → Type 0
AreFollowing layout m catalogues = (shard : ℕ) → shard < layout.shards → IsFollowing layout m shard (catalogues shard)

-- each shard's catalogue follows a machine that some lawful history makes
pub record IsFollowed (layout : Layout) (m : Machine) (catalogues : ℕ → ShardCatalogue) : Type 0 where
  pub made : IsMade layout m
  pub each : AreFollowing layout m catalogues

-- ---- one entry

-- an entry of a shard fits: it is of the shard and may take effect, and a round was sent to it
abbrev pub FitsAt : Layout → Machine → ℕ → ShardEntry → Type 0
FitsAt layout m shard (BlockEntry a pointers) = (layout.home a ≡ shard) × MayStore layout m a pointers
FitsAt layout m shard (MarkEntry a) = (layout.home a ≡ shard) × MayGive layout m a
FitsAt layout m shard (RootEntry key addresses) = (a : Address) → Member a addresses → IsBacked m shard a
FitsAt layout m shard (DropEntry key) = Unit {0}
FitsAt layout m shard EnterEntry = MayEnter layout m shard
FitsAt layout m shard (GotEntry sender epoch round body) = IsSent layout m.states shard sender epoch round body

-- what an entry of a shard does to the machine: a round does something only where it completes the open one
abbrev pub effects_at : Layout → ℕ → ShardEntry → ShardCatalogue → List Effect
effects_at layout shard (BlockEntry a pointers) c = Stores a pointers ∷ []
effects_at layout shard (MarkEntry a) c = Gives a ∷ []
effects_at layout shard (RootEntry key addresses) c = Puts shard key addresses ∷ []
effects_at layout shard (DropEntry key) c = Drops shard key ∷ []
effects_at layout shard EnterEntry c = Enters shard ∷ []
effects_at layout shard (GotEntry sender epoch round body) c =
    if is_accepted layout.shards c sender epoch round && is_complete layout.shards (with_got sender epoch round body c)
    then Completes shard ∷ []
    else []

-- ---- lists of entries of all shards, in the order in which they took effect

-- an entry with its shard
pub record LoggedEntry : Type 0 where
  pub shard : ℕ
  pub entry : ShardEntry

-- all catalogues after an entry
abbrev pub all_after : Layout → LoggedEntry → (ℕ → ShardCatalogue) → ℕ → ShardCatalogue
all_after layout e catalogues = set_at e.shard (catalogue_after layout.shards e.shard e.entry (catalogues e.shard)) catalogues

-- all catalogues after some entries
abbrev pub catalogues_after : Layout → List LoggedEntry → (ℕ → ShardCatalogue) → ℕ → ShardCatalogue
catalogues_after layout [] catalogues = catalogues
catalogues_after layout (e ∷ es) catalogues = catalogues_after layout es (all_after layout e catalogues)

-- what some entries do to the machine
abbrev pub effects_of : Layout → List LoggedEntry → (ℕ → ShardCatalogue) → List Effect
effects_of layout [] catalogues = []
effects_of layout (e ∷ es) catalogues =
    effects_at layout e.shard e.entry (catalogues e.shard) ++ effects_of layout es (all_after layout e catalogues)

-- each entry is of a shard, and fits where it stands
abbrev pub AreFitting : Layout → List LoggedEntry → (ℕ → ShardCatalogue) → Machine → Type 0
AreFitting layout [] catalogues m = Unit {0}
AreFitting layout (e ∷ es) catalogues m =
    (e.shard < layout.shards) × FitsAt layout m e.shard e.entry
    × AreFitting layout es (all_after layout e catalogues) (history layout (effects_at layout e.shard e.entry (catalogues e.shard)) m)

-- what the entries do is a lawful history, and the catalogues follow it
pub record KeepsFollowed (layout : Layout) (m : Machine) (catalogues : ℕ → ShardCatalogue) (entries : List LoggedEntry) : Type 0 where
  pub lawful : IsLawful layout (effects_of layout entries catalogues) m
  pub followed : IsFollowed layout (history layout (effects_of layout entries catalogues) m) (catalogues_after layout entries catalogues)

-- ---- what is sent

-- what a catalogue sends where its shard enters an epoch was sent by the machine's shard then, to any shard
abbrev pub SendsFirst : Layout → Machine → ℕ → ShardCatalogue → Type 0
SendsFirst layout m shard c =
    (to : ℕ) → IsSent layout (after_effect layout (Enters shard) m).states to shard (c.epoch + 1) 0 (sends_first c)

-- the catalogue of a shard has a complete round that isn't the last of its run
pub record IsSearching (layout : Layout) (m : Machine) (shard : ℕ) (c : ShardCatalogue) : Type 0 where
  pub within : shard < layout.shards
  pub follows : IsFollowing layout m shard c
  pub complete : is_complete layout.shards c ≡ true
  pub more : is_open_last layout.shards c ≡ false

-- what it sends then was sent by the machine's shard that completed the row, to any shard
abbrev pub SendsNext : Layout → Machine → ℕ → ShardCatalogue → Type 0
SendsNext layout m shard c =
    (to : ℕ) → IsSent layout (after_effect layout (Completes shard) m).states to shard c.epoch (c.round + 1) (sends_next layout.shards c)

-- ---- counts

-- how often an address is named in one catalogue
abbrev pub named_at : Address → ShardCatalogue → ℕ
named_at a c = sum_by (block_weight a) c.blocks + sum_by (root_weight a) c.roots

-- how often it is named in all
abbrev pub named_in : Layout → (ℕ → ShardCatalogue) → Address → ℕ
named_in layout catalogues a = sum_below layout.shards (λ shard. named_at a (catalogues shard))

-- each count in a catalogue is how often the address is named in all, but for what is on its way
abbrev pub AreCountsFollowed : Layout → Machine → (ℕ → ShardCatalogue) → Type 0
AreCountsFollowed layout m catalogues = (shard : ℕ) → shard < layout.shards → (b : BlockRecord) → Member b (catalogues shard).blocks
    → b.count + raised_on_way layout m b.address ≡ named_in layout catalogues b.address + lowered_on_way layout m b.address
