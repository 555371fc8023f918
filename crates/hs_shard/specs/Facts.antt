-- What a shard keeps in memory, and what is looked up in it.
use Rattle.std.specs.Prelude.{ℕ, ◌+◌, ◌==◌, Bool, List, [], Option, length, find, slice_get, nat_le, nat_lt}
use Rattle.std.specs.BTreeMap.{is_at}
use Rattle.std.specs.Map.{lookup}
use Rattle.std.specs.Option.{option_map}
use Rattle.hs_limits.specs.declared.address.Address.{Address}
use Rattle.hs_limits.specs.declared.shape.Shape.{Shape}
use Rattle.hs_limits.specs.Limits.{greatest_limits}
use Rattle.hs_limits.specs.Shape.{shard_of}
use Rattle.hs_model.specs.Store.{address_cmp}
use Rattle.hs_roots.specs.declared.root.RootRecord.{RootRecord}
use Rattle.hs_rounds.specs.Rounds.{Run, empty_run}
use Rattle.hs_shard.specs.declared.effect.BlockFacts.{BlockFacts}
use Rattle.hs_shard.specs.declared.facts.Facts.{Facts}

-- the present blocks by address
abbrev pub BlockList : Type 0
BlockList = List (Address × Facts)

-- shape, shard: of which store and shard it is; roots: by key, and of one key as they were put; view: that of the last View
pub record Catalogue : Type 0 where
  pub shape : Shape
  pub shard : ℕ
  pub blocks : BlockList
  pub roots : List RootRecord
  pub epoch : ℕ
  pub swept : ℕ
  pub view : ℕ
  pub run : Run

-- before the first entry
abbrev pub empty_catalogue : Shape → ℕ → Catalogue
empty_catalogue shape shard = record { shape = shape; shard = shard; blocks = []; roots = []; epoch = 1; swept = 1; view = 0; run = empty_run shape shard }

-- ---- blocks

-- what is known of the present block of an address
abbrev pub facts_in : Address → BlockList → Option Facts
facts_in a blocks = lookup (is_at (address_cmp a)) blocks

abbrev pub facts_at : Address → Catalogue → Option Facts
facts_at a c = facts_in a c.blocks

-- the number of the entry that stored it
abbrev pub number_at : Address → Catalogue → Option ℕ
number_at a c = option_map (λ f. f.number) (facts_at a c)

-- whether it was stored by the entry of a number
abbrev pub is_stored_by : ℕ → Address × Facts → Bool
is_stored_by number e = e.1.number == number

-- what the present block of an entry points to
abbrev pub pointers_at : ℕ → BlockList → Option (List Address)
pointers_at number blocks = option_map (λ e. e.1.pointers) (find (is_stored_by number) blocks)

-- what is told of the block at a place, ascending by address
abbrev pub told_of : Address × Facts → BlockFacts
told_of e = record {
  address = e.0;
  number = e.1.number;
  born = e.1.born;
  mark = e.1.mark;
  counted = e.1.counted;
  zero = e.1.zero;
  count = e.1.count;
}

abbrev pub told_at : ℕ → BlockList → Option BlockFacts
told_at place blocks = option_map told_of (slice_get blocks place)

-- ---- the shard

-- whether what was given in an epoch may still be used
abbrev pub is_fresh : ℕ → Catalogue → Bool
is_fresh held c = nat_le c.epoch (held + 1)

-- whether an address is of this shard
abbrev pub is_mine : Address → Catalogue → Bool
is_mine a c = shard_of c.shape.shards a == c.shard

-- whether there is room for one block more
abbrev pub has_room : Catalogue → Bool
has_room c = nat_lt (length c.blocks) greatest_limits.blocks
