-- Which blocks a deletion run looks at: each kind is listed, so that no entry goes over all blocks.
use Rattle.std.specs.Prelude.{◌≡◌, ℕ, ◌==◌, ◌≤◌, Bool, true, false, not, ◌||◌, ◌++◌, if◌then◌else◌, List, [], ◌∷◌, Option, Some, length, filter}
use Rattle.std.specs.BTreeMap.{is_at}
use Rattle.std.specs.BTreeSet.{contains}
use Rattle.std.specs.List.Sorted.{IsStrictlySortedBy}
use Rattle.std.specs.Map.{keys_of, lookup, remove_entry}
use Rattle.std.specs.Option.{option_map_or}
use Rattle.std.specs.Ordering.{nat_cmp}
use Rattle.hs_limits.specs.declared.address.Address.{Address}
use Rattle.hs_limits.specs.Limits.{greatest_limits}
use Rattle.hs_model.specs.Store.{address_cmp}
use Rattle.hs_shard.specs.declared.facts.Facts.{Facts}
use Rattle.hs_shard.specs.declared.listed.Kind.{Kind}
use Rattle.hs_shard.specs.declared.listed.Kind.TheVariants.{Uncounted, Idle, Zero, Other}
use Rattle.hs_shard.specs.declared.listed.Listed.{Listed}
use Rattle.hs_shard.specs.Clients.{change_at}
use Rattle.hs_shard.specs.Facts.{BlockList, facts_in}

-- ---- kinds

-- one that does not count; a zero block; one that counts and nothing points to; any other
abbrev pub kind_as : Bool → Bool → ℕ → Kind
kind_as counted zero count = if not counted then Uncounted else (if zero then Zero else (if count == 0 then Idle else Other))

abbrev pub kind_of : Facts → Kind
kind_of f = kind_as f.counted f.zero f.count

-- whether two kinds are one
abbrev pub same_kind : Kind → Kind → Bool
same_kind Uncounted Uncounted = true
same_kind Idle Idle = true
same_kind Zero Zero = true
same_kind Other Other = true
same_kind k _ = false

-- whether what is of the second kind is in the list of the first; there is no list of the others
abbrev pub goes_in : Kind → Kind → Bool
goes_in Uncounted Uncounted = true
goes_in Idle Idle = true
goes_in Zero Zero = true
goes_in k _ = false

-- whether an address is in the list of a kind
abbrev pub has : Kind → Address → Listed → Bool
has Uncounted a listed = contains address_cmp listed.uncounted a
has Idle a listed = contains address_cmp listed.idle a
has Zero a listed = contains address_cmp listed.zeros a
has Other a listed = false

-- ---- what is kept beside the blocks

-- an address is listed exactly where its block is of the kind
abbrev pub AreListed : BlockList → Listed → Type 0
AreListed blocks listed = (k : Kind) (a : Address) → has k a listed ≡ option_map_or (λ f. goes_in k (kind_of f)) (facts_in a blocks) false

-- the address by the number of the entry that stored its block
abbrev pub NumberList : Type 0
NumberList = List (ℕ × Address)

abbrev pub address_of : ℕ → NumberList → Option Address
address_of number numbers = lookup (is_at (nat_cmp number)) numbers

-- each present block has its number, and a number that is kept is that of a present block
pub record AreNumbered (blocks : BlockList) (numbers : NumberList) : Type 0 where
  pub kept : (a : Address) (f : Facts) → facts_in a blocks ≡ Some f → address_of f.number numbers ≡ Some a
  pub present : (number : ℕ) (a : Address) → address_of number numbers ≡ Some a → option_map_or (λ f. f.number == number) (facts_in a blocks) false ≡ true

-- a zero block counts
abbrev pub is_sound : Facts → Bool
is_sound f = f.counted || not f.zero

-- blocks with what is kept beside them
pub record AreKept (blocks : BlockList) (numbers : NumberList) (listed : Listed) : Type 0 where
  pub few : length blocks ≤ greatest_limits.blocks
  pub ordered : IsStrictlySortedBy address_cmp (keys_of blocks)
  pub sound : (a : Address) → option_map_or is_sound (facts_in a blocks) true ≡ true
  pub lists : AreListed blocks listed
  pub numbered : AreNumbered blocks numbers

-- ---- some blocks at once

-- the addresses of the blocks that pass a test
abbrev pub picked : (Facts → Bool) → BlockList → List Address
picked test blocks = keys_of (filter (λ e. test e.1) blocks)

-- whether a block counts, and whether it is a zero block
abbrev pub stand : Bool → Bool → Facts → Facts
stand counted zero f = record f { counted = counted; zero = zero }

abbrev pub stand_each : Bool → Bool → List Address → BlockList → BlockList
stand_each counted zero [] blocks = blocks
stand_each counted zero (a ∷ as') blocks = stand_each counted zero as' (change_at a (stand counted zero) blocks)

-- without some
abbrev pub remove_at : Address → BlockList → BlockList
remove_at a blocks = remove_entry (is_at (address_cmp a)) blocks

abbrev pub remove_each : List Address → BlockList → BlockList
remove_each [] blocks = blocks
remove_each (a ∷ as') blocks = remove_each as' (remove_at a blocks)

-- what some point to
abbrev pub pointers_each : List Address → BlockList → List Address
pointers_each [] blocks = []
pointers_each (a ∷ as') blocks = option_map_or (λ f. f.pointers) (facts_in a blocks) [] ++ pointers_each as' blocks
