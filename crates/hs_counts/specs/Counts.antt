-- The reference counts of blocks: how often each counted address is pointed to.
use Rattle.std.specs.Prelude.{ℕ, ◌+◌, ◌-◌, ◌==◌, if◌then◌else◌, List, Option, Some, None, is_some, map, filter}
use Rattle.std.specs.declared.cmp.Ordering.{Ordering}
use Rattle.std.specs.BTreeMap.{is_at, insert_entry}
use Rattle.std.specs.Cmp.Lexicographic.{slice_cmp}
use Rattle.std.specs.Map.{lookup, remove_entry, set_value}
use Rattle.std.specs.Option.{option_map}
use Rattle.std.specs.Ordering.{nat_cmp}
use Rattle.hs_limits.specs.declared.address.Address.{Address}
use Rattle.hs_limits.specs.declared.delta.Delta.{Delta}

-- the counts by address
abbrev pub CountList : Type 0
CountList = List (Address × ℕ)

-- addresses are in the order of their bytes
abbrev pub address_cmp : Address → Address → Ordering
address_cmp a b = slice_cmp nat_cmp a.0 b.0

-- the count of an address
abbrev pub count_of : Address → CountList → Option ℕ
count_of a counts = lookup (is_at (address_cmp a)) counts

-- the counts with this one in the place of what it was
abbrev pub put_count : Address → Option ℕ → CountList → CountList
put_count a None counts = counts
put_count a (Some count) counts = set_value (is_at (address_cmp a)) counts count

-- the count of the delta's address rises by its amount, or falls by it
abbrev pub raise : Delta → CountList → CountList
raise delta counts = put_count delta.address (option_map (λ count. count + delta.amount) (count_of delta.address counts)) counts

abbrev pub lower : Delta → CountList → CountList
lower delta counts = put_count delta.address (option_map (λ count. count - delta.amount) (count_of delta.address counts)) counts

-- the address is there; one that was not there has the count 0
abbrev pub place : Address → CountList → CountList
place a counts = if is_some (count_of a counts) then counts else insert_entry address_cmp counts a 0

-- the address is not there
abbrev pub remove_count : Address → CountList → CountList
remove_count a counts = remove_entry (is_at (address_cmp a)) counts

-- the addresses whose count is 0, ascending
abbrev pub zero_addresses : CountList → List Address
zero_addresses counts = map (λ e. e.0) (filter (λ e. e.1 == 0) counts)
