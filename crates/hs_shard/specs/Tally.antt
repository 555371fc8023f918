-- How often addresses are named, as a round tells it.
use Rattle.std.specs.Prelude.{ℕ, ◌+◌, List, [], ◌∷◌, map, unwrap_or}
use Rattle.std.specs.BTreeMap.{insert_entry, is_at}
use Rattle.std.specs.Map.{lookup}
use Rattle.hs_limits.specs.declared.address.Address.{Address}
use Rattle.hs_limits.specs.declared.delta.Delta.{Delta}
use Rattle.hs_model.specs.Store.{address_cmp}

-- an address counted once more
abbrev pub one_more : Address → List (Address × ℕ) → List (Address × ℕ)
one_more a counts = insert_entry address_cmp counts a (unwrap_or (lookup (is_at (address_cmp a)) counts) 0 + 1)

-- some addresses counted, one after another, with those that were counted before
abbrev pub count_all : List Address → List (Address × ℕ) → List (Address × ℕ)
count_all [] counts = counts
count_all (a ∷ rest) counts = count_all rest (one_more a counts)

-- the counts as deltas
abbrev pub deltas_of : List (Address × ℕ) → List Delta
deltas_of counts = map (λ e. record { address = e.0; amount = e.1 }) counts

-- how often each of some addresses stands there, ascending
abbrev pub tally : List Address → List Delta
tally addresses = deltas_of (count_all addresses [])
