-- What is reached from where, what a run's anchors are, and what nothing reaches.
use Rattle.std.specs.Prelude.{◌≡◌, ℕ, ◌+◌, Bool, true, not, ◌==◌, ◌&&◌, if◌then◌else◌, List, [], ◌∷◌, ◌++◌, length, Option, Some, None, bytes_eq, map, filter, nat_le, nat_lt, Contains}
use Rattle.std.specs.List.{list_any}
use Rattle.std.specs.Option.{option_map_or}
use Rattle.std.proofs.Common.{zero, suc}
use Rattle.hs_limits.specs.declared.address.Address.{Address}
use Rattle.hs_model.specs.declared.store.StoredBlock.{StoredBlock}
use Rattle.hs_model.specs.Store.{Store, Root, block_at, shard_at}

-- whether two addresses are one
abbrev pub is_same : Address → Address → Bool
is_same a b = bytes_eq a.0 b.0

-- whether an address is in a list
abbrev pub is_among : List Address → Address → Bool
is_among addresses a = list_any (is_same a) addresses

-- the pointers of a block that is present, and none of one that is not
abbrev pub pointers_of : Option StoredBlock → List Address
pointers_of None = []
pointers_of (Some stored) = stored.pointers

-- a list of addresses that goes on from a: at each next place a pointer of the present block at the place before; and ends at b
abbrev pub Leads : Store → Address → List Address → Address → Type 0
Leads s a [] b = a ≡ b
Leads s a (next ∷ path) b = Contains (pointers_of (block_at s a)) next × Leads s next path b

-- b is reached from some addresses where such a list starts among them
pub record IsReached (s : Store) (anchors : List Address) (b : Address) : Type 0 where
  pub start : Address
  pub path : List Address
  pub anchored : Contains anchors start
  pub leads : Leads s start path b

-- ---- the same as a list

-- the first present block whose address was seen
abbrev pub pick : List (Address × StoredBlock) → List Address → Option StoredBlock
pick [] seen = None
pick (e ∷ es) seen = if is_among seen e.0 then Some e.1 else pick es seen

-- the blocks without it
abbrev pub left : List (Address × StoredBlock) → List Address → List (Address × StoredBlock)
left [] seen = []
left (e ∷ es) seen = if is_among seen e.0 then es else e ∷ left es seen

-- what was seen, and the pointers of each block that is seen in its turn, for as many turns as there are blocks
abbrev pub close : ℕ → List (Address × StoredBlock) → List Address → List Address
close zero blocks seen = seen
close (suc turns) blocks seen = close turns (left blocks seen) (seen ++ pointers_of (pick blocks seen))

-- the addresses that some anchors reach
abbrev pub reached_from : Store → List Address → List Address
reached_from s anchors = close (length s.blocks) s.blocks anchors

-- ---- a deletion run

-- a root counts in a run where it is not dropped, or was dropped in the epoch before the run or later
abbrev pub counts_in : ℕ → Root → Bool
counts_in run root = option_map_or (λ dropped. nat_le run (dropped + 1)) root.dropped true

-- the anchors of a run: the addresses of the roots that count, and those given in the epoch before the run or later
abbrev pub anchors : Store → ℕ → List Address
anchors s run = map (λ root. root.address) (filter (counts_in run) s.roots) ++ map (λ e. e.0) (filter (λ e. nat_le run (e.1 + 1)) s.given)

-- whether the sweep of a run at a shard removes a block: it is of the shard, born before the run, and no anchor reaches it
abbrev pub is_swept : Store → ℕ → ℕ → Address × StoredBlock → Bool
is_swept s run shard e = (shard_at s e.0 == shard && nat_lt e.1.born run) && not (is_among (reached_from s (anchors s run)) e.0)

-- the addresses that the sweep of a run at a shard removes
abbrev pub unreachable : Store → ℕ → ℕ → List Address
unreachable s run shard = map (λ e. e.0) (filter (is_swept s run shard) s.blocks)
