-- What an entry may wake, and what is coming, by the lines of operations: for private clauses.
use Rattle.std.specs.List.{list_any}
use Rattle.std.specs.Option.{option_map_or}
use Rattle.std.specs.Prelude.{◌≡◌, ℕ, ◌||◌, Bool, true, false, List, Option, MatchOption}
use Rattle.hs_awaiting.specs.declared.waiting.Waiting.{Waiting}
use Rattle.hs_awaiting.specs.Indexing.{passes, stores, waits_for}
use Rattle.hs_entry.specs.declared.entry.Entry.{Entry}
use Rattle.hs_entry.specs.declared.entry.Entry.TheVariants as kind
use Rattle.hs_limits.specs.declared.address.Address.{Address}
use Rattle.hs_replica.specs.Kinds.{stores_for}
use Rattle.hs_waits.specs.declared.cause.Cause.{Cause}
use Rattle.hs_waits.specs.declared.cause.Cause.TheVariants as cause

-- ---- what an entry may wake

-- a write that waits for the Block of this address
abbrev pub waits_for_block : ℕ → Option Address → Waiting → Bool
waits_for_block shard a w = option_map_or (λ a. waits_for (cause.Block shard a) w) a false

-- a Block wakes only those that wait for room for a block, or for a Block
abbrev pub may_wake_by_block : ℕ → Option Address → Waiting → Bool
may_wake_by_block shard a w =
    waits_for (cause.BlockRoom shard) w || (waits_for_block shard a w || waits_for (cause.Other shard) w)

-- and a Root only those that wait for room for a root
abbrev pub may_wake : ℕ → Entry → Option Address → Waiting → Bool
may_wake shard (kind.Block line least bytes) a w = may_wake_by_block shard a w
may_wake shard (kind.Root line held kept key) a w = waits_for (cause.RootRoom shard) w
may_wake shard other a w = false

-- ---- what is coming

-- whether a Block of this line is among the entries
abbrev pub stands : List Entry → ℕ → Bool
stands entries line = list_any (stores_for line) entries

-- a line of such an operation of which a Block is among them, or that there is none
abbrev pub AreMet : Cause → List Entry → List (ℕ × Waiting) → Option ℕ → Type 0
AreMet what entries es met = MatchOption met
    ((n : ℕ) → stands entries n ≡ true → passes (stores what) es n ≡ false)
    (λ n. (stands entries n ≡ true) × (passes (stores what) es n ≡ true))
