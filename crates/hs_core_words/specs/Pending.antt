-- What stands in a lead's list and has not taken effect, as far as operations wait for it.
use Rattle.std.specs.List.{list_any}
use Rattle.std.specs.Option.{option_and_then, option_map_or}
use Rattle.std.specs.Prelude.{ℕ, ◌+◌, ◌||◌, Bool, false, not, Option, None, bytes_eq, count_by, length, nat_lt, if◌then◌else◌}
use Rattle.hs_awaiting.specs.Kinds.{puts_root}
use Rattle.hs_model.specs.Op.{written_address}
use Rattle.hs_core_words.specs.Looking.{catalogue_of, group_of, operation_of}
use Rattle.hs_core_words.specs.State.{Core}
use Rattle.hs_entry.specs.declared.entry.Entry.{Entry}
use Rattle.hs_entry.specs.declared.entry.Entry.TheVariants as kind
use Rattle.hs_limits.specs.declared.address.Address.{Address}
use Rattle.hs_model.specs.declared.op.Op.{Op}
use Rattle.hs_model.specs.declared.op.Op.TheVariants as op
use Rattle.hs_ops.specs.Speaking.{wanted_address}
pub use Rattle.hs_replica.specs.Kinds.{is_block, is_root}
use Rattle.hs_roots.specs.Roots.{retained_count}

-- the address that the operation which asked for a Block is about
abbrev pub named : Entry → Core → Option Address
named (kind.Block line least bytes) core = option_and_then (λ w. wanted_address core.sessions w.operation.op) (operation_of line core)
named other core = None

-- the address of the block that an entry stores: that of the write which asked for it
abbrev pub stored : Entry → Core → Option Address
stored (kind.Block line least bytes) core = option_and_then (λ w. written_address w.operation.op) (operation_of line core)
stored other core = None

-- whether some address is this one
abbrev pub is_address : Address → Option Address → Bool
is_address a other = option_map_or (λ b. bytes_eq a.0 b.0) other false

-- a Block of this address has not taken effect
abbrev pub is_coming : ℕ → Option Address → Core → Bool
is_coming shard a core = option_map_or (λ a. list_any (λ entry. is_address a (stored entry core)) (group_of shard core).waiting) a false

-- a shard is below its limit of blocks, or of roots, with so many more
abbrev pub has_block_room : ℕ → ℕ → Core → Bool
has_block_room shard more core = nat_lt (length (catalogue_of shard core).blocks + more) core.limits.blocks

abbrev pub has_root_room : ℕ → ℕ → Core → Bool
has_root_room shard more core = nat_lt (retained_count (catalogue_of shard core).roots + more) core.limits.roots

-- so is it for an operation: a root needs room for a root, and the others for a block
abbrev pub has_room : ℕ → Op → ℕ → ℕ → Core → Bool
has_room shard o blocks roots core = if puts_root o then has_root_room shard roots core else has_block_room shard blocks core

-- with the Blocks and Roots that have not taken effect there is no room
abbrev pub is_crowded : ℕ → Op → Core → Bool
is_crowded shard o core =
    not (has_room shard o (count_by is_block (group_of shard core).waiting) (count_by is_root (group_of shard core).waiting) core)

-- an operation has to wait for such an entry: a write for one of its address or for room, a root for room
abbrev pub is_pending : ℕ → Op → Core → Bool
is_pending shard (op.Write name payload handles a) core = is_coming shard a core || is_crowded shard (op.Write name payload handles a) core
is_pending shard (op.Root name key handle) core = is_crowded shard (op.Root name key handle) core
is_pending shard other core = false
