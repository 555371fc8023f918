-- Operations by line, by session, by what they wait for, by what their Blocks store and by shard.
use Rattle.std.specs.BTreeMap.{is_at}
use Rattle.std.specs.Map.{lookup, set_value}
use Rattle.std.specs.Option.{option_and_then, option_map, option_map_or}
use Rattle.std.specs.Ordering.{nat_cmp}
use Rattle.std.specs.Prelude.{ℕ, ◌&&◌, Bool, false, List, Option, Some, None, map, filter, nat_le, unwrap_or, if◌then◌else◌}
use Rattle.hs_awaiting.specs.declared.table.Table.{Table}
use Rattle.hs_awaiting.specs.declared.wait.Wait.{Wait}
use Rattle.hs_awaiting.specs.declared.wait.Wait.TheVariants as wait
use Rattle.hs_awaiting.specs.declared.waiting.Waiting.{Waiting}
use Rattle.hs_awaiting.specs.Kinds.{puts_root, writes_block}
use Rattle.hs_model.specs.Op.{written_address}
use Rattle.hs_awaiting.specs.Views.{is_within, restarted}
use Rattle.hs_awaiting.specs.Words.{change_with, ◌▸◌}
use Rattle.hs_journal.specs.Order.{session_of}
use Rattle.hs_model.specs.declared.op.Op.{Op}
use Rattle.hs_model.specs.declared.op.Op.TheVariants as op
use Rattle.hs_tokens.specs.Seats.{name_cmp}
use Rattle.hs_waits.specs.Causes.{AreWaits, is_same}
use Rattle.hs_waits.specs.declared.cause.Cause.{Cause}
use Rattle.hs_waits.specs.declared.cause.Cause.TheVariants as cause
use Rattle.hs_waits.specs.Lines.{AreKept}

-- the operation of a line
abbrev pub found_in : List (ℕ × Waiting) → ℕ → Option Waiting
found_in es line = lookup (is_at (nat_cmp line)) es

-- ---- by what an operation is found

-- the session that asks
abbrev pub session_in : Waiting → Option (List ℕ)
session_in w = session_of (Some w.operation.op)

-- what an operation waits for, where an entry of its shard may wake it
abbrev pub block_cause : ℕ → Op → Cause
block_cause shard o = unwrap_or (option_map (λ a. cause.Block shard a) (written_address o)) (cause.Other shard)

abbrev pub room_cause : ℕ → Op → Option Cause
room_cause shard o =
    if writes_block o then Some (cause.BlockRoom shard) else (if puts_root o then Some (cause.RootRoom shard) else None)

abbrev pub wait_cause : ℕ → Op → Wait → Option Cause
wait_cause shard o wait.View = Some (cause.View shard)
wait_cause shard o wait.Address = Some (block_cause shard o)
wait_cause shard o wait.Room = room_cause shard o
wait_cause shard o (wait.Bytes number) = None
wait_cause shard o (wait.Entry number) = None

abbrev pub cause_of : Waiting → Option Cause
cause_of w = wait_cause w.shard w.operation.op w.wait

-- whether it waits for this
abbrev pub waits_for : Cause → Waiting → Bool
waits_for c w = option_map_or (λ d. is_same d c) (cause_of w) false

-- ---- by the block that a Block of its line stores

-- that of the address that a write names itself
abbrev pub store_cause : Op → Option Cause
store_cause (op.Write name payload handles a) = option_map (λ a. cause.Block 0 a) a
store_cause other = None

abbrev pub storing : Waiting → Option Cause
storing w = store_cause w.operation.op

-- whether it is of this address
abbrev pub stores : Cause → Waiting → Bool
stores c w = option_map_or (λ d. is_same d c) (storing w) false

-- the shard that judges it
abbrev pub shard_in : Waiting → Option ℕ
shard_in w = Some w.shard

-- ---- the indices

-- the lines stand by the sessions and the causes of these operations, and by nothing else
pub record IsIndexedBy (found : ℕ → Option Waiting) (names : List (List ℕ × ℕ)) (lines : List (Cause × ℕ)) : Type 0 where
  pub sessions : AreKept name_cmp (λ n. option_and_then session_in (found n)) names
  pub waits : AreWaits (λ n. option_and_then cause_of (found n)) lines

abbrev pub IsListed : Table → Type 0
IsListed t = IsIndexedBy (found_in t.map.entries) t.sessions t.waits

-- and by the blocks that their Blocks store
abbrev pub AreStored : (ℕ → Option Waiting) → List (Cause × ℕ) → Type 0
AreStored found lines = AreWaits (λ n. option_and_then storing (found n)) lines

-- and by their shards
abbrev pub AreSharded : (ℕ → Option Waiting) → List (ℕ × ℕ) → Type 0
AreSharded found lines = AreKept nat_cmp (λ n. option_and_then shard_in (found n)) lines

pub record IsIndexed (t : Table) : Type 0 where
  pub index : IsListed t
  pub stored : AreStored (found_in t.map.entries) t.stored
  pub shards : AreSharded (found_in t.map.entries) t.shards

-- ---- what changes

-- the operation of a line waits for this
abbrev pub wait_in : ℕ → Wait → List (ℕ × Waiting) → List (ℕ × Waiting)
wait_in line what es = es ▸ change_with (found_in es line) (λ w es. set_value (is_at (nat_cmp line)) es (record w { wait = what }))

-- the operation of a line starts again, but for one whose entry still stands in the lead's list, of which this is the last number
abbrev pub again_in : ℕ → ℕ → List (ℕ × Waiting) → List (ℕ × Waiting)
again_in line last es = es ▸ change_with (found_in es line) (λ w es. if is_within last w.wait then es else wait_in line wait.View es)

-- those from a line on start again
abbrev pub rest_again : ℕ → ℕ → ℕ → List (ℕ × Waiting) → List (ℕ × Waiting)
rest_again shard last from es = map (λ e. (e.0, if nat_le from e.0 then restarted shard last e.1 else e.1)) es

-- ---- walking

-- the lines from one on that pass a test
abbrev pub lines_from : ℕ → (Waiting → Bool) → List (ℕ × Waiting) → List ℕ
lines_from from test es = map (λ e. e.0) (filter (λ e. nat_le from e.0 && test e.1) es)

-- whether the operation of a line passes it
abbrev pub passes : (Waiting → Bool) → List (ℕ × Waiting) → ℕ → Bool
passes test es line = option_map_or test (found_in es line) false
