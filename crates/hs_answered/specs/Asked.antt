-- How an operation comes to its line, and its first step there.
use Rattle.std.specs.Prelude.{◌≡◌, ℕ, false, List, Option, Some, None, Ok}
use Rattle.hs_core_words.specs.Looking.{shape_of}
use Rattle.hs_core_words.specs.Operating.{busy_line}
use Rattle.hs_core_words.specs.Seeing.{view_for}
use Rattle.hs_core_words.specs.State.{Core}
use Rattle.hs_journal.specs.Events.{has_block}
use Rattle.hs_limits.specs.Block.{spell}
use Rattle.hs_limits.specs.Reading.{read_block}
use Rattle.hs_model.specs.declared.op.Op.{Op}
use Rattle.hs_model.specs.declared.op.Op.TheVariants as op
use Rattle.hs_model.specs.declared.store.StoredBlock.{StoredBlock}
use Rattle.hs_model.specs.Store.{Store, block_of}
use Rattle.hs_ops.specs.declared.step.OpStep.{OpStep}
use Rattle.hs_ops.specs.Operations.{go_step, new_operation}
use Rattle.hs_ops.specs.Speaking.{judging_shard}

-- a write comes without an address only where it has no block
abbrev pub IsAsked : Store → Op → Type 0
IsAsked s (op.Write name payload handles None) = has_block s name payload handles ≡ false
IsAsked s other = Unit {0}

-- the line by which it is refused as busy: that of its session's operation without an answer; one that opens a session never is
abbrev pub busy_with : Op → Core → Option ℕ
busy_with (op.Open name) core = None
busy_with other core = busy_line other core

-- its first step, by what it sees at its line
abbrev pub first_step : ℕ → Op → Core → OpStep
first_step line o core =
    let shard : ℕ = judging_shard (shape_of core).shards core.sessions o in
    go_step (record (view_for shard o (record core { progress = record core.progress { last_line = line } })) { busy = busy_line o core }) (new_operation line o)

-- bytes are those of a block: its spelling, which can be read; none are reported of one that is gone
abbrev pub HasBytes : Option StoredBlock → Option (List ℕ) → Type 0
HasBytes None bytes = bytes ≡ None
HasBytes (Some stored) bytes = (bytes ≡ Some (spell (block_of stored))) × (read_block (spell (block_of stored)) ≡ Ok (block_of stored))
