-- Bytes that a report tells, as those of the block that the plain store has.
use Rattle.std.specs.Prelude.{◌≡◌, ℕ, List, Option, Some, None}
use Rattle.hs_answered.specs.Asked.{HasBytes}
use Rattle.hs_answered.specs.Telling.{Judging}
use Rattle.hs_awaiting.specs.declared.waiting.Waiting.{Waiting}
use Rattle.hs_core_words.specs.Seeing.{view_for}
use Rattle.hs_core_words.specs.State.{Core}
use Rattle.hs_standing.specs.Telling.{store_so_far}
use Rattle.hs_model.specs.declared.op.Op.{Op}
use Rattle.hs_model.specs.declared.op.Op.TheVariants as op
use Rattle.hs_model.specs.Judge.{address_of, given_address}
use Rattle.hs_model.specs.Store.{Store, block_at}
use Rattle.hs_ops.specs.Operations.{wanted_number}
use Rattle.hs_ops.specs.Refusals.{refusal_of}

-- nothing refuses an operation by what it sees at its shard
abbrev pub IsFree : Core → ℕ → Op → Type 0
IsFree core shard o = refusal_of (view_for shard o core) o ≡ None

-- bytes are those of the block that an operation looks at: of a read where it is not refused now, and of a write only where the entry that it reads is still the one that stored it
abbrev pub AreOfBlock : Store → Core → Option (List ℕ) → Waiting → Op → Type 0
AreOfBlock s core bytes w (op.Read name handle) = IsFree core w.shard (op.Read name handle) → HasBytes (block_at s (address_of s name handle)) bytes
AreOfBlock s core bytes w (op.Write name payload handles address) =
    (view_for w.shard w.operation.op core).present ≡ Some (wanted_number w.operation.stage) → HasBytes (block_at s (given_address address)) bytes
AreOfBlock s core bytes w other = Unit {0}

-- an operation that waits is told the bytes of its block, as the plain store has it then
abbrev pub TellsItsBlock : Judging → Store → ℕ → Option (List ℕ) → Waiting → Core → Type 0
TellsItsBlock by start number bytes w core = AreOfBlock (store_so_far by start core) core bytes w w.operation.op
