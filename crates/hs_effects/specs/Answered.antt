-- An operation that is answered by the effect of its entry.
use Rattle.std.specs.Prelude.{◌≡◌, ℕ, List, [], ◌∷◌, ◌++◌, Some, true, length}
use Rattle.hs_answered.specs.Judged.{entry_of, judged_at}
use Rattle.hs_answered.specs.Standing.{IsFolded, store_with}
use Rattle.hs_awaiting.specs.declared.waiting.Waiting.{Waiting}
use Rattle.hs_core_words.specs.Effects.{after_entry}
use Rattle.hs_core_words.specs.Looking.{operation_of}
use Rattle.hs_core_words.specs.State.{Core}
use Rattle.hs_effects.specs.Taking.{done_by, taken}
use Rattle.hs_entry.specs.declared.entry.Entry.{Entry}
use Rattle.hs_fold.specs.Runs.Facts.{Catalogue as Folded}
use Rattle.hs_limits.specs.declared.address.Address.{Address}
use Rattle.hs_model.specs.declared.op.Op.{Op}
use Rattle.hs_model.specs.declared.op.Op.TheVariants as op
use Rattle.hs_model.specs.declared.store.StoredBlock.{StoredBlock}
use Rattle.hs_model.specs.Judge.{written}
use Rattle.hs_model.specs.Refusals.{is_block}
use Rattle.hs_model.specs.Store.{block_at}
use Rattle.hs_tokens.specs.Seats.{Seats, found}

-- an entry of a shard has taken effect, and its operation has heard of it; what waited for that has not gone on yet
abbrev pub heard : ℕ → Entry → Core → Core
heard shard entry core = after_entry shard entry (done_by shard entry core).effect (taken shard entry core)

-- the operation of a line was answered as the judge says at the core before: its entry comes behind those of the event so far, and the store of these folds is the one that the judge leaves
pub record IsAnsweredBy (cs behind : List Folded) (before after : Core) (line : ℕ) (o : Op) : Type 0 where
  pub told : after.entries ≡ before.entries ++ entry_of line before.moment (judged_at cs before o) ∷ []
  pub left : store_with behind after.sessions ≡ (judged_at cs before o).store
  pub folded : IsFolded after behind

-- a line had an operation without an answer, and it was answered so
pub record HasAnswer (cs behind : List Folded) (before after : Core) (line : ℕ) : Type 0 where
  pub waiting : Waiting
  pub at : operation_of line before ≡ Some waiting
  pub answered : IsAnsweredBy cs behind before after line waiting.operation.op

-- each handle of an open session stands for an address of 32 bytes, as every address that a program holds
abbrev pub HoldAddresses : Seats → Type 0
HoldAddresses seats = (session : List ℕ) (handle : ℕ) → length (found seats session handle).address.0 ≡ 32

-- the block that is there at an address is the one that the operation of a line writes there
abbrev pub IsWritten : List Folded → Core → ℕ → Address → Type 0
IsWritten cs core line a =
    (w : Waiting) (session payload handles : List ℕ) (stored : StoredBlock) → operation_of line core ≡ Some w → w.operation.op ≡ op.Write session payload handles (Some a)
    → block_at (store_with cs core.sessions) a ≡ Some stored → is_block stored (written (store_with cs core.sessions) session payload handles) ≡ true
